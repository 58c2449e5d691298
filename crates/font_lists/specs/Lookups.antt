-- Lookups and where their subtables stand (OpenType, chapter 2, lookup list and lookup tables; GSUB lookup type 7 and GPOS
-- lookup type 9, extensions).
use Rattle.std.specs.Prelude.{ℕ, ◌+◌, ◌*◌, ◌==◌, nat_lt, if◌then◌else◌, List, [], ◌∷◌, Option, Some, None, bit_and, Result, Ok}
use Rattle.font_bytes.specs.declared.fault.TableFault.{TableFault}
use Rattle.font_bytes.specs.Results.{and_then}
use Rattle.font_bytes.specs.Room.{room_after}
use Rattle.font_bytes.specs.Words.{need, word, long}
use Rattle.font_records.specs.Turns.{array_at, if_any, in_turn}
use Rattle.font_lists.specs.declared.lookups.LookupHead.{LookupHead}
use Rattle.font_lists.specs.declared.lookups.SubtableOffset.{SubtableOffset}

-- ---- subtables

-- an extension subtable: extensionLookupType at 2, extensionOffset (Offset32) at 4; none where that is null or the format
-- isn't 1
abbrev pub extension_offset : List ℕ → ℕ → Result (Option SubtableOffset) TableFault
extension_offset table at = and_then (need table at 8) (λ _. if word table at == 1
    then (if long table (at + 4) == 0 then Ok None else Ok (Some (record { lookup_type = word table (at + 2); at = at + long table (at + 4) })))
    else Ok None)

-- the subtable whose offset from a base stands at an offset, in a lookup of a type, with its type and its own offset where it is
-- an extension; none where its offset is null
abbrev pub subtable_offset : ℕ → ℕ → ℕ → List ℕ → ℕ → Result (Option SubtableOffset) TableFault
subtable_offset extension lookup_type base table at = if word table at == 0 then Ok None
    else (if lookup_type == extension then extension_offset table (base + word table at) else Ok (Some (record { lookup_type = lookup_type; at = base + word table at })))

-- what a subtable's offset leads to, with the room that was left
abbrev pub subtable_in_room : ℕ → ℕ → ℕ → List ℕ → ℕ → ℕ → Result (Option SubtableOffset × ℕ) TableFault
subtable_in_room extension lookup_type base table room at = and_then (subtable_offset extension lookup_type base table at) (λ p. Ok (p, room))

-- the type of a lookup is that of its first subtable, and of an unknown one where it has none
abbrev pub type_of : List SubtableOffset → ℕ
type_of [] = 0
type_of (p ∷ ps) = p.lookup_type

-- ---- lookups

-- the index of the mark filtering set of a lookup with a flag, in a font of n sets: at an offset where
-- USE_MARK_FILTERING_SET is set; none where the font has no such set
abbrev pub filtering_set : ℕ → ℕ → List ℕ → ℕ → Option ℕ
filtering_set set_count flags table at = if bit_and flags 16 == 0 then None else (if nat_lt (word table at) set_count then Some (word table at) else None)

-- how many bytes the index of a mark filtering set takes
abbrev pub set_width : ℕ → ℕ
set_width flags = if bit_and flags 16 == 0 then 0 else 2

-- a lookup table: lookupType at 0, lookupFlag at 2, subTableCount at 4, subtableOffsets at 6, then markFilteringSet. A
-- subtable takes 64 rows of room
abbrev pub lookup_head_at : ℕ → ℕ → ℕ → List ℕ → ℕ → Result (LookupHead × ℕ) TableFault
lookup_head_at extension set_count room table at = and_then (need table at 6)
    (λ _. and_then (need table (at + 6) (2 * word table (at + 4) + set_width (word table (at + 2)))) (λ _. and_then (room_after room (63 * word table (at + 4)))
    (λ left. and_then (array_at (subtable_in_room extension (word table at) at table) 2 (at + 6) (word table (at + 4)) left)
    (λ ps. Ok (
      record {
        flags = word table (at + 2);
        set = filtering_set set_count (word table (at + 2)) table (at + 6 + 2 * word table (at + 4));
        subtables = ps.0;
      },
      ps.1,
    )))))

-- the subtable at an offset, if it is of a type; one of another type is left out, and one that isn't known
abbrev pub subtable_of_type : {S : Type 0} → (ℕ → List ℕ → ℕ → Result (Option S × ℕ) TableFault) → List ℕ → ℕ → ℕ → SubtableOffset → Result (Option S × ℕ) TableFault
subtable_of_type read table lookup_type room p = if p.lookup_type == lookup_type then read room table p.at else Ok (None, room)

-- the subtables at offsets, in turn, that are of a type
abbrev pub subtables_of_type : {S : Type 0} → (ℕ → List ℕ → ℕ → Result (Option S × ℕ) TableFault) → ℕ → List ℕ → ℕ → List SubtableOffset → Result (List S × ℕ) TableFault
subtables_of_type read room table lookup_type ps = in_turn (λ r p. if_any (subtable_of_type read table lookup_type r p)) room ps

-- the subtables at offsets that are of the type of the first
abbrev pub subtables_in : {S : Type 0} → (ℕ → List ℕ → ℕ → Result (Option S × ℕ) TableFault) → ℕ → List ℕ → List SubtableOffset → Result (List S × ℕ) TableFault
subtables_in read room table ps = subtables_of_type read room table (type_of ps) ps

-- a lookup's subtables of the type of the first, in the form of that type
abbrev pub subtables_of : {S L : Type 0} → (List S → L) → (ℕ → List ℕ → ℕ → Result (Option S × ℕ) TableFault) → ℕ → List ℕ → List SubtableOffset → Result (L × ℕ) TableFault
subtables_of form read room table ps = and_then (subtables_in read room table ps) (λ s. Ok (form s.0, s.1))
