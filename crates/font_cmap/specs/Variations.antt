-- The glyphs of characters with a variation selector after them (OpenType, chapter 5, cmap, format 14).
use Rattle.std.specs.Prelude.{ℕ, zero, suc, ◌+◌, ◌*◌, ◌==◌, if◌then◌else◌, List, [], ◌∷◌, ◌++◌, Option, Some, None, Result, Ok}
use Rattle.std.specs.List.{flat_map}
use Rattle.std.specs.declared.cmp.Ordering.{Ordering}
use Rattle.std.specs.Ordering.{nat_cmp, ordering_then}
use Rattle.layout_face.specs.declared.parts.CharacterRow.{CharacterRow}
use Rattle.layout_face.specs.declared.parts.VariationRow.{VariationRow}
use Rattle.buffer_rows.specs.KeyOrder.{key_order}
use Rattle.font_bytes.specs.declared.fault.TableFault.{TableFault}
use Rattle.font_bytes.specs.Results.{and_then}
use Rattle.font_bytes.specs.Room.{room_after}
use Rattle.font_bytes.specs.Words.{need, byte, word, triple, long}
use Rattle.font_bytes.specs.Records.{records}
use Rattle.font_common.specs.Rows.{first_rows}
use Rattle.font_cmap.specs.Rows.{is_character}
use Rattle.font_cmap.specs.Encodings.{record_count, find_subtable}
use Rattle.font_cmap.specs.Encoded.{row_glyph}

-- ---- rows

-- the row of a selector and a character, none where one is no character or the glyph is 0
unfoldable pub variation_row : ℕ → ℕ → ℕ → List VariationRow
variation_row s c g = if g == 0 then [] else (if is_character c then (if is_character s then record { character = c; selector = s; glyph = g } ∷ [] else []) else [])

-- the rows of a selector and n characters from one on, by their usual glyphs
unfoldable pub variants_in : (ℕ → ℕ) → ℕ → ℕ → ℕ → List VariationRow
variants_in glyph s c zero = []
variants_in glyph s c (suc count) = variation_row s c (glyph c) ++ variants_in glyph s (c + 1) count

-- an offset itself
abbrev pub itself : ℕ → ℕ
itself at = at

-- UnicodeRange at an offset: startUnicodeValue at 0, additionalCount at 3
abbrev pub range_size : List ℕ → ℕ → ℕ
range_size table at = byte table (at + 3) + 1

-- the rows of a selector and a range of characters, which keep their usual glyphs
abbrev pub range_rows : List ℕ → (ℕ → ℕ) → ℕ → ℕ → List VariationRow
range_rows table glyph s at = variants_in glyph s (triple table at) (range_size table at)

-- how many characters ranges at offsets have
abbrev pub ranges_size : List ℕ → List ℕ → ℕ
ranges_size table [] = 0
ranges_size table (at ∷ ats) = range_size table at + ranges_size table ats

-- UVSMapping at an offset: unicodeValue at 0, glyphID at 3
abbrev pub mapping_row : List ℕ → ℕ → ℕ → List VariationRow
mapping_row table s at = variation_row s (triple table at) (word table (at + 3))

-- ---- tables

-- rows after others, with the room that is left
abbrev pub after : List VariationRow → Result (List VariationRow × ℕ) TableFault → Result (List VariationRow × ℕ) TableFault
after done rest = and_then rest (λ r. Ok (done ++ r.0, r.1))

-- DefaultUVS at an offset from a base: numUnicodeValueRanges at 0, ranges at 4; none at a null offset
unfoldable pub usual_at : List ℕ → (ℕ → ℕ) → ℕ → ℕ → ℕ → ℕ → Result (List VariationRow × ℕ) TableFault
usual_at table glyph s base offset room = if offset == 0 then Ok ([], room)
    else and_then (need table (base + offset) 4) (λ _. and_then (need table (base + offset + 4) (4 * long table (base + offset)))
    (λ _. and_then (room_after room (ranges_size table (records itself 4 (base + offset + 4) (long table (base + offset)))))
    (λ left. Ok (flat_map (range_rows table glyph s) (records itself 4 (base + offset + 4) (long table (base + offset))), left))))

-- NonDefaultUVS at an offset from a base: numUVSMappings at 0, mappings at 4; none at a null offset
unfoldable pub mappings_at : List ℕ → ℕ → ℕ → ℕ → ℕ → Result (List VariationRow × ℕ) TableFault
mappings_at table s base offset room = if offset == 0 then Ok ([], room)
    else and_then (need table (base + offset) 4) (λ _. and_then (need table (base + offset + 4) (5 * long table (base + offset)))
    (λ _. and_then (room_after room (long table (base + offset)))
    (λ left. Ok (flat_map (mapping_row table s) (records itself 5 (base + offset + 4) (long table (base + offset))), left))))

-- VariationSelector at an offset: varSelector at 0, defaultUVSOffset at 3, nonDefaultUVSOffset at 7, both from a base
unfoldable pub selector_at : List ℕ → (ℕ → ℕ) → ℕ → ℕ → ℕ → Result (List VariationRow × ℕ) TableFault
selector_at table glyph base room at = and_then (usual_at table glyph (triple table at) base (long table (at + 3)) room)
    (λ u. after u.0 (mappings_at table (triple table at) base (long table (at + 7)) u.1))

-- the rows of selectors at offsets in turn
abbrev pub selectors_in : List ℕ → (ℕ → ℕ) → ℕ → ℕ → List ℕ → Result (List VariationRow × ℕ) TableFault
selectors_in table glyph base room [] = Ok ([], room)
selectors_in table glyph base room (at ∷ ats) = and_then (selector_at table glyph base room at) (λ a. after a.0 (selectors_in table glyph base a.1 ats))

-- the subtable at an offset: format 14 at 0, numVarSelectorRecords at 6, records at 10, which take room
unfoldable pub selectors_at : List ℕ → (ℕ → ℕ) → ℕ → ℕ → Result (List VariationRow × ℕ) TableFault
selectors_at table glyph at room = and_then (need table at 10) (λ _. if word table at == 14
    then and_then (need table (at + 10) (11 * long table (at + 6))) (λ _. and_then (room_after room (long table (at + 6)))
    (λ left. selectors_in table glyph at left (records itself 11 (at + 10) (long table (at + 6)))))
    else Ok ([], room))

-- ---- order

-- the number by which variations are ordered: the character, then the selector
abbrev pub variation_key : VariationRow → ℕ
variation_key r = r.character * 1114112 + r.selector

-- the order of pairs of numbers
abbrev pub pair_order : ℕ × ℕ → ℕ × ℕ → Ordering
pair_order x y = ordering_then (nat_cmp x.0 y.0) (nat_cmp x.1 y.1)

-- rows by their characters and selectors, of each pair the first
unfoldable pub sorted_variations : List VariationRow → List VariationRow
sorted_variations rows = first_rows pair_order (λ r. (r.character, r.selector)) None (key_order variation_key rows)

-- the variations of a subtable, by their usual glyphs; none without one
abbrev pub variations_of : List ℕ → (ℕ → ℕ) → ℕ → Option ℕ → Result (List VariationRow × ℕ) TableFault
variations_of table glyph room None = Ok ([], room)
variations_of table glyph room (Some at) = and_then (selectors_at table glyph at room) (λ r. Ok (sorted_variations r.0, r.1))

-- the variations of the table, of the subtable of the platform Unicode with encoding 5, by the rows of its characters
unfoldable pub variations_at : ℕ → List ℕ → List CharacterRow → Result (List VariationRow × ℕ) TableFault
variations_at room table usual = and_then (record_count table) (λ count. variations_of table (row_glyph usual) room (find_subtable table count 0 5))
