-- Anchors (OpenType, GPOS, shared tables: anchor tables).
use Rattle.std.specs.Prelude.{ℕ, ◌+◌, ◌*◌, ◌==◌, ◌||◌, Bool, if◌then◌else◌, List, Option, Some, None, Result, Ok}
use Rattle.font_bytes.specs.declared.fault.TableFault.{TableFault}
use Rattle.font_bytes.specs.Results.{and_then}
use Rattle.font_bytes.specs.Words.{need, word, signed_word}
use Rattle.font_records.specs.Turns.{array_at}
use Rattle.layout_tables.specs.declared.value.Anchor.{Anchor}

-- formats 1, 2 (with a contour point) and 3 (with devices)
abbrev pub is_anchor_format : ℕ → Bool
is_anchor_format format = format == 1 || format == 2 || format == 3

-- the anchor table at an offset: anchorFormat at 0, xCoordinate at 2, yCoordinate at 4; one of an unknown format is none
abbrev pub anchor_table : List ℕ → ℕ → Result (Option Anchor) TableFault
anchor_table table at = and_then (need table at 6) (λ _.
    if is_anchor_format (word table at) then Ok (Some (record { x = signed_word table (at + 2); y = signed_word table (at + 4) })) else Ok None)

-- the anchor whose offset from a base stands at an offset; a null offset is none
abbrev pub anchor_at : ℕ → List ℕ → ℕ → Result (Option Anchor) TableFault
anchor_at base table at = if word table at == 0 then Ok None else anchor_table table (base + word table at)

-- an item of an array of anchors, one for each class of marks
abbrev pub anchor_item : ℕ → List ℕ → ℕ → ℕ → Result (Option (Option Anchor) × ℕ) TableFault
anchor_item base table room at = and_then (anchor_at base table at) (λ a. Ok (Some a, room))

-- n anchors, whose offsets from a base stand one after another
abbrev pub anchor_list : ℕ → List ℕ → ℕ → ℕ → ℕ → Result (List (Option Anchor) × ℕ) TableFault
anchor_list base table at count room = array_at (anchor_item base table) 2 at count room
