-- Pairs of glyphs and their distances (OpenType, chapter kern, format 0).
use Rattle.std.specs.Prelude.{ℕ, ℤ, pos, ◌+◌, ◌*◌, ◌-ℤ◌, Bool, if◌then◌else◌, List, [], ◌∷◌, map, Option, Some, None, Result, Ok, Err}
use Rattle.std.specs.Int.{int_shr}
use Rattle.std.specs.Ordering.{nat_cmp}
use Rattle.font_bytes.specs.declared.fault.TableFault.{TableFault}
use Rattle.font_bytes.specs.Results.{and_then}
use Rattle.font_bytes.specs.Room.{room_after}
use Rattle.font_bytes.specs.Words.{need, word, signed_word}
use Rattle.font_bytes.specs.Records.{records}
use Rattle.buffer_rows.specs.KeyOrder.{key_order}
use Rattle.layout_tables.specs.declared.value.ValueRecord.{ValueRecord}
use Rattle.layout_tables.specs.declared.pair.PairValues.{PairValues}
use Rattle.layout_tables.specs.declared.pair.PairRow.{PairRow}
use Rattle.layout_tables.specs.PairRows.{pair_order}
use Rattle.font_common.specs.Rows.{first_rows}

-- ---- halves of a distance (HarfBuzz: hb_kern_machine_t)

-- the half that is rounded down is the left glyph's: its advance
abbrev pub left_value : ℤ → ValueRecord
left_value distance = record { x_placement = pos 0; y_placement = pos 0; x_advance = int_shr distance 1; y_advance = pos 0 }

-- the rest is the right glyph's: its offset and its advance
abbrev pub right_value : ℤ → ValueRecord
right_value distance = record {
  x_placement = distance -ℤ int_shr distance 1;
  y_placement = pos 0;
  x_advance = distance -ℤ int_shr distance 1;
  y_advance = pos 0;
}

-- the values of a pair, those of the glyph that comes first in the text first: the right one where it runs from right to left
abbrev pub kern_values : Bool → ℤ → PairValues
kern_values is_backward distance =
    if is_backward then record { first = right_value distance; second = Some (left_value distance) }
    else record { first = left_value distance; second = Some (right_value distance) }

-- ---- format 0

-- a pair: left at 0, right at 2, value at 4
abbrev pub pair_row : Bool → List ℕ → ℕ → PairRow
pair_row is_backward table at =
    if is_backward then record { first = word table (at + 2); second = word table at; values = kern_values is_backward (signed_word table (at + 4)) }
    else record { first = word table at; second = word table (at + 2); values = kern_values is_backward (signed_word table (at + 4)) }

-- nPairs at 0 of what follows the header, the pairs from 8 on; each takes a row of room
abbrev pub pairs_at : Bool → ℕ → List ℕ → ℕ → Result (List PairRow × ℕ) TableFault
pairs_at is_backward room table at = and_then (need table at 8) (λ _. and_then (room_after room (word table at)) (λ left.
    and_then (need table (at + 8) (6 * word table at)) (λ _. Ok (records (pair_row is_backward table) 6 (at + 8) (word table at), left))))

-- the two glyphs of a pair as one number
abbrev pub pair_number : PairRow → ℕ
pair_number r = r.first * 65536 + r.second

-- pairs in the order of their glyphs; of pairs of the same glyphs the first one counts
abbrev pub rows_of_pairs : List PairRow → List PairRow
rows_of_pairs pairs = first_rows pair_order (λ r. (r.first, r.second)) None (key_order pair_number pairs)

-- the glyphs that come first, each once
abbrev pub firsts_of : List PairRow → List ℕ
firsts_of rows = first_rows nat_cmp (λ g. g) None (map (λ r. r.first) rows)
