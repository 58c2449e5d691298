-- The characters of the table cmap and their glyphs.
use Rattle.std.specs.Prelude.{ℕ, List, [], Option, Some, None, Result, Ok}
use Rattle.layout_face.specs.declared.parts.CharacterRow.{CharacterRow}
use Rattle.font_bytes.specs.declared.fault.TableFault.{TableFault}
use Rattle.font_bytes.specs.Results.{and_then}
use Rattle.font_cmap.specs.declared.encodings.Encoding.{Encoding}
use Rattle.font_cmap.specs.Subtables.{ranges_at, rows_of_array}
use Rattle.font_cmap.specs.Encodings.{chosen_subtable}
use Rattle.font_cmap.specs.Encoded.{encoded_rows}

-- the characters of the subtable at an offset, of an encoding, and the room that they leave
unfoldable pub characters_of : ℕ → List ℕ → Encoding → ℕ → Result (List CharacterRow × ℕ) TableFault
characters_of room table e at = and_then (ranges_at table at) (λ a. and_then (rows_of_array room table a) (λ r. Ok (encoded_rows table a e r.0, r.1)))

-- the characters of the chosen subtable; none without one
abbrev pub characters_chosen : ℕ → List ℕ → Option (Encoding × ℕ) → Result (List CharacterRow × ℕ) TableFault
characters_chosen room table None = Ok ([], room)
characters_chosen room table (Some c) = characters_of room table c.0 c.1

-- the characters of the table and their glyphs, and the room that they leave
unfoldable pub characters_at : ℕ → List ℕ → Result (List CharacterRow × ℕ) TableFault
characters_at room table = and_then (chosen_subtable table) (characters_chosen room table)
