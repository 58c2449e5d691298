-- The rows of the character tables.
use Rattle.std.specs.Prelude.{Result, Ok}
use Rattle.serde_json.specs.Data.{Data}
use Rattle.shell_json.specs.declared.fault.JsonFault.{JsonFault}
use Rattle.shell_json.specs.Cell.{and_then, character}
use Rattle.shell_json.specs.Items.{row_of_two, row_of_three, row_of_four, natural_number_below}
use Rattle.script_categories.specs.Indic.{ot_categories, ot_positions}
use Rattle.script_categories.specs.Joining.{joining_type_names}
use Rattle.script_categories.specs.Thai.{thai_actions}
use Rattle.script_categories.specs.Universal.{universal_categories}
use Rattle.shell_tables_json.specs.Rows.{number_of_name}
use Rattle.buffer_unicode.specs.declared.rows.Split.{Split}
use Rattle.buffer_unicode.specs.declared.rows.Pair.{Pair}
use Rattle.buffer_unicode.specs.declared.rows.CharacterClass.{CharacterClass}
use Rattle.buffer_unicode.specs.declared.rows.Counterpart.{Counterpart}
use Rattle.buffer_unicode.specs.declared.rows.CharacterRange.{CharacterRange}
use Rattle.buffer_unicode.specs.declared.rows.JoiningRow.{JoiningRow}
use Rattle.buffer_unicode.specs.declared.rows.IndicRow.{IndicRow}
use Rattle.buffer_unicode.specs.declared.rows.UniversalRow.{UniversalRow}
use Rattle.buffer_unicode.specs.declared.rows.ThaiRow.{ThaiRow}

-- [u, a, b]: a character and the two halves of its decomposition, the second 0 where there is only one
abbrev pub split_row : Data → Result Split JsonFault
split_row d = and_then (row_of_three character character character d) (λ p. Ok (record { whole = p.0; first = p.1.0; second = p.1.1 }))

-- [a, b, u]: two characters and their composition
abbrev pub pair : Data → Result Pair JsonFault
pair d = and_then (row_of_three character character character d) (λ p. Ok (record { first = p.0; second = p.1.0; whole = p.1.1 }))

-- [u, class]: a character and its combining class, 0 to 255
abbrev pub character_class : Data → Result CharacterClass JsonFault
character_class d = and_then (row_of_two character (natural_number_below 256) d) (λ p. Ok (record { character = p.0; class = p.1 }))

-- [u, v]: a character and its counterpart in another direction
abbrev pub counterpart : Data → Result Counterpart JsonFault
counterpart d = and_then (row_of_two character character d) (λ p. Ok (record { character = p.0; counterpart = p.1 }))

-- [first, last]: a range of characters
abbrev pub character_range : Data → Result CharacterRange JsonFault
character_range d = and_then (row_of_two character character d) (λ p. Ok (record { first = p.0; last = p.1 }))

-- [u, type]: a character and the name of its joining type
abbrev pub joining_row : Data → Result JoiningRow JsonFault
joining_row d = and_then (row_of_two character (number_of_name joining_type_names) d) (λ p. Ok (record { character = p.0; joining_type = p.1 }))

-- [u, category, position]: a character and the names of its Indic syllabic category and of its position
abbrev pub indic_row : Data → Result IndicRow JsonFault
indic_row d =
    and_then (row_of_three character (number_of_name ot_categories) (number_of_name ot_positions) d) (λ p.
    Ok (record { character = p.0; category = p.1.0; position = p.1.1 }))

-- [u, category]: a character and the name of its category for the universal shaper
abbrev pub universal_row : Data → Result UniversalRow JsonFault
universal_row d = and_then (row_of_two character (number_of_name universal_categories) d) (λ p. Ok (record { character = p.0; category = p.1 }))

-- [u, action, first, second]: a character, the name of an action, and two private-use characters, the first of which
-- that a font has replaces it by that action
abbrev pub thai_row : Data → Result ThaiRow JsonFault
thai_row d =
    and_then (row_of_four character (number_of_name thai_actions) character character d) (λ p.
    Ok (record { character = p.0; action = p.1.0; first = p.1.1.0; second = p.1.1.1 }))
