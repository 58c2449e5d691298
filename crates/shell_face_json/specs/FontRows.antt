-- The rows of a font's keys; glyph numbers are below the limit.
use Rattle.std.specs.Prelude.{ℕ, List, Result, Ok}
use Rattle.std.specs.Option.{ok_or}
use Rattle.serde_json.specs.Data.{Data, Items}
use Rattle.serde_json.specs.Find.{as_str}
use Rattle.shell_json.specs.declared.fault.JsonFault.{JsonFault}
use Rattle.shell_json.specs.declared.fault.JsonFault.TheVariants.{WrongShape}
use Rattle.shell_json.specs.Cell.{and_then, character, i16_value}
use Rattle.buffer_glyphs.specs.declared.names.hb_glyph_extents_t.{hb_glyph_extents_t}
use Rattle.shell_face_json.specs.Lists.{number_below}
use Rattle.shell_face_json.specs.Row.{first_and_rest, no_more, row_of_two, row_of_three}
use Rattle.layout_face.specs.Names.{GlyphName}
use Rattle.layout_face.specs.declared.parts.CharacterRow.{CharacterRow}
use Rattle.layout_face.specs.declared.parts.VariationRow.{VariationRow}

-- a character and its glyph
abbrev pub character_row : ℕ → Data → Result CharacterRow JsonFault
character_row limit d = and_then (row_of_two character (number_below limit) d) (λ p. Ok (record { character = p.0; glyph = p.1.0 }))

-- a character, a variation selector and the glyph of both
abbrev pub variation_row : ℕ → Data → Result VariationRow JsonFault
variation_row limit d =
    and_then (row_of_three character character (number_below limit) d) (λ p. Ok (record { character = p.0; selector = p.1.0; glyph = p.1.1.0 }))

-- glyph extents: x and y bearing, width and height
abbrev pub extents : Items → Result hb_glyph_extents_t JsonFault
extents ds =
    and_then (first_and_rest i16_value (first_and_rest i16_value (first_and_rest i16_value (first_and_rest i16_value no_more))) ds) (λ p.
    Ok (record { x_bearing = p.0; y_bearing = p.1.0; width = p.1.1.0; height = p.1.1.1.0 }))

-- the name of a glyph: any text
abbrev pub glyph_name : Data → Result (List ℕ) JsonFault
glyph_name d = ok_or (as_str d) WrongShape

-- a glyph and its name
abbrev pub name_row : ℕ → Data → Result GlyphName JsonFault
name_row limit d = and_then (row_of_two (number_below limit) glyph_name d) (λ p. Ok (record { glyph = p.0; name = p.1.0 }))
