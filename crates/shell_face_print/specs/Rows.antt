-- Rows of glyphs, sets and classes of glyphs (OpenType, chapter 2).
use Rattle.std.specs.Prelude.{ℕ, List, [], ◌∷◌}
use Rattle.serde_json.specs.Data.{Data}
use Rattle.layout_common.specs.declared.glyph_row.GlyphRow.{GlyphRow}
use Rattle.layout_common.specs.declared.class_definition.ClassDefinition.{ClassDefinition}
use Rattle.shell_print_json.specs.Values.{natural, row, list_of}

-- a glyph, followed by the fields of its row
abbrev pub glyph_row_json : {V : Type 0} → (V → List Data) → GlyphRow V → Data
glyph_row_json fields r = row (natural r.glyph ∷ fields r.value)

-- a set of glyphs (coverage table)
abbrev pub coverage_json : List ℕ → Data
coverage_json glyphs = list_of natural glyphs

-- rows of a glyph and its class (class definition table)
abbrev pub class_definition_json : ClassDefinition → Data
class_definition_json classes = list_of (glyph_row_json (λ class. natural class ∷ [])) classes.rows
