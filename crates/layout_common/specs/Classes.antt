-- Classes of glyphs (OpenType, chapter 2, class definition table).
use Rattle.std.specs.Prelude.{ℕ, unwrap_or}
use Rattle.layout_common.specs.Rows.{value_of}
use Rattle.layout_common.specs.declared.class_definition.ClassDefinition.{ClassDefinition}

-- the class that a glyph's row gives, 0 where it has no row
abbrev pub class_of : ℕ → ClassDefinition → ℕ
class_of glyph classes = unwrap_or (value_of glyph classes.rows) 0
