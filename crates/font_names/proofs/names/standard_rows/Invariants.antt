use Rattle.std.proofs.Common.{◌≡◌, ◌-◌, ◌++◌, min}
use Rattle.font_names.specs.Strings.{string_in}
use Rattle.font_names.specs.Names.{name_rows}
use Rattle.font_names.proofs.names.standard_rows.Given as goal

-- the rows so far and those of the glyphs that are left are all
abbrev pub invariant-loop-glyph : goal.invariant-loop-glyph
invariant-loop-glyph l = l.rows.items ++ name_rows (string_in l.names l.starts.items) l.glyph (l.glyph-end - l.glyph) ≡ name_rows (string_in l.names l.starts.items) 0 l.glyph-end
