-- The glyphs that replace a glyph (OpenType, GSUB lookup types 2 and 3).
use Rattle.std.specs.Prelude.{ℕ, List, Option, option_map}
use Rattle.buffer_rows.specs.Keys.{row_of}
use Rattle.layout_tables.specs.declared.sequence.SequenceRow.{SequenceRow}

-- the sequence, or the alternates, of a glyph
abbrev pub glyphs_of : ℕ → List SequenceRow → Option (List ℕ)
glyphs_of glyph rows = option_map (λ r. r.glyphs) (row_of (λ r. r.glyph) glyph rows)
