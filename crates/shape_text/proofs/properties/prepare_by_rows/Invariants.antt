use Rattle.shape_text.proofs.Prepared.{ArePrepared}
use Rattle.shape_text.specs.KnownCharacters.{AreKnown}
use Rattle.shape_text.proofs.properties.prepare_by_rows.Given as goal

-- the glyphs before an index are prepared, and what is remembered is true
abbrev pub invariant-loop-glyph : goal.invariant-loop-glyph
invariant-loop-glyph l = record {
  prepared : ArePrepared l.tables l.glyph-index l.before l.scratch_flags l.initial.scratch_flags l.initial.glyphs l.glyphs;
  known : AreKnown l.tables l.rows;
}
