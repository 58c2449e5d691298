use Rattle.buffer_stages.proofs.Loops.{AreWritten}
use Rattle.shape_pipeline.specs.Glyphs.{as_classed_glyph}
use Rattle.shape_pipeline.specs.KnownGlyphs.{AreKnown}
use Rattle.shape_pipeline.proofs.classed_glyphs.class_each.Given as goal

-- the glyphs before an index have their classes, and what is remembered is true
abbrev pub invariant-loop-glyph : goal.invariant-loop-glyph
invariant-loop-glyph l = record {
  written : AreWritten (as_classed_glyph l.face) l.glyph-index l.initial.glyphs l.glyphs;
  known : AreKnown l.face l.rows;
}
