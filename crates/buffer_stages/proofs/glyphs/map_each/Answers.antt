use Rattle.std.proofs.Common.{refl, arith}
use Rattle.std.proofs.lemmas.Fn.{says_at}
use Rattle.buffer_stages.proofs.Loops.{none_written, next_written, next_kept, all_written}
use Rattle.buffer_stages.proofs.glyphs.map_each.Goals as goal

pub loop-glyph-init : goal.loop-glyph-init
loop-glyph-init g c = (λ k same. none_written k _, λ is. refl)

pub loop-glyph-preserved : goal.loop-glyph-preserved
loop-glyph-preserved g c = (
  λ k same. next_written k c.args.glyphs.now c.loop-glyph.glyphs c.loop-glyph.glyph-index _ c.make-made.result (omega arith) (same _ _ (says_at g.F.Fn c.make-made.ensures refl)) (c.loop-glyph.invariant.0 k same),
  λ is. next_kept c.args.glyphs.now c.loop-glyph.glyphs c.loop-glyph.glyph-index _ c.make-made.result c.loop-glyph.kept c.loop-glyph.invariant.1 is,
)

pub returns-clause-mapped : goal.returns-clause-mapped
returns-clause-mapped g c = λ k same. all_written k c.args.glyphs.now c.loop-glyph.glyphs c.loop-glyph.glyph-index (omega arith) (c.loop-glyph.invariant.0 k same)

pub returns-clause-kept : goal.returns-clause-kept
returns-clause-kept g c = c.loop-glyph.invariant.1
