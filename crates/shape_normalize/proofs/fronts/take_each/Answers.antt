use Rattle.buffer_lists.proofs.Lemmas.Neighbours.{rest_whole}
use Rattle.shape_normalize.proofs.Taken.{more_taken, none_more, nothing_taken}
use Rattle.shape_normalize.proofs.fronts.take_each.Goals as goal

pub loop-at-init : goal.loop-at-init
loop-at-init g c = record { taken = nothing_taken (g.N.Normalizing.normalizer c.args.by.now) c.args.glyphs.now; rows = c.requires.rows; known = c.requires.known }

pub loop-at-preserved : goal.loop-at-preserved
loop-at-preserved g c = record {
  taken =
      more_taken (g.N.Normalizing.normalizer c.args.by.now) c.loop-at.at c.take_group-count.result c.args.glyphs.now c.loop-at.glyphs _ c.take_group-count.new.glyphs c.loop-at.invariant.taken (rest_whole c.loop-at.at c.loop-at.glyphs)
      c.take_group-count.ensures.taken;
  rows = c.take_group-count.ensures.rows;
  known = c.take_group-count.ensures.known;
}

pub returns-then-count-eq0 : goal.returns-then-count-eq0
returns-then-count-eq0 g c =
    none_more (g.N.Normalizing.normalizer c.args.by.now) c.loop-at.at c.take_group-count.result c.args.glyphs.now _ c.if-count-eq0.true
    (more_taken (g.N.Normalizing.normalizer c.args.by.now) c.loop-at.at c.take_group-count.result c.args.glyphs.now c.loop-at.glyphs _ c.take_group-count.new.glyphs c.loop-at.invariant.taken (rest_whole c.loop-at.at c.loop-at.glyphs)
    c.take_group-count.ensures.taken)
