use Rattle.std.proofs.Common.{arith}
use Rattle.std.proofs.lemmas.List.{length-map}
use Rattle.buffer_glyphs.specs.Items.{item_of, strip}
use Rattle.shape_normalize.proofs.Uncomposed.{search_begun, search_more}
use Rattle.shape_normalize.proofs.searching.first_composition.Goals as goal

pub loop-at-init : goal.loop-at-init
loop-at-init g c = search_begun (g.N.Normalizing.normalizer c.args.by.now) c.args.glyphs.now c.if-count-eq0.false

pub loop-at-preserved : goal.loop-at-preserved
loop-at-preserved g c =
    let lt = c.loop-at-test.true in
    search_more (g.N.Normalizing.normalizer c.args.by.now) c.loop-at.at c.loop-at.starter c.next_starter-starter.result (strip c.args.glyphs.now) (omega (arith, lt, length-map c.args.glyphs.now item_of)) c.loop-at.invariant
    (c.is_composed.ensures c.if-is_composed.false) c.next_starter-starter.ensures
