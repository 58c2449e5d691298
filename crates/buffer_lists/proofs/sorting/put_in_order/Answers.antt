use Rattle.buffer_lists.specs.declared.sorting.KeyedIndex.{KeyedIndex}
use Rattle.buffer_lists.specs.Sorting.{glyph_at}
use Rattle.std.proofs.Common.{get_or, refl}
use Rattle.buffer_lists.proofs.Lemmas.Neighbours.{no_glyph}
use Rattle.buffer_lists.proofs.Spans.{no_key, put_step, same_step}
use Rattle.buffer_lists.proofs.sorting.put_in_order.Goals as goal

pub loop-index-preserved : goal.loop-index-preserved
loop-index-preserved c =
    let inv = c.loop-index.invariant in
    let taken = λ (e : KeyedIndex). glyph_at c.args.copy.now e.index in
    let glyph = taken (get_or c.args.order.now c.loop-index.index no_key) in
    record {
      put = put_step taken c.args.order.now c.args.range.now c.loop-index.range c.loop-index.index no_key glyph no_glyph c.loop-index-test.true c.requires.long inv.put refl;
      same = same_step taken c.args.order.now c.args.range.now c.loop-index.range c.loop-index.index glyph no_glyph c.loop-index.same c.loop-index-test.true c.requires.long inv.put inv.same;
    }
