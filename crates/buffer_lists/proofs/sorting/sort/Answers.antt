use Rattle.std.proofs.Common.{ap, sym}
use Rattle.buffer_lists.specs.Sorting.{SpanMerge}
use Rattle.buffer_lists.proofs.OrderedKeys.{ordered_sort}
use Rattle.buffer_lists.proofs.sorting.sort.Goals as goal

pub returns-then-has_keys_in_order-clause-sorted : goal.returns-then-has_keys_in_order-clause-sorted
returns-then-has_keys_in_order-clause-sorted g c = λ k same.
    sym (ap (λ (s : SpanMerge). s.glyphs) (ordered_sort c.args.level c.args.start c.args.end k c.args.glyphs.now c.requires.ordered (c.has_keys_in_order.ensures k same c.if-has_keys_in_order.true)))

pub returns-then-has_keys_in_order-clause-marked : goal.returns-then-has_keys_in_order-clause-marked
returns-then-has_keys_in_order-clause-marked g c = λ k same.
    sym (ap (λ (s : SpanMerge). s.is_marked) (ordered_sort c.args.level c.args.start c.args.end k c.args.glyphs.now c.requires.ordered (c.has_keys_in_order.ensures k same c.if-has_keys_in_order.true)))
