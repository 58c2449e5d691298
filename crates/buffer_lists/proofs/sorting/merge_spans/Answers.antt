use Rattle.std.proofs.Common.{ℕ, ◌<◌, ◌+◌, nat_lt, get_or, arith, ap, sym, ◌∙◌}
use Rattle.buffer_lists.proofs.Spans.{no_key, max_is, reach_more, spans_go_on, spans_end}
use Rattle.buffer_lists.proofs.Carried.{span_ordered, span_direction}
use Rattle.buffer_lists.proofs.sorting.merge_spans.Goals as goal

pub loop-index-preserved-then-index-reach : goal.loop-index-preserved-then-index-reach
loop-index-preserved-then-index-reach c =
    let inv = c.loop-index.invariant in
    let seen = λ (i : ℕ) (some : 0 < i). reach_more c.args.order.now c.loop-index.index c.loop-index.reach no_key c.loop-index-test.true inv.reach i some ∙ ap (λ n. nat_lt n i) (sym (c.max-reach.ensures ∙ max_is c.loop-index.reach (get_or c.args.order.now c.loop-index.index no_key).index)) in
    record {
      begun = omega (arith, inv.begun);
      known = inv.known;
      direction = inv.direction;
      due = inv.due;
      reach = seen;
      rest = spans_go_on c.args.level c.args.start c.args.order.now c.loop-index.begin c.loop-index.index c.max-reach.result _ _ c.loop-index-test.true c.if-index-reach.true seen inv.rest;
    }

pub loop-index-preserved : goal.loop-index-preserved
loop-index-preserved c =
    let inv = c.loop-index.invariant in
    let seen = λ (i : ℕ) (some : 0 < i). reach_more c.args.order.now c.loop-index.index c.loop-index.reach no_key c.loop-index-test.true inv.reach i some ∙ ap (λ n. nat_lt n i) (sym (c.max-reach.ensures ∙ max_is c.loop-index.reach (get_or c.args.order.now c.loop-index.index no_key).index)) in
    record {
      begun = omega arith;
      known = λ sure. span_ordered c.args.level (c.args.start + c.loop-index.begin) (c.args.start + (c.loop-index.index + 1)) _ _ (omega (arith, inv.begun)) c.merge_span-merges.ensures.merged (inv.known sure);
      direction = λ falls h. span_direction c.args.level (c.args.start + c.loop-index.begin) (c.args.start + (c.loop-index.index + 1)) _ _ (omega (arith, inv.begun)) c.merge_span-merges.ensures.merged falls (inv.direction falls h);
      due = c.merge_span-merges.ensures.due;
      reach = seen;
      rest = spans_end c.args.level c.args.start c.args.order.now c.loop-index.begin c.loop-index.index c.max-reach.result _ _ _ c.loop-index-test.true c.if-index-reach.false seen c.merge_span-merges.ensures.merged inv.rest;
    }
