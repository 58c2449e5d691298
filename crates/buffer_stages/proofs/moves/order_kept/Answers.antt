use Rattle.std.specs.Prelude.{slice_range}
use Rattle.std.proofs.Common.{ap, subst, sym, ◌∙◌}
use Rattle.buffer_glyphs.specs.Items.{clusters}
use Rattle.buffer_glyphs.specs.Order.{IsInOrder}
use Rattle.buffer_core.specs.Sides.{all_glyphs}
use Rattle.buffer_stages.specs.Moves.{are_one_cluster}
use Rattle.buffer_stages.proofs.moves.order_kept.Goals as goal

pub returns-clause-kept : goal.returns-clause-kept
returns-clause-kept c gs same =
    let one = c.are_one_cluster-is_one.ensures ∙ ap (λ hs. are_one_cluster (slice_range hs c.args.start c.args.end)) c.info_slice.ensures in
    c.if_kept.ensures (clusters (all_glyphs c.args.buffer.now)) (clusters gs) (λ falls is_one h. subst (IsInOrder falls) (sym (same (sym one ∙ is_one))) h) c.known_order-known.ensures.order
