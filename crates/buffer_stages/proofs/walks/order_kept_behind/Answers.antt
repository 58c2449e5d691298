use Rattle.std.specs.Prelude.{slice_range}
use Rattle.std.proofs.Common.{ap, ◌∙◌}
use Rattle.buffer_stages.specs.Moves.{are_one_cluster}
use Rattle.buffer_stages.specs.Lemmas.Ordered.{order_moved_behind}
use Rattle.buffer_stages.proofs.walks.order_kept_behind.Goals as goal

pub returns-clause-moved : goal.returns-clause-moved
returns-clause-moved c =
    order_moved_behind c.known_order-known.result c.if_kept.result c.are_one_cluster-is_one.result c.args.start c.args.end c.args.buffer.now.behind c.args.buffer.now.ahead c.if_kept.ensures
    (c.are_one_cluster-is_one.ensures ∙ ap (λ gs. are_one_cluster (slice_range gs c.args.start c.args.end)) c.out_info.ensures) c.known_order-known.ensures.order
