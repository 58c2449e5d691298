use Rattle.std.proofs.Common.{sym, ap, ◌∙◌}
use Rattle.buffer_common.specs.Direction.{is_backward}
use Rattle.shape_pipeline.proofs.Placed.{turned_drawn}
use Rattle.shape_pipeline.proofs.shape_stages.draw.Goals as goal

pub returns-then-is_backward : goal.returns-then-is_backward
returns-then-is_backward c =
    turned_drawn c.args.buffer.now c.reverse.new.self (ap is_backward (sym c.direction.ensures) ∙ sym c.is_backward.ensures ∙ c.if-is_backward.true) c.reverse.ensures.turned c.requires
