use Rattle.buffer_stages.specs.Stages.{with_items_mapped}
use Rattle.shape_text.specs.NativeOrder.{in_native_order, without_continuation}
use Rattle.shape_text.proofs.Turned.{both_followed}
use Rattle.shape_text.proofs.direction.ensure_native_direction.Goals as goal

pub returns : goal.returns
returns c = both_followed (in_native_order c.args.buffer.now.script) (with_items_mapped without_continuation) c.args.buffer.now c.order_graphemes.new.buffer c.clear_continuations.new.buffer c.order_graphemes.ensures c.clear_continuations.ensures
