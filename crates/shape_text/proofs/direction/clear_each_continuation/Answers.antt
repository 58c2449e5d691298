use Rattle.std.proofs.Common.{rules}
use Rattle.shape_text.specs.NativeOrder.{without_continuation}
use Rattle.shape_text.proofs.direction.clear_each_continuation.Goals as goal

pub returns : goal.returns
returns c = c.map_glyphs.ensures without_continuation (λ g h r. search rules)
