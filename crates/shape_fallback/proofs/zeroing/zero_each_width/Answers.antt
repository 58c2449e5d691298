use Rattle.std.proofs.Common.{rules}
use Rattle.shape_fallback.specs.Zeroing.{mark_zeroed}
use Rattle.shape_fallback.proofs.zeroing.zero_each_width.Goals as goal

pub returns : goal.returns
returns c = c.change_positions.ensures (mark_zeroed c.args.adjust_offsets) (λ g p q r. search rules)
