use Rattle.std.proofs.Common.{rules}
use Rattle.script_arabic.proofs.Wrapped.{next_is}
use Rattle.script_arabic.proofs.tile_positions.next_begin.Goals as goal

pub returns : goal.returns
returns c = λ at n e. next_is c.args.tile c.args.x at n c.ranges.x (search rules) (search rules) e
