use Rattle.std.proofs.Common.{rules}
use Rattle.script_arabic.proofs.Wrapped.{first_is}
use Rattle.script_arabic.proofs.tile_positions.first_begin.Goals as goal

pub returns : goal.returns
returns c = λ at e. first_is c.args.tile c.args.x at c.ranges.x (search rules) e
