use Rattle.std.proofs.Common.{rules}
use Rattle.buffer_wrappers.proofs.Steps.{near_step}
use Rattle.buffer_wrappers.proofs.pen.Pen.moved.Goals as goal

pub returns-clause-near : goal.returns-clause-near
returns-clause-near c = λ bound h. near_step bound c.args.self _ c.args.position.now.x_advance c.args.position.now.y_advance (search rules) (search rules) (search rules) h
