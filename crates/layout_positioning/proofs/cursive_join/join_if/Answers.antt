use Rattle.layout_match.specs.Applied.{apply_context_of}
use Rattle.layout_positioning.proofs.Joined.{both_joined}
use Rattle.layout_positioning.proofs.cursive_join.join_if.Goals as goal

pub returns : goal.returns
returns c = λ r. both_joined r c.args.back c.args.buffer.now.direction (apply_context_of c.args.ctx.now) c.args.exit c.in-Some.exit c.args.entry c.args.buffer.now c.join.new.buffer c.in-Some.is (c.join.ensures r)
