use Rattle.std.proofs.Common.{refl}
use Rattle.shell_json.proofs.Found.{found_here}
use Rattle.shell_json.proofs.key_takers.KeyMemberTaker.take.Goals as goal

pub returns-clause-ok : goal.returns-clause-ok
returns-clause-ok g c =
    let took = c.in_ok-take_value.ensures.ok in (
      took.0,
      took.1,
      λ ms was. found_here (g.T.ValueTaker.means c.args.self.now.taker) c.args.name.now c.args.self.now.name.now took.0 ms c.in_ok-take_value.field-0 (c.if-not-same_name.ensures.yes refl) took.2,
    )
