use Rattle.shell_json.proofs.Found.{found_before}
use Rattle.shell_json.proofs.key_takers.KeyMemberTaker.wants.Goals as goal

pub returns : goal.returns
returns g c =
    λ no d ms found was.
    found_before (g.T.ValueTaker.means c.args.self.now.taker) c.args.name.now c.args.self.now.name.now d ms found (c.same_name.ensures.no no) was
