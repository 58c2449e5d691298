use Rattle.std.proofs.Common.{refl}
use Rattle.std.proofs.lemmas.Result.{on_ok_weaker}
use Rattle.shell_json.proofs.key_takers.Tuple2MemberTaker.take.Goals as goal

pub returns-then-not-wants-clause-ok : goal.returns-then-not-wants-clause-ok
returns-then-not-wants-clause-ok g c =
    on_ok_weaker c.take.result (λ ok. (ok.0, ok.1, λ ms was. (ok.2 ms was.0, c.if-not-wants.ensures refl ok.0 ms c.args.found.now.1 was.1))) c.take.ensures.ok

pub returns-clause-ok : goal.returns-clause-ok
returns-clause-ok g c =
    on_ok_weaker c.take-2.result (λ ok. (ok.0, ok.1, λ ms was. (c.if-wants.ensures refl ok.0 ms c.args.found.now.0 was.0, ok.2 ms was.1))) c.take-2.ensures.ok
