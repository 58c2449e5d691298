use Rattle.std.proofs.Common.{refl}
use Rattle.std.proofs.lemmas.Result.{IfOk-weaker}
use Rattle.serde_json.specs.View.{view}
use Rattle.shell_json.proofs.key_takers.WholeValueTaker.take_value.Goals as goal

pub returns-clause-ok : goal.returns-clause-ok
returns-clause-ok c = IfOk-weaker c.read_value.result _ _ (λ v ok. (view v, ok, refl)) c.read_value.ensures.ok
