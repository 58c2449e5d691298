use Rattle.script_joining.specs.Lemmas.Steady.{joining_is_steady}
use Rattle.script_joining.proofs.laws.law_joining_is_steady.Goals as goal

pub returns : goal.returns
returns c = joining_is_steady
