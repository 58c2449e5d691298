use Rattle.script_dispatch.specs.Lemmas.Keeping.Syllables.{syllables_keep_plainly}
use Rattle.script_dispatch.proofs.laws.law_syllables_keep_plainly.Goals as goal

pub returns : goal.returns
returns c = syllables_keep_plainly
