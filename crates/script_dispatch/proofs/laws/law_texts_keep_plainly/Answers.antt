use Rattle.script_dispatch.specs.Lemmas.Keeping.Hangul.{texts_keep_plainly}
use Rattle.script_dispatch.proofs.laws.law_texts_keep_plainly.Goals as goal

pub returns : goal.returns
returns c = texts_keep_plainly
