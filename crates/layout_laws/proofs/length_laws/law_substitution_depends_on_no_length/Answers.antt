use Rattle.layout_laws.proofs.Lemmas.Lengths.{substitution_depends_on_no_length}
use Rattle.layout_laws.proofs.length_laws.law_substitution_depends_on_no_length.Goals as goal

pub returns : goal.returns
returns c = substitution_depends_on_no_length
