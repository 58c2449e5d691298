use Rattle.buffer_parts.specs.Lemmas.Alike.{chains_depend_on_no_length}
use Rattle.buffer_parts.proofs.length_laws.law_chains_depend_on_no_length.Goals as goal

pub returns : goal.returns
returns c = chains_depend_on_no_length
