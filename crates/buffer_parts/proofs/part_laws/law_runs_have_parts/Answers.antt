use Rattle.buffer_parts.specs.Lemmas.Stages.{runs_have_parts}
use Rattle.buffer_parts.proofs.part_laws.law_runs_have_parts.Goals as goal

pub returns : goal.returns
returns c = runs_have_parts
