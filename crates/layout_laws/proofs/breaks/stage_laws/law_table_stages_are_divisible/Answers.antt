use Rattle.layout_laws.proofs.BreakLemmas.Stages.{table_stages_are_divisible}
use Rattle.layout_laws.proofs.breaks.stage_laws.law_table_stages_are_divisible.Goals as goal

pub returns : goal.returns
returns c = table_stages_are_divisible
