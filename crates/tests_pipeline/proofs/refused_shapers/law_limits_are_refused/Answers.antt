use Rattle.tests_pipeline.proofs.Refused.{limits_are_refused}
use Rattle.tests_pipeline.proofs.refused_shapers.law_limits_are_refused.Goals as goal

pub returns : goal.returns
returns c = limits_are_refused
