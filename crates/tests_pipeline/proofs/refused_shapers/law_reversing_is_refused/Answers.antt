use Rattle.tests_pipeline.proofs.Refused.{reversing_is_refused}
use Rattle.tests_pipeline.proofs.refused_shapers.law_reversing_is_refused.Goals as goal

pub returns : goal.returns
returns c = reversing_is_refused
