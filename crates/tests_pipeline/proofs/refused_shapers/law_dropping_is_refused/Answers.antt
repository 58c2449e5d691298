use Rattle.tests_pipeline.proofs.Refused.{dropping_is_refused}
use Rattle.tests_pipeline.proofs.refused_shapers.law_dropping_is_refused.Goals as goal

pub returns : goal.returns
returns c = dropping_is_refused
