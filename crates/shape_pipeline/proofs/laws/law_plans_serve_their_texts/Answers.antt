use Rattle.shape_pipeline.proofs.Serving.{plans_serve_their_texts}
use Rattle.shape_pipeline.proofs.laws.law_plans_serve_their_texts.Goals as goal

pub returns : goal.returns
returns c = plans_serve_their_texts
