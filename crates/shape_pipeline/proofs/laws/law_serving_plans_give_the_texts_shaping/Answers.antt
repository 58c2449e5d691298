use Rattle.shape_pipeline.proofs.Serving.{serving_plans_give}
use Rattle.shape_pipeline.proofs.laws.law_serving_plans_give_the_texts_shaping.Goals as goal

pub returns : goal.returns
returns c = serving_plans_give
