use Rattle.std.proofs.Common.{refl}
use Rattle.shape_pipeline.proofs.Phases.{chosen_followed, chosen_refused, chosen_refused_last, stage_refused}
use Rattle.shape_pipeline.proofs.shape_stages.ShapeStages.choose_characters.Goals as goal

pub returns : goal.returns
returns g c =
    chosen_followed _ c.args.buffer.now c.preprocess_text.new.buffer c.rotate_chars.new.buffer c.normalize.new.buffer refl c.in_ok-preprocess_text.ensures c.rotate_chars.ensures c.in_ok-normalize.ensures

pub returns-in_err-preprocess_text : goal.returns-in_err-preprocess_text
returns-in_err-preprocess_text g c =
    stage_refused c.from_residual.result c.in_err-preprocess_text.field-0.0 _ _ _ c.from_residual.ensures.1 (λ not_memory. chosen_refused _ c.args.buffer.now c.in_err-preprocess_text.field-0.0 (c.in_err-preprocess_text.ensures not_memory))

pub returns-in_err-normalize : goal.returns-in_err-normalize
returns-in_err-normalize g c =
    stage_refused c.from_residual-in_err-normalize.result c.in_err-normalize.field-0.0 _ _ _ c.from_residual-in_err-normalize.ensures.1 (λ not_memory. chosen_refused_last _ c.args.buffer.now c.preprocess_text.new.buffer c.rotate_chars.new.buffer c.in_err-normalize.field-0.0 refl c.in_ok-preprocess_text.ensures c.rotate_chars.ensures (c.in_err-normalize.ensures not_memory))
