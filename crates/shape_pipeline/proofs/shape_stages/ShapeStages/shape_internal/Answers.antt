use Rattle.std.proofs.Common.{refl, ◌∙◌}
use Rattle.shape_pipeline.proofs.Lemmas.Chains.{done_followed}
use Rattle.shape_pipeline.proofs.Numbers.{result_of}
use Rattle.shape_pipeline.proofs.Phases.{after_followed, after_refused, after_refused_last, after_refused_then, before_followed, before_refused, before_refused_last, before_refused_then}
use Rattle.shape_pipeline.proofs.Whole.{reading_followed, reading_refused, reading_refused_late}
use Rattle.shape_pipeline.proofs.shape_stages.ShapeStages.shape_internal.Goals as goal
use Rattle.buffer_facts.proofs.Results.{passed_on}

pub returns-clause-ok : goal.returns-clause-ok
returns-clause-ok g c =
    reading_followed _ c.args.buffer.now c.setup_masks.new.buffer c.setup_ranges.new.buffer c.end_text.new.buffer refl
    (before_followed _ c.args.buffer.now c.begin_text.new.buffer c.choose_characters.new.buffer c.setup_masks.new.buffer refl c.in_ok-begin_text.ensures c.in_ok-choose_characters.ensures c.in_ok-setup_masks.ensures)
    c.setup_ranges.ensures
    (after_followed _ c.setup_ranges.new.buffer c.substitute_pre.new.buffer c.position.new.buffer c.end_text.new.buffer refl c.in_ok-substitute_pre.ensures.stage c.in_ok-position.ensures (done_followed _ c.position.new.buffer c.end_text.new.buffer c.in_ok-end_text.ensures.stage))

pub returns-clause-handed_on : goal.returns-clause-handed_on
returns-clause-handed_on g c =
    let end = c.in_ok-end_text.ensures in
    let position = c.in_ok-position.ensures in
    let substituted = c.in_ok-substitute_pre.ensures in
    result_of c.args.self.now.plan.now.script_plan.direction c.args.buffer.now c.end_text.new.buffer
    (end.stage.settings ∙ position.settings ∙ substituted.stage.settings ∙ c.setup_ranges.ensures.settings ∙ c.in_ok-setup_masks.ensures.settings ∙ c.in_ok-choose_characters.ensures.settings ∙ c.in_ok-begin_text.ensures.settings)
    (end.stage.numbers (position.numbers substituted.numbers)) end.stage.ready end.left

-- ---- the first stage that refuses

pub returns-in_err-begin_text-clause-err : goal.returns-in_err-begin_text-clause-err
returns-in_err-begin_text-clause-err g c =
    passed_on c.from_residual.result c.in_err-begin_text.field-0.0 _ c.from_residual.ensures.1 (λ not_memory. reading_refused _ c.args.buffer.now c.in_err-begin_text.field-0.0
    (before_refused _ c.args.buffer.now c.in_err-begin_text.field-0.0 (c.in_err-begin_text.ensures not_memory)))

pub returns-in_err-choose_characters-clause-err : goal.returns-in_err-choose_characters-clause-err
returns-in_err-choose_characters-clause-err g c =
    passed_on c.from_residual-in_err-choose_characters.result c.in_err-choose_characters.field-0.0 _ c.from_residual-in_err-choose_characters.ensures.1 (λ not_memory. reading_refused _ c.args.buffer.now c.in_err-choose_characters.field-0.0
    (before_refused_then _ c.args.buffer.now c.begin_text.new.buffer c.in_err-choose_characters.field-0.0 refl c.in_ok-begin_text.ensures (c.in_err-choose_characters.ensures not_memory)))

pub returns-in_err-setup_masks-clause-err : goal.returns-in_err-setup_masks-clause-err
returns-in_err-setup_masks-clause-err g c =
    passed_on c.from_residual-in_err-setup_masks.result c.in_err-setup_masks.field-0.0 _ c.from_residual-in_err-setup_masks.ensures.1 (λ not_memory. reading_refused _ c.args.buffer.now c.in_err-setup_masks.field-0.0
    (before_refused_last _ c.args.buffer.now c.begin_text.new.buffer c.choose_characters.new.buffer c.in_err-setup_masks.field-0.0 refl c.in_ok-begin_text.ensures c.in_ok-choose_characters.ensures (c.in_err-setup_masks.ensures not_memory)))

pub returns-in_err-substitute_pre-clause-err : goal.returns-in_err-substitute_pre-clause-err
returns-in_err-substitute_pre-clause-err g c =
    passed_on c.from_residual-in_err-substitute_pre.result c.in_err-substitute_pre.field-0.0 _ c.from_residual-in_err-substitute_pre.ensures.1 (λ not_memory. reading_refused_late _ c.args.buffer.now c.setup_masks.new.buffer c.setup_ranges.new.buffer c.in_err-substitute_pre.field-0.0 refl
    (before_followed _ c.args.buffer.now c.begin_text.new.buffer c.choose_characters.new.buffer c.setup_masks.new.buffer refl c.in_ok-begin_text.ensures c.in_ok-choose_characters.ensures c.in_ok-setup_masks.ensures)
    c.setup_ranges.ensures
    (after_refused _ c.setup_ranges.new.buffer c.in_err-substitute_pre.field-0.0 (c.in_err-substitute_pre.ensures.stage not_memory)))

pub returns-in_err-position-clause-err : goal.returns-in_err-position-clause-err
returns-in_err-position-clause-err g c =
    passed_on c.from_residual-in_err-position.result c.in_err-position.field-0.0 _ c.from_residual-in_err-position.ensures.1 (λ not_memory. reading_refused_late _ c.args.buffer.now c.setup_masks.new.buffer c.setup_ranges.new.buffer c.in_err-position.field-0.0 refl
    (before_followed _ c.args.buffer.now c.begin_text.new.buffer c.choose_characters.new.buffer c.setup_masks.new.buffer refl c.in_ok-begin_text.ensures c.in_ok-choose_characters.ensures c.in_ok-setup_masks.ensures)
    c.setup_ranges.ensures
    (after_refused_then _ c.setup_ranges.new.buffer c.substitute_pre.new.buffer c.in_err-position.field-0.0 refl c.in_ok-substitute_pre.ensures.stage (c.in_err-position.ensures not_memory)))

pub returns-in_err-end_text-clause-err : goal.returns-in_err-end_text-clause-err
returns-in_err-end_text-clause-err g c =
    passed_on c.from_residual-in_err-end_text.result c.in_err-end_text.field-0.0 _ c.from_residual-in_err-end_text.ensures.1 (λ not_memory. reading_refused_late _ c.args.buffer.now c.setup_masks.new.buffer c.setup_ranges.new.buffer c.in_err-end_text.field-0.0 refl
    (before_followed _ c.args.buffer.now c.begin_text.new.buffer c.choose_characters.new.buffer c.setup_masks.new.buffer refl c.in_ok-begin_text.ensures c.in_ok-choose_characters.ensures c.in_ok-setup_masks.ensures)
    c.setup_ranges.ensures
    (after_refused_last _ c.setup_ranges.new.buffer c.substitute_pre.new.buffer c.position.new.buffer c.in_err-end_text.field-0.0 refl c.in_ok-substitute_pre.ensures.stage c.in_ok-position.ensures (c.in_err-end_text.ensures.stage not_memory)))
