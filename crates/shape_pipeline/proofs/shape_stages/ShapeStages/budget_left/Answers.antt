use Rattle.std.proofs.Common.{SFits, ap, refl, sym, w32, ◌∙◌}
use Rattle.std.proofs.lemmas.Int.{to_z-of_z}
use Rattle.shape_pipeline.proofs.Budget.{budget_followed, budget_refused, budget_refused_late, some_left, within_followed, within_refused, within_refused_last, within_refused_then}
use Rattle.shape_pipeline.proofs.Phases.{before_followed, before_refused, before_refused_last, before_refused_then}
use Rattle.shape_pipeline.proofs.shape_stages.ShapeStages.budget_left.Goals as goal
use Rattle.buffer_facts.proofs.Results.{passed_on}

pub returns-clause-ok : goal.returns-clause-ok
returns-clause-ok g c =
    let fits : SFits w32 c.max_ops.result = record { sfits = c.max_ops.type_inv } in
    budget_followed _ c.args.buffer.now c.setup_masks.new.buffer c.setup_ranges.new.buffer c.hide_glyphs.new.buffer c.max_ops.result refl
    (before_followed _ c.args.buffer.now c.begin_text.new.buffer c.choose_characters.new.buffer c.setup_masks.new.buffer refl c.in_ok-begin_text.ensures c.in_ok-choose_characters.ensures c.in_ok-setup_masks.ensures)
    c.setup_ranges.ensures
    (within_followed _ c.setup_ranges.new.buffer c.substitute_pre.new.buffer c.position.new.buffer c.hide_glyphs.new.buffer refl c.in_ok-substitute_pre.ensures.stage c.in_ok-position.ensures c.in_ok-hide_glyphs.ensures)
    c.max_ops.ensures
    ∙ ap some_left (sym (to_z-of_z w32 c.max_ops.result fits))

-- ---- the first stage that refuses

pub returns-in_err-begin_text-clause-err : goal.returns-in_err-begin_text-clause-err
returns-in_err-begin_text-clause-err g c =
    passed_on c.from_residual.result c.in_err-begin_text.field-0.0 _ c.from_residual.ensures.1 (λ not_memory. budget_refused _ c.args.buffer.now c.in_err-begin_text.field-0.0
    (before_refused _ c.args.buffer.now c.in_err-begin_text.field-0.0 (c.in_err-begin_text.ensures not_memory)))

pub returns-in_err-choose_characters-clause-err : goal.returns-in_err-choose_characters-clause-err
returns-in_err-choose_characters-clause-err g c =
    passed_on c.from_residual-in_err-choose_characters.result c.in_err-choose_characters.field-0.0 _ c.from_residual-in_err-choose_characters.ensures.1 (λ not_memory. budget_refused _ c.args.buffer.now c.in_err-choose_characters.field-0.0
    (before_refused_then _ c.args.buffer.now c.begin_text.new.buffer c.in_err-choose_characters.field-0.0 refl c.in_ok-begin_text.ensures (c.in_err-choose_characters.ensures not_memory)))

pub returns-in_err-setup_masks-clause-err : goal.returns-in_err-setup_masks-clause-err
returns-in_err-setup_masks-clause-err g c =
    passed_on c.from_residual-in_err-setup_masks.result c.in_err-setup_masks.field-0.0 _ c.from_residual-in_err-setup_masks.ensures.1 (λ not_memory. budget_refused _ c.args.buffer.now c.in_err-setup_masks.field-0.0
    (before_refused_last _ c.args.buffer.now c.begin_text.new.buffer c.choose_characters.new.buffer c.in_err-setup_masks.field-0.0 refl c.in_ok-begin_text.ensures c.in_ok-choose_characters.ensures (c.in_err-setup_masks.ensures not_memory)))

pub returns-in_err-substitute_pre-clause-err : goal.returns-in_err-substitute_pre-clause-err
returns-in_err-substitute_pre-clause-err g c =
    passed_on c.from_residual-in_err-substitute_pre.result c.in_err-substitute_pre.field-0.0 _ c.from_residual-in_err-substitute_pre.ensures.1 (λ not_memory. budget_refused_late _ c.args.buffer.now c.setup_masks.new.buffer c.setup_ranges.new.buffer c.in_err-substitute_pre.field-0.0 refl
    (before_followed _ c.args.buffer.now c.begin_text.new.buffer c.choose_characters.new.buffer c.setup_masks.new.buffer refl c.in_ok-begin_text.ensures c.in_ok-choose_characters.ensures c.in_ok-setup_masks.ensures)
    c.setup_ranges.ensures
    (within_refused _ c.setup_ranges.new.buffer c.in_err-substitute_pre.field-0.0 (c.in_err-substitute_pre.ensures.stage not_memory)))

pub returns-in_err-position-clause-err : goal.returns-in_err-position-clause-err
returns-in_err-position-clause-err g c =
    passed_on c.from_residual-in_err-position.result c.in_err-position.field-0.0 _ c.from_residual-in_err-position.ensures.1 (λ not_memory. budget_refused_late _ c.args.buffer.now c.setup_masks.new.buffer c.setup_ranges.new.buffer c.in_err-position.field-0.0 refl
    (before_followed _ c.args.buffer.now c.begin_text.new.buffer c.choose_characters.new.buffer c.setup_masks.new.buffer refl c.in_ok-begin_text.ensures c.in_ok-choose_characters.ensures c.in_ok-setup_masks.ensures)
    c.setup_ranges.ensures
    (within_refused_then _ c.setup_ranges.new.buffer c.substitute_pre.new.buffer c.in_err-position.field-0.0 refl c.in_ok-substitute_pre.ensures.stage (c.in_err-position.ensures not_memory)))

pub returns-in_err-hide_glyphs-clause-err : goal.returns-in_err-hide_glyphs-clause-err
returns-in_err-hide_glyphs-clause-err g c =
    passed_on c.from_residual-in_err-hide_glyphs.result c.in_err-hide_glyphs.field-0.0 _ c.from_residual-in_err-hide_glyphs.ensures.1 (λ not_memory. budget_refused_late _ c.args.buffer.now c.setup_masks.new.buffer c.setup_ranges.new.buffer c.in_err-hide_glyphs.field-0.0 refl
    (before_followed _ c.args.buffer.now c.begin_text.new.buffer c.choose_characters.new.buffer c.setup_masks.new.buffer refl c.in_ok-begin_text.ensures c.in_ok-choose_characters.ensures c.in_ok-setup_masks.ensures)
    c.setup_ranges.ensures
    (within_refused_last _ c.setup_ranges.new.buffer c.substitute_pre.new.buffer c.position.new.buffer c.in_err-hide_glyphs.field-0.0 refl c.in_ok-substitute_pre.ensures.stage c.in_ok-position.ensures (c.in_err-hide_glyphs.ensures not_memory)))
