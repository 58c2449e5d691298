use Rattle.std.proofs.Common.{◌+◌, map, length, ap, sym, refl, subst, ◌∙◌}
use Rattle.buffer_glyphs.specs.Rewriting.{in_turn}
use Rattle.buffer_properties.specs.Expanding.{item_expansion, expanded_item}
use Rattle.buffer_properties.specs.Normalizer.{reach_alone, reach_with_marks}
use Rattle.buffer_properties.specs.declared.normal_mode.Reach.{Reach}
use Rattle.buffer_stages.specs.Appending.{AppendsArrangement, RefusesRoomFor}
use Rattle.shape_normalize.proofs.GroupWalk.{one_group, one_too_many, selected_group, selected_too_many, marked_group, marked_too_many}
use Rattle.shape_normalize.proofs.expanding.expand_group.Goals as goal
use Rattle.buffer_facts.proofs.Results.{passed_on}

pub returns-in_err-expand_current-clause-err : goal.returns-in_err-expand_current-clause-err
returns-in_err-expand_current-clause-err g c =
    let e = c.in_err-expand_current.field-0.0 in
    let reach = c.reach_alone.ensures ∙ ap reach_alone c.mode.ensures in
    passed_on c.from_residual.result e _ c.from_residual.ensures.1
    (one_too_many (g.N.Normalizing.normalizer c.args.by.now) c.args.marks e c.args.buffer.now c.if-marks-eq0.true
    (λ x xs seen. subst (λ (r : Reach). RefusesRoomFor (length (expanded_item (g.N.Normalizing.normalizer c.args.by.now) r x)) e c.args.buffer.now) reach (c.in_err-expand_current.ensures.err x xs seen)))

pub returns-then-marks-eq0-clause-ok : goal.returns-then-marks-eq0-clause-ok
returns-then-marks-eq0-clause-ok g c =
    let reach = c.reach_alone.ensures ∙ ap reach_alone c.mode.ensures in
    one_group (g.N.Normalizing.normalizer c.args.by.now) c.args.marks c.args.buffer.now c.expand_current.new.buffer c.if-marks-eq0.true
    (λ x xs seen. subst (λ (r : Reach). AppendsArrangement (item_expansion (g.N.Normalizing.normalizer c.args.by.now) r x) xs c.args.buffer.now c.expand_current.new.buffer) reach (c.in_ok-expand_current.ensures.ok x xs seen))

pub returns-in_err-expand_selected-clause-err : goal.returns-in_err-expand_selected-clause-err
returns-in_err-expand_selected-clause-err g c =
    let e = c.in_err-expand_selected.field-0.0 in
    passed_on c.from_residual-in_err-expand_selected.result e _ c.from_residual-in_err-expand_selected.ensures.1
    (selected_too_many (g.N.Normalizing.normalizer c.args.by.now) c.args.marks (c.args.marks + 1) e c.args.buffer.now c.if-marks-eq0.false refl (sym c.has_selector.ensures ∙ c.if-has_selector.true) c.in_err-expand_selected.ensures.err)

pub returns-then-has_selector-clause-ok : goal.returns-then-has_selector-clause-ok
returns-then-has_selector-clause-ok g c =
    selected_group (g.N.Normalizing.normalizer c.args.by.now) c.args.marks (c.args.marks + 1) c.args.buffer.now c.expand_selected.new.buffer c.if-marks-eq0.false refl (sym c.has_selector.ensures ∙ c.if-has_selector.true) c.in_ok-expand_selected.ensures.ok

pub returns-in_err-expand_each-clause-err : goal.returns-in_err-expand_each-clause-err
returns-in_err-expand_each-clause-err g c =
    let e = c.in_err-expand_each.field-0.0 in
    let reach = c.reach_with_marks.ensures ∙ ap reach_with_marks c.mode-2.ensures in
    passed_on c.from_residual-in_err-expand_each.result e _ c.from_residual-in_err-expand_each.ensures.1
    (marked_too_many (g.N.Normalizing.normalizer c.args.by.now) c.args.marks (c.args.marks + 1) e c.args.buffer.now c.if-marks-eq0.false refl (sym c.has_selector.ensures ∙ c.if-has_selector.false)
    (λ xs ys seen len. subst (λ (r : Reach). RefusesRoomFor (length (in_turn (map (item_expansion (g.N.Normalizing.normalizer c.args.by.now) r) xs)).items) e c.args.buffer.now) reach (c.in_err-expand_each.ensures.err xs ys seen len)))

pub returns-clause-ok : goal.returns-clause-ok
returns-clause-ok g c =
    let reach = c.reach_with_marks.ensures ∙ ap reach_with_marks c.mode-2.ensures in
    marked_group (g.N.Normalizing.normalizer c.args.by.now) c.args.marks (c.args.marks + 1) c.args.buffer.now c.expand_each.new.buffer c.if-marks-eq0.false refl (sym c.has_selector.ensures ∙ c.if-has_selector.false)
    (λ xs ys seen len. subst (λ (r : Reach). AppendsArrangement (in_turn (map (item_expansion (g.N.Normalizing.normalizer c.args.by.now) r) xs)) ys c.args.buffer.now c.expand_each.new.buffer) reach (c.in_ok-expand_each.ensures.ok xs ys seen len))
