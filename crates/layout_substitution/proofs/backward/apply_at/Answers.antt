use Rattle.std.proofs.Common.{◌≡◌, length, ap, sym, ◌∙◌}
use Rattle.buffer_core.specs.Sides.{Sides, all_glyphs}
use Rattle.buffer_core.specs.Moving.{after_move_to}
use Rattle.layout_match.specs.Applied.{apply_context_of}
use Rattle.layout_substitution.proofs.Back.{acted_still, idle_items, step_back}
use Rattle.layout_substitution.proofs.backward.apply_at.Goals as goal

pub returns-then-acts-clause-step : goal.returns-then-acts-clause-step
returns-then-acts-clause-step c =
    let s = c.args.buffer.now in
    let new = c.apply_reverse_lookup-acts.new.buffer in
    let there : c.move_to.new.self ≡ after_move_to c.args.at s = c.move_to.ensures.moved (c.move_to.ensures.in_place c.requires.glyphs_in_place.closed) in
    let positions : new.positions ≡ s.positions = acted_still _ c.apply_reverse_lookup-acts.result c.move_to.new.self new c.apply_reverse_lookup-acts.ensures ∙ ap (λ (t : Sides). t.positions) there in
    let before : length s.positions ≡ length (all_glyphs s) = ap length (sym c.pos_slice-before.ensures.same) ∙ c.pos_slice-before.ensures.len in
    let after : length new.positions ≡ length (all_glyphs new) = ap length (sym c.pos_slice-after.ensures.same) ∙ c.pos_slice-after.ensures.len in
    step_back (apply_context_of c.args.ctx.now) c.args.lookup.now c.args.at c.apply_reverse_lookup-acts.result s c.move_to.new.self new (sym after ∙ ap length positions ∙ before) there c.apply_reverse_lookup-acts.ensures

pub returns-else-acts-clause-step : goal.returns-else-acts-clause-step
returns-else-acts-clause-step c =
    let s = c.args.buffer.now in
    let new = c.apply_reverse_lookup-acts.new.buffer in
    let there : c.move_to.new.self ≡ after_move_to c.args.at s = c.move_to.ensures.moved (c.move_to.ensures.in_place c.requires.glyphs_in_place.closed) in
    let positions : new.positions ≡ s.positions = acted_still _ c.apply_reverse_lookup-acts.result c.move_to.new.self new c.apply_reverse_lookup-acts.ensures ∙ ap (λ (t : Sides). t.positions) there in
    let before : length s.positions ≡ length (all_glyphs s) = ap length (sym c.pos_slice-before.ensures.same) ∙ c.pos_slice-before.ensures.len in
    let after : length new.positions ≡ length (all_glyphs new) = ap length (sym c.pos_slice-after.ensures.same) ∙ c.pos_slice-after.ensures.len in
    step_back (apply_context_of c.args.ctx.now) c.args.lookup.now c.args.at c.apply_reverse_lookup-acts.result s c.move_to.new.self new (sym after ∙ ap length positions ∙ before) there c.apply_reverse_lookup-acts.ensures

pub returns-else-acts-clause-unchanged : goal.returns-else-acts-clause-unchanged
returns-else-acts-clause-unchanged c none =
    let s = c.args.buffer.now in
    let there : c.move_to.new.self ≡ after_move_to c.args.at s = c.move_to.ensures.moved (c.move_to.ensures.in_place c.requires.glyphs_in_place.closed) in
    idle_items _ c.apply_reverse_lookup-acts.result c.args.at s c.move_to.new.self c.apply_reverse_lookup-acts.new.buffer there c.apply_reverse_lookup-acts.ensures c.if-acts.false
