use Rattle.std.proofs.Common.{◌≡◌, ◌-◌, arith, refl, sym, ap, subst, ◌∙◌}
use Rattle.line_pieces.specs.declared.edits.Cuts.{Cuts}
use Rattle.line_pieces.specs.EditsInHand.{AreCuts}
use Rattle.line_pieces.proofs.Edited.{after_all, after_glyph, after_rest, first_are_cuts, none_first, none_more}
use Rattle.line_pieces.proofs.TextOrder.{rises, text_short}
use Rattle.line_pieces.proofs.edits.bytes_after.Goals as goal

pub cuts_at-end-requires-clause-last : goal.cuts_at-end-requires-clause-last
cuts_at-end-requires-clause-last c = let P : Cuts → Type 0 = λ k. AreCuts c.args.direction c.args.before.now c.args.after.now c.args.edit k in subst P (sym c.first_cuts-first.ensures) (first_are_cuts c.args.direction c.args.before.now c.args.after.now c.args.edit)

pub cuts_at-end-requires-clause-old_after : goal.cuts_at-end-requires-clause-old_after
cuts_at-end-requires-clause-old_after c = let byte : c.first_cuts-first.result.before.byte ≡ 0 = ap (λ (k : Cuts). k.before.byte) c.first_cuts-first.ensures in omega (arith, byte)

pub cuts_at-end-requires-clause-new_after : goal.cuts_at-end-requires-clause-new_after
cuts_at-end-requires-clause-new_after c = let byte : c.first_cuts-first.result.after.byte ≡ 0 = ap (λ (k : Cuts). k.after.byte) c.first_cuts-first.ensures in omega (arith, byte)

pub loop-i-init : goal.loop-i-init
loop-i-init c =
    none_first c.args.direction c.args.before.now c.args.after.now c.args.edit c.cuts_at-end.result c.cuts_at-end.ensures.cuts c.cuts_at-end.ensures.old_byte c.cuts_at-end.ensures.new_byte (sym c.are_safe.ensures ∙ c.if-are_safe.false)

pub overflow_sub-count : goal.overflow_sub-count
overflow_sub-count c =
    let low = c.loop-i.invariant.ahead c.loop-i.i c.step_at-step.result (omega arith) c.step_at-step.ensures.step in
    let past = c.loop-i.invariant.past in
    omega (arith, low, past)

pub returns-then-edit-count : goal.returns-then-edit-count
returns-then-edit-count c = after_rest c.args.direction c.args.before.now c.args.after.now c.args.edit c.loop-i.i (c.step_at-step.result.cluster - c.args.edit.old_end) c.step_at-step.result c.loop-i.last (rises c.args.direction c.args.before.now c.requires.compared.may.old_line.order) c.loop-i.invariant c.step_at-step.ensures.step refl c.if-edit-count.true

pub cuts_at-next-requires-clause-old_after : goal.cuts_at-next-requires-clause-old_after
cuts_at-next-requires-clause-old_after c =
    let low = c.loop-i.invariant.ahead c.loop-i.i c.step_at-step.result (omega arith) c.step_at-step.ensures.step in
    let past = c.loop-i.invariant.past in
    omega (arith, low, past)

pub cuts_at-next-requires-clause-new_after : goal.cuts_at-next-requires-clause-new_after
cuts_at-next-requires-clause-new_after c =
    let low = c.loop-i.invariant.ahead c.loop-i.i c.step_at-step.result (omega arith) c.step_at-step.ensures.step in
    let past = c.loop-i.invariant.past in
    let alike = c.loop-i.invariant.alike in
    omega (arith, low, past, alike)

pub returns-then-are_safe-2 : goal.returns-then-are_safe-2
returns-then-are_safe-2 c =
    after_glyph c.args.direction c.args.before.now c.args.after.now c.args.edit c.loop-i.i (c.step_at-step.result.cluster - c.args.edit.old_end) c.step_at-step.result c.loop-i.last c.cuts_at-next.result (rises c.args.direction c.args.before.now c.requires.compared.may.old_line.order) c.loop-i.invariant c.step_at-step.ensures.step refl c.if-edit-count.false
    c.cuts_at-next.ensures.cuts c.cuts_at-next.ensures.old_byte c.cuts_at-next.ensures.new_byte (sym c.are_safe-in-loop-i.ensures ∙ c.if-are_safe-2.true)

pub loop-i-preserved : goal.loop-i-preserved
loop-i-preserved c =
    none_more c.args.direction c.args.before.now c.args.after.now c.args.edit c.loop-i.i (c.step_at-step.result.cluster - c.args.edit.old_end) c.step_at-step.result c.loop-i.last c.cuts_at-next.result (rises c.args.direction c.args.before.now c.requires.compared.may.old_line.order) c.loop-i.invariant c.step_at-step.ensures.step refl
    c.cuts_at-next.ensures.cuts c.cuts_at-next.ensures.old_byte c.cuts_at-next.ensures.new_byte (sym c.are_safe-in-loop-i.ensures ∙ c.if-are_safe-2.false)

pub returns : goal.returns
returns c =
    let short = text_short c.args.direction c.args.before.now in
    after_all c.args.direction c.args.before.now c.args.after.now c.args.edit c.loop-i.i c.loop-i.last c.loop-i.invariant (omega (arith, short))
