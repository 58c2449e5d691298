use Rattle.std.proofs.Common.{ℕ, ◌+◌, arith, sym, subst}
use Rattle.std.proofs.lemmas.Option.{slice_get_within}
use Rattle.line_pieces.specs.Steps.{text_steps}
use Rattle.line_pieces.proofs.Edited.{IsPassedTo, none_passed, pass_more, passed_all}
use Rattle.line_pieces.proofs.TextOrder.{rises, text_short}
use Rattle.line_pieces.proofs.edits.last_inside.Goals as goal

pub loop-i-init : goal.loop-i-init
loop-i-init c = none_passed c.args.direction c.args.before.now c.args.after.now c.args.edit c.first_cuts-last.result c.first_cuts-last.ensures

pub cuts_at-next-requires-clause-old_after : goal.cuts_at-next-requires-clause-old_after
cuts_at-next-requires-clause-old_after c = c.loop-i.invariant.ahead c.loop-i.i c.step_at-step.result (omega arith) c.step_at-step.ensures.step

pub cuts_at-next-requires-clause-new_after : goal.cuts_at-next-requires-clause-new_after
cuts_at-next-requires-clause-new_after c =
    let le = c.loop-i.invariant.ahead c.loop-i.i c.step_at-step.result (omega arith) c.step_at-step.ensures.step in
    let alike = c.loop-i.invariant.alike in
    omega (arith, le, alike)

pub loop-i-preserved : goal.loop-i-preserved
loop-i-preserved c =
    let P : ℕ → Type 0 = λ n. IsPassedTo c.args.direction c.args.before.now c.args.after.now c.args.edit (c.loop-i.i + 1) c.cuts_at-next.result n in
    subst P (sym c.byte_if_safe-from.ensures)
    (pass_more c.args.direction c.args.before.now c.args.after.now c.args.edit c.loop-i.i c.step_at-step.result c.loop-i.last c.cuts_at-next.result c.loop-i.from (rises c.args.direction c.args.before.now c.requires.compared.may.old_line.order) c.loop-i.invariant c.step_at-step.ensures.step (omega arith)
    c.cuts_at-next.ensures.cuts c.cuts_at-next.ensures.old_byte c.cuts_at-next.ensures.new_byte)

pub returns-then-edit-byte-clause-last : goal.returns-then-edit-byte-clause-last
returns-then-edit-byte-clause-last c =
    let test = c.if-edit-byte.true in
    passed_all c.args.direction c.args.before.now c.args.after.now c.args.edit c.requires.compared.may.edit c.loop-i.i c.loop-i.last c.loop-i.from c.loop-i.invariant
    (λ k s le at. let up = rises c.args.direction c.args.before.now c.requires.compared.may.old_line.order c.loop-i.i k c.step_at-step.result s le c.step_at-step.ensures.step at in omega (arith, up, test))

pub returns-clause-last : goal.returns-clause-last
returns-clause-last c =
    let short = text_short c.args.direction c.args.before.now in
    passed_all c.args.direction c.args.before.now c.args.after.now c.args.edit c.requires.compared.may.edit c.loop-i.i c.loop-i.last c.loop-i.from c.loop-i.invariant
    (λ k s le at. let inside = slice_get_within (text_steps c.args.direction c.args.before.now) k s at in absurd (omega (arith, inside, short, le)))
