use Rattle.std.proofs.Common.{ℕ, ◌≡◌, arith, sym, ap, subst}
use Rattle.line_pieces.specs.declared.edits.Cuts.{Cuts}
use Rattle.line_pieces.specs.Edits.{IsLastBefore}
use Rattle.line_pieces.specs.EditsInHand.{AreCuts}
use Rattle.line_pieces.proofs.Edited.{first_are_cuts, last_of}
use Rattle.line_pieces.proofs.edits.last_before.Goals as goal

pub cuts_at-start-requires-clause-last : goal.cuts_at-start-requires-clause-last
cuts_at-start-requires-clause-last c = let P : Cuts → Type 0 = λ k. AreCuts c.args.direction c.args.before.now c.args.after.now c.args.edit k in subst P (sym c.first_cuts.ensures) (first_are_cuts c.args.direction c.args.before.now c.args.after.now c.args.edit)

pub cuts_at-start-requires-clause-old_after : goal.cuts_at-start-requires-clause-old_after
cuts_at-start-requires-clause-old_after c = let byte : c.first_cuts.result.before.byte ≡ 0 = ap (λ (k : Cuts). k.before.byte) c.first_cuts.ensures in omega (arith, byte)

pub cuts_at-start-requires-clause-new_after : goal.cuts_at-start-requires-clause-new_after
cuts_at-start-requires-clause-new_after c = let byte : c.first_cuts.result.after.byte ≡ 0 = ap (λ (k : Cuts). k.after.byte) c.first_cuts.ensures in omega (arith, byte)

pub returns : goal.returns
returns c =
    let P : ℕ → Type 0 = λ n. IsLastBefore c.args.direction c.args.before.now c.args.after.now c.args.edit n in
    subst P (sym c.byte_if_safe.ensures)
    (last_of c.args.direction c.args.before.now c.args.after.now c.args.edit c.cuts_at-start.result c.last_inside.result c.cuts_at-start.ensures.cuts c.cuts_at-start.ensures.old_byte c.cuts_at-start.ensures.new_byte c.last_inside.ensures.before c.last_inside.ensures.safe c.last_inside.ensures.last)
