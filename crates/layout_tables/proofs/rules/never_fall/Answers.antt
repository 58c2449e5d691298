use Rattle.std.proofs.Common.{ℕ, ltb, refl, get_or, arith}
use Rattle.layout_tables.specs.Rules.{first_number}
use Rattle.layout_tables.proofs.Begins.{next_falls_not, not_below}
use Rattle.layout_tables.proofs.rules.never_fall.Goals as goal

pub loop-i-preserved : goal.loop-i-preserved
loop-i-preserved c =
    let i = c.loop-i.i in
    let rules = c.args.rules.now in
    λ a b d le lt.
    let last = not_below rules i c.index-rules-i.result c.index-rules-i-in-loop-i.result d c.first_number.result c.first_number-in-loop-i.result (omega (arith, c.loop-i.auto.i)) (omega (arith, c.loop-i-test.true)) c.index-rules-i.is c.index-rules-i-in-loop-i.is c.first_number.ensures c.first_number-in-loop-i.ensures c.if-first_number.false in
    next_falls_not (λ k. first_number (get_or rules k d).input) i a b (λ x y le lt. c.loop-i.invariant x y d le lt) (omega (arith, c.loop-i.auto.i)) last le lt (ltb b i) refl
