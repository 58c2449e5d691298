-- Positions that are known to be zero.
use Rattle.std.specs.Bool.{OnFalse}
use Rattle.std.proofs.Common.{ℕ, ◌≡◌, ◌≤◌, ◌+◌, ◌-◌, ◌++◌, Bool, true, false, nat_le, List, length, take, refl, arith, ap, sym, ◌∙◌, append-nil}
use Rattle.std.proofs.lemmas.Bool.Decides.{nat_tests}
use Rattle.std.proofs.lemmas.List.{length-replicate, replicate-append-replicate, take-replicate, take_all}
use Rattle.buffer_glyphs.specs.Items.{Position, zero_position}
use Rattle.buffer_core.specs.Sides.{zero_positions}

-- so many zero positions are as many as there are
pub cleared_as : (n : ℕ) {ps : List Position} → ps ≡ zero_positions n → ps ≡ zero_positions (length ps)
cleared_as n {ps} e = e ∙ ap zero_positions (sym (ap length e ∙ length-replicate n zero_position))

-- zero positions cut off
pub zero_cut : (n : ℕ) (ps : List Position) → ps ≡ zero_positions (length ps) → n ≤ length ps → take n ps ≡ zero_positions n
zero_cut n ps e le = ap (take n) e ∙ take-replicate n (length ps) zero_position le

-- zero positions cut off or filled up
pub zero_of_length : (n : ℕ) (ps : List Position) → ps ≡ zero_positions (length ps) → take n ps ++ zero_positions (n - length ps) ≡ zero_positions n
zero_of_length n ps e = by_test (nat_le n (length ps)) refl
  where
    by_test : (t : Bool) → nat_le n (length ps) ≡ t → take n ps ++ zero_positions (n - length ps) ≡ zero_positions n
    by_test true le =
        let few : n ≤ length ps = grind (arith, nat_tests, le) in
        let none : n - length ps ≡ 0 = omega (arith, few) in
        ap (λ k. take n ps ++ zero_positions k) none ∙ append-nil (take n ps) ∙ zero_cut n ps e few
    by_test false more =
        let few : length ps ≤ n = grind (arith, nat_tests, more) in
        let all : length ps + (n - length ps) ≡ n = omega (arith, few) in
        ap (λ qs. qs ++ zero_positions (n - length ps)) (take_all n ps few ∙ e) ∙ replicate-append-replicate (length ps) (n - length ps) zero_position ∙ ap zero_positions all

-- zero positions after others
pub zero_added : (t : Bool) (old new : List Position) (n : ℕ) → new ≡ old ++ zero_positions n → OnFalse t (old ≡ zero_positions (length old)) → OnFalse t (new ≡ zero_positions (length new))
zero_added true old new n e h = tt
zero_added false old new n e h = cleared_as (length old + n) (e ∙ ap (λ ps. ps ++ zero_positions n) h ∙ replicate-append-replicate (length old) n zero_position)
