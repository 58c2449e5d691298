-- The syllables of a list, one after the other.
use Rattle.std.proofs.Common.{ℕ, zero, suc, ◌≡◌, ◌<◌, ◌≤◌, ◌-◌, Bool, true, false, nat_lt, if◌then◌else◌, List, [], ◌∷◌, ◌++◌, length, drop, refl, sym, ap, ◌∙◌, arith}
use Rattle.std.specs.Prelude.{slice_range}
use Rattle.std.specs.List.{flat_map}
use Rattle.std.proofs.lemmas.Bool.Decides.{nat_tests}
use Rattle.std.proofs.lemmas.List.{drop_all}
use Rattle.std.proofs.lemmas.List.Folds.{drop_split}
use Rattle.buffer_stages.specs.Cuts.{CutsJoin, EndsInside, Syllable, syllable_pieces, syllable_from, syllables_from}

abbrev joined : {X : Type 0} → List Syllable → List X → List X
joined ss xs = flat_map (λ ys. ys) (syllable_pieces ss xs)

joined_from : {X : Type 0} (next : ℕ → ℕ × ℕ) (xs : List X) → EndsInside next (length xs) → (most start : ℕ) → start ≤ length xs → length xs - start ≤ most
    → joined (syllables_from next (length xs) most start) xs ≡ drop start xs
joined_from next xs h zero start le few = sym (drop_all start xs (omega (arith, le, few)))
joined_from next xs h (suc most) start le few =
    by_test (nat_lt start (length xs)) refl (λ lt. joined_from next xs h most (next start).0 (h.inside start lt) (omega (arith, h.after start lt, h.inside start lt, few)))
  where
    by_test : (t : Bool) → nat_lt start (length xs) ≡ t
        → (start < length xs → joined (syllables_from next (length xs) most (next start).0) xs ≡ drop (next start).0 xs)
        → joined (if t then syllable_from next start ∷ syllables_from next (length xs) most (next start).0 else []) xs ≡ drop start xs
    by_test true e later =
        let lt : start < length xs = grind (arith, nat_tests, e) in
        let after : start ≤ (next start).0 = omega (arith, h.after start lt) in
        ap (λ ys. slice_range xs start (next start).0 ++ ys) (later lt) ∙ sym (drop_split xs start (next start).0 after)
    by_test false e later =
        let past : length xs ≤ start = grind (arith, nat_tests, e) in
        sym (drop_all start xs past)

pub cuts_join : CutsJoin
cuts_join next xs h = joined_from next xs h (length xs) 0 (omega arith) (omega arith)
