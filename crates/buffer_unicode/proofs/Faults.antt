-- Rows without a fault rise.
use Rattle.std.proofs.Common.{ℕ, ◌≡◌, Bool, true, List, [], ◌∷◌, Option, Some, None, refl}
use Rattle.std.proofs.lemmas.Bool.{and_from, cond_both}
use Rattle.buffer_unicode.specs.Keys.{follows, rises_after, is_rising, row_fault}

pub rises_from : {R : Type 0} (in_range : R → Bool) (high low : R → ℕ) (before : Option R) (rows : List R) → row_fault in_range high low before rows ≡ None → rises_after high low before rows ≡ true
rises_from in_range high low before [] h = refl
rises_from in_range high low before (r ∷ rs) h =
    cond_both (in_range r) _ _ (λ o. o ≡ None → rises_after high low before (r ∷ rs) ≡ true)
    (λ _. cond_both (follows high low before r) _ _ (λ o. o ≡ None → rises_after high low before (r ∷ rs) ≡ true)
    (λ above e. and_from _ _ above (rises_from in_range high low (Some r) rs e))
    (λ _ e. cc))
    (λ _ e. cc)
    h

pub rises_without_fault : {R : Type 0} (in_range : R → Bool) (high low : R → ℕ) (rows records : List R) → row_fault in_range high low None rows ≡ None → records ≡ rows → is_rising high low records ≡ true
rises_without_fault in_range high low rows records h e = rw e (rises_from in_range high low None rows h)
