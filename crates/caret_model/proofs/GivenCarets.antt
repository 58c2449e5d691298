-- Carets at coordinates that a font gives.
use Rattle.std.proofs.Common.{ℕ, ℤ, zero, suc, ◌≡◌, ◌≤◌, ◌<◌, ◌+◌, Bool, Some, List, [], ◌∷◌, ◌++◌, length, drop, get_or, slice_get, arith, sym, ap, ◌∙◌}
use Rattle.std.proofs.lemmas.List.{append_assoc, append-nil, drop_all, drop_more}
use Rattle.std.proofs.lemmas.Option.{get_or_from_slice_get, slice_get_within}
use Rattle.caret_model.specs.declared.carets.Caret.{Caret}
use Rattle.caret_model.specs.Stops.{given_caret, given_carets}

pub next_given : (b : Bool) (c d : Caret) (ss : List ℕ) (xs : List ℤ) (found new whole : List Caret) (k stop : ℕ) (x : ℤ)
    → slice_get ss k ≡ Some stop → slice_get xs k ≡ Some x → new ≡ found ++ given_caret b c d x stop ∷ []
    → found ++ given_carets b c d (drop k ss) (drop k xs) ≡ whole → new ++ given_carets b c d (drop (k + 1) ss) (drop (k + 1) xs) ≡ whole
next_given b c d ss xs found new whole k stop x is at more before =
    let stops : drop k ss ≡ stop ∷ drop (k + 1) ss = drop_more ss k stop (slice_get_within ss k stop is) ∙ ap (λ s. s ∷ drop (k + 1) ss) (get_or_from_slice_get ss k stop stop is) in
    let given : drop k xs ≡ x ∷ drop (k + 1) xs = drop_more xs k x (slice_get_within xs k x at) ∙ ap (λ y. y ∷ drop (k + 1) xs) (get_or_from_slice_get xs k x x at) in
    let rest = given_carets b c d (drop (k + 1) ss) (drop (k + 1) xs) in
    ap (λ cs. cs ++ rest) more ∙ append_assoc found (given_caret b c d x stop ∷ []) rest
    ∙ sym (ap (λ ys. found ++ given_carets b c d (stop ∷ drop (k + 1) ss) ys) given)
    ∙ sym (ap (λ ts. found ++ given_carets b c d ts (drop k xs)) stops) ∙ before
