-- Sources that are opened one after another.
use Rattle.std.proofs.Common.{ℕ, ◌≡◌, true, false, List, [], ◌∷◌, ◌++◌, Option, Some, None, sym, ap, subst, ◌∙◌, append_assoc}
use Rattle.std.proofs.lemmas.List.{append-nil}
use Rattle.shell_run.specs.Program.{Asks, EndsAtMissing, HasBytes, Opening, Source, all_opened}
use Rattle.shell_run.specs.Program.EndsAtMissing.{missing, opened}

pub asks_none : (a : Option (List Opening)) → Asks a a []
asks_none None = tt
asks_none (Some x) = sym (append-nil x)

pub asks_then : (a b c : Option (List Opening)) (xs ys : List Opening) → Asks a b xs → Asks b c ys → Asks a c (xs ++ ys)
asks_then None b c xs ys p q = tt
asks_then (Some x) None c xs ys p q = absurd p
asks_then (Some x) (Some y) None xs ys p q = absurd q
asks_then (Some x) (Some y) (Some z) xs ys p q = q ∙ ap (λ l. l ++ ys) p ∙ append_assoc x xs ys

module _ (a b c d : Option (List Opening)) (x y z : Source) where
  pub asked_all : Asks a b ((x, true) ∷ []) → Asks b c ((y, true) ∷ []) → Asks c d ((z, true) ∷ []) → Asks a d (all_opened (x ∷ y ∷ z ∷ []))
  asked_all p q r = asks_then a c d ((x, true) ∷ (y, true) ∷ []) ((z, true) ∷ []) (asks_then a b c ((x, true) ∷ []) ((y, true) ∷ []) p q) r

  pub first_missing : Asks a b ((x, false) ∷ []) → (openings : List Opening) × Asks a b openings × EndsAtMissing (x ∷ y ∷ z ∷ []) openings
  first_missing p = ((x, false) ∷ [], p, missing x (y ∷ z ∷ []))

  pub second_missing : Asks a b ((x, true) ∷ []) → Asks b c ((y, false) ∷ []) → (openings : List Opening) × Asks a c openings × EndsAtMissing (x ∷ y ∷ z ∷ []) openings
  second_missing p q =
      ((x, true) ∷ (y, false) ∷ [], asks_then a b c ((x, true) ∷ []) ((y, false) ∷ []) p q, opened x (y ∷ z ∷ []) ((y, false) ∷ []) (missing y (z ∷ [])))

  pub third_missing : Asks a b ((x, true) ∷ []) → Asks b c ((y, true) ∷ []) → Asks c d ((z, false) ∷ []) → (openings : List Opening) × Asks a d openings × EndsAtMissing (x ∷ y ∷ z ∷ []) openings
  third_missing p q r = (
    (x, true) ∷ (y, true) ∷ (z, false) ∷ [],
    asks_then a c d ((x, true) ∷ (y, true) ∷ []) ((z, false) ∷ []) (asks_then a b c ((x, true) ∷ []) ((y, true) ∷ []) p q) r,
    opened x (y ∷ z ∷ []) ((y, true) ∷ (z, false) ∷ []) (opened y (z ∷ []) ((z, false) ∷ []) (missing z [])),
  )

-- the bytes of a source stay
pub same_bytes : (known known' remaining : Option (List ℕ)) → known' ≡ known → HasBytes known' remaining → HasBytes known remaining
same_bytes known known' remaining same has = let P : Option (List ℕ) → Type 0 = λ k. HasBytes k remaining in subst P same has
