-- The carets beside one are its neighbours in the order of the text.
use Rattle.std.proofs.Common.{ℕ, zero, suc, ◌≡◌, ◌≤◌, ◌<◌, ◌+◌, not, List, length, arith, inl, inr, refl, sym, ap, subst, ◌∙◌}
use Rattle.std.specs.Prelude.{Option, Some, None, Contains, option_and_then, slice_get, slice_index_or}
use Rattle.std.proofs.lemmas.Bool.{cases_lt, cases_order}
use Rattle.std.proofs.lemmas.Option.{get_or_from_slice_get, slice_get-get_or, slice_get_within}
use Rattle.caret_model.specs.declared.carets.Caret.{Caret}
use Rattle.caret_model.specs.Laws.{CaretsHaveNeighbours}
use Rattle.caret_model.specs.Lines.{IsLine, Line}
use Rattle.caret_model.specs.Moves.{IsClosest, IsPast, left_of, right_of}
use Rattle.caret_model.proofs.LeadingBack.{byte_leads_back}
use Rattle.caret_model.proofs.Orders.{carets_in_order, past_not_itself, past_one_way, past_turned, past_turned_back}

-- a number after which a list ends is above each index
below_end : {X : Type 0} (xs : List X) (j k : ℕ) (d : X) → slice_get xs j ≡ None → k < length xs → k < j
below_end xs j k d none within = elim (cases_lt k j) [ inl less ↦ less | inr le ↦ let some : slice_get xs j ≡ Some (slice_index_or xs j d) = slice_get-get_or xs j d (omega (arith, within, le)) in cc ]

module _ (l : Line) (is : IsLine l) where
  abbrev Past : Caret → Caret → Type 0
  Past c d = IsPast l.backward c.byte d.byte

  -- a caret up to an index is not past the one there
  not_past : (i k : ℕ) (c d : Caret) → k ≤ i → slice_get l.carets i ≡ Some c → slice_get l.carets k ≡ Some d → ¬ Past c d
  not_past i k c d le at to past = elim (cases_order k i) [
    | inl same ↦
        let one : Some c ≡ Some d = sym at ∙ ap (slice_get l.carets) (sym same) ∙ to in
        let caret : d ≡ c = cc in
        let P : Caret → Type 0 = λ e. Past c e in
        past_not_itself l.backward c.byte (subst P caret past)
    | inr other ↦ elim other [ inl less ↦ past_one_way l.backward d.byte c.byte (carets_in_order l k i d c is less to at) past | inr more ↦ absurd (omega (arith, le, more)) ]
  ]

  -- a caret that is past another one is to the right of it
  past_index : (i k : ℕ) (c d : Caret) → slice_get l.carets i ≡ Some c → slice_get l.carets k ≡ Some d → Past c d → i < k
  past_index i k c d at to past = elim (cases_lt i k) [ inl less ↦ less | inr le ↦ absurd (not_past i k c d le at to past) ]

  -- the caret at an index
  there : (k : ℕ) (d : Caret) → k < length l.carets → slice_get l.carets k ≡ Some (slice_index_or l.carets k d)
  there k d within = slice_get-get_or l.carets k d within

  among : (i : ℕ) (c : Caret) → slice_get l.carets i ≡ Some c → Contains l.carets c
  among i c at = (i, slice_get_within l.carets i c at, get_or_from_slice_get l.carets i c c at)

  right_is_next : (i : ℕ) (c : Caret) (o : Option Caret) → slice_get l.carets i ≡ Some c → slice_get l.carets (i + 1) ≡ o → IsClosest l.backward c.byte l.carets o
  right_is_next i c None at none = λ k d within past.
      let over = past_index i k c (slice_index_or l.carets k d) at (there k d within) past in
      let under = below_end l.carets (i + 1) k d none within in
      absurd (omega (arith, over, under))
  right_is_next i c (Some e) at to = (
    among (i + 1) e to,
    carets_in_order l i (i + 1) c e is (omega arith) at to,
    λ k d within past.
        let over = past_index i k c (slice_index_or l.carets k d) at (there k d within) past in
        not_past k (i + 1) (slice_index_or l.carets k d) e (omega (arith, over)) (there k d within) to,
  )

  left_is_previous : (i : ℕ) (c : Caret) → slice_get l.carets i ≡ Some c → IsClosest (not l.backward) c.byte l.carets (left_of l.carets i)
  left_is_previous zero c at = λ k d within past. not_past k 0 (slice_index_or l.carets k d) c (omega arith) (there k d within) at (past_turned l.backward c.byte _ past)
  left_is_previous (suc i) c at =
      let e = slice_index_or l.carets i c in
      let within : suc i < length l.carets = slice_get_within l.carets (suc i) c at in
      let to : slice_get l.carets i ≡ Some e = there i c (omega (arith, within)) in
      let P : Option Caret → Type 0 = λ o. IsClosest (not l.backward) c.byte l.carets o in
      subst P (sym to) (
        among i e to,
        past_turned_back l.backward c.byte e.byte (carets_in_order l i (suc i) e c is (omega arith) to at),
        λ k d inside past other.
            let x = slice_index_or l.carets k d in
            let under = past_index k (suc i) x c (there k d inside) at (past_turned l.backward c.byte x.byte past) in
            not_past i k e x (omega (arith, under)) to (there k d inside) (past_turned l.backward x.byte e.byte other),
      )

pub carets_have_neighbours : CaretsHaveNeighbours
carets_have_neighbours l c is contained =
    let i = contained.0 in
    let at : slice_get l.carets i ≡ Some c = slice_get-get_or l.carets i c contained.1 ∙ ap (λ d. Some d) contained.2 in
    let index = byte_leads_back l i c is at in
    record {
      right = let P : Option ℕ → Type 0 = λ o. IsClosest l.backward c.byte l.carets (option_and_then (right_of l.carets) o) in subst P (sym index) (right_is_next l is i c (slice_get l.carets (i + 1)) at refl);
      left = let P : Option ℕ → Type 0 = λ o. IsClosest (not l.backward) c.byte l.carets (option_and_then (left_of l.carets) o) in subst P (sym index) (left_is_previous l is i c at);
    }
