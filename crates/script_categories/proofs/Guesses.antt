-- Rows in the order of their keys, looked at where one is guessed to stand.
use Rattle.std.proofs.Common.{ℕ, zero, suc, ◌≡◌, ◌≢◌, ◌<◌, ◌-◌, ◌==◌, ◌&&◌, true, false, List, [], ◌∷◌, length, find, get_or, slice_get, Some, None, refl, sym, ◌∙◌, arith}
use Rattle.std.proofs.lemmas.Option.{slice_get-get_or}
use Rattle.std.proofs.lemmas.Bool.{and_parts, cond-true, cond-false}
use Rattle.std.proofs.lemmas.Bool.Decides.{nat_tests}
use Rattle.buffer_unicode.specs.Keys.{is_at, is_below, is_rising, precedes, rises_after}
use Rattle.buffer_unicode.proofs.Searches.{first_rises, forget_first, below_trans}
use Rattle.script_categories.specs.Gaps.{stands_after, stands_before}

apart_above : (a b h l : ℕ) → is_below h l a b ≡ true → (a == h && b == l) ≡ false
apart_above a b h l p = grind (arith, nat_tests)

apart_below : (a b h l : ℕ) → is_below a b h l ≡ true → (a == h && b == l) ≡ false
apart_below a b h l p = grind (arith, nat_tests)

module _ {R : Type 0} (high low : R → ℕ) (h l : ℕ) where
  -- a key is not among rows above it
  none_above : (before : R) (rows : List R) → rises_after high low (Some before) rows ≡ true → is_below h l (high before) (low before) ≡ true
      → find (is_at high low h l) rows ≡ None
  none_above before [] r p = refl
  none_above before (x ∷ xs) r p =
      let parts = and_parts (precedes high low before x) (rises_after high low (Some x) xs) r in
      let above = below_trans h l (high before) (low before) (high x) (low x) p parts.0 in
      cond-false _ _ _ (apart_above (high x) (low x) h l above) ∙ none_above x xs parts.1 above

  -- where the first row is after a key, no row has it
  pub none_after : (rows : List R) → is_rising high low rows ≡ true → stands_after high low h l (slice_get rows 0) ≡ true → find (is_at high low h l) rows ≡ None
  none_after [] r p = refl
  none_after (x ∷ xs) r p =
      cond-false _ _ _ (apart_above (high x) (low x) h l p) ∙ none_above x xs (first_rises high low None x xs r) p

  -- what is before a row that is before a key is before it
  passed_first : (before : R) (rows : List R) (i : ℕ) → rises_after high low (Some before) rows ≡ true → stands_before high low h l (slice_get rows i) ≡ true
      → is_below (high before) (low before) h l ≡ true
  passed_first before [] i r p = cc
  passed_first before (x ∷ xs) zero r p =
      let parts = and_parts (precedes high low before x) (rises_after high low (Some x) xs) r in
      below_trans (high before) (low before) (high x) (low x) h l parts.0 p
  passed_first before (x ∷ xs) (suc i) r p =
      let parts = and_parts (precedes high low before x) (rises_after high low (Some x) xs) r in
      below_trans (high before) (low before) (high x) (low x) h l parts.0 (passed_first x xs i parts.1 p)

  between : (rows : List R) (i : ℕ) → is_rising high low rows ≡ true → stands_before high low h l (slice_get rows i) ≡ true
      → stands_after high low h l (slice_get rows (suc i)) ≡ true → find (is_at high low h l) rows ≡ None
  between [] i r p q = refl
  between (x ∷ xs) zero r p q =
      let rest = first_rises high low None x xs r in
      cond-false _ _ _ (apart_below (high x) (low x) h l p) ∙ none_after xs (forget_first high low (Some x) xs rest) q
  between (x ∷ xs) (suc i) r p q =
      let rest = first_rises high low None x xs r in
      cond-false _ _ _ (apart_below (high x) (low x) h l (passed_first x xs i rest p))
      ∙ between xs i (forget_first high low (Some x) xs rest) p q

  -- where the row before an index is before a key, and the row at the index after it, no row has the key
  pub none_between : (rows : List R) (i : ℕ) → i ≢ 0 → is_rising high low rows ≡ true → stands_before high low h l (slice_get rows (i - 1)) ≡ true
      → stands_after high low h l (slice_get rows i) ≡ true → find (is_at high low h l) rows ≡ None
  none_between rows zero nonzero r p q = absurd (nonzero refl)
  none_between rows (suc i) nonzero r p q = let same : suc i - 1 ≡ i = omega arith in between rows i r (rw same at p) q

  -- what is found at an index is found by its key
  pub found_at : (rows : List R) (i : ℕ) (x : R) → is_rising high low rows ≡ true → slice_get rows i ≡ Some x → high x ≡ h → low x ≡ l
      → find (is_at high low h l) rows ≡ Some x
  found_at [] i x r e eh el = cc
  found_at (y ∷ ys) zero x r e eh el =
      let same : y ≡ x = cc in
      let at : (high y == h && low y == l) ≡ true = grind (arith, nat_tests) in
      cond-true _ _ _ at ∙ e
  found_at (y ∷ ys) (suc i) x r e eh el =
      let rest = first_rises high low None y ys r in
      let apart : (high y == h && low y == l) ≡ false = apart_below (high y) (low y) h l (before_found y ys i rest e) in
      cond-false _ _ _ apart ∙ found_at ys i x (forget_first high low (Some y) ys rest) e eh el
    where
      before_found : (y : R) (ys : List R) (i : ℕ) → rises_after high low (Some y) ys ≡ true → slice_get ys i ≡ Some x → is_below (high y) (low y) h l ≡ true
      before_found y [] i r e = cc
      before_found y (z ∷ zs) zero r e =
          let parts = and_parts (precedes high low y z) (rises_after high low (Some z) zs) r in
          let same : z ≡ x = cc in
          let zh : high z ≡ h = cc in
          let zl : low z ≡ l = cc in
          rw (zh, zl) at parts.0
      before_found y (z ∷ zs) (suc i) r e =
          let parts = and_parts (precedes high low y z) (rises_after high low (Some z) zs) r in
          below_trans (high y) (low y) (high z) (low z) h l parts.0 (before_found z zs i parts.1 e)

  pub found_there : (rows : List R) (i : ℕ) (d : R) → is_rising high low rows ≡ true → i < length rows → high (get_or rows i d) ≡ h → low (get_or rows i d) ≡ l
      → Some (get_or rows i d) ≡ find (is_at high low h l) rows
  found_there rows i d r lt eh el = sym (found_at rows i (get_or rows i d) r (slice_get-get_or rows i d lt) eh el)
