-- Keys of two numbers rise in the order of pairs.
use Rattle.std.proofs.Common.{ℕ, ◌≡◌, ◌==◌, ◌&&◌, true, List, [], ◌∷◌, Some, None, find, refl, ◌∙◌, arith}
use Rattle.std.proofs.lemmas.Bool.{and_parts, and_from}
use Rattle.std.proofs.lemmas.Bool.Decides.{nat_tests}
use Rattle.std.proofs.lemmas.Cmp.{then_total, on_total, nat_cmp_total}
use Rattle.std.specs.declared.cmp.Ordering.{Ordering}
use Rattle.std.specs.Ordering.{is_lt, is_eq, nat_cmp, ordering_then}
use Rattle.std.specs.Cmp.{IsTotalOrder}
use Rattle.buffer_rows.specs.Keys as Rising
use Rattle.buffer_unicode.specs.Keys.{is_below, precedes, rises_after, is_rising, is_at}
use Rattle.buffer_unicode.proofs.Searches.{first_rises}
use Rattle.buffer_facts.proofs.Numbers.{equal_pairs}

abbrev pub pair_order : ℕ × ℕ → ℕ × ℕ → Ordering
pair_order x y = ordering_then (nat_cmp x.0 y.0) (nat_cmp x.1 y.1)

pub pairs_total : IsTotalOrder pair_order
pairs_total = then_total (on_total (λ (x : ℕ × ℕ). x.0) nat_cmp_total) (on_total (λ (x : ℕ × ℕ). x.1) nat_cmp_total)

below_pairs : (a b c d : ℕ) → is_lt (ordering_then (nat_cmp a c) (nat_cmp b d)) ≡ is_below a b c d
below_pairs a b c d = grind (arith, nat_tests)

module _ {R : Type 0} (high low : R → ℕ) where
  rises_from : (before : R) (rows : List R) → rises_after high low (Some before) rows ≡ true → Rising.is_rising pair_order (λ r. (high r, low r)) (Some (high before, low before)) rows ≡ true
  rises_from before [] h = refl
  rises_from before (r ∷ rows) h =
      let parts = and_parts (precedes high low before r) (rises_after high low (Some r) rows) h in
      and_from _ _ (below_pairs (high before) (low before) (high r) (low r) ∙ parts.0) (rises_from r rows parts.1)

  pub pairs_rise : (rows : List R) → is_rising high low rows ≡ true → Rising.is_rising pair_order (λ r. (high r, low r)) None rows ≡ true
  pairs_rise [] h = refl
  pairs_rise (r ∷ rows) h = rises_from r rows (first_rises high low None r rows h)

  pub row_of_pair : (h l : ℕ) (rows : List R) → Rising.row_with pair_order (λ r. (high r, low r)) (h, l) rows ≡ find (is_at high low h l) rows
  row_of_pair h l [] = refl
  row_of_pair h l (r ∷ rows) = rw (equal_pairs (high r) (low r) h l, row_of_pair h l rows) refl
