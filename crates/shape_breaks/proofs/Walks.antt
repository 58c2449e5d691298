-- What is true of each character below a number.
use Rattle.std.proofs.Common.{ℕ, ◌≡◌, ◌<◌, ◌+◌, true, inl, inr, sym, subst, arith}
use Rattle.std.proofs.lemmas.Bool.{cases_eq}
use lib.Utf8.{scalar}

pub one_more : (P : ℕ → Type 0) (n : ℕ) → ((u : ℕ) → u < n → scalar u ≡ true → P u) → (scalar n ≡ true → P n) → (u : ℕ) → u < n + 1 → scalar u ≡ true → P u
one_more P n before here u lt is = elim (cases_eq u n) [
  | inl e ↦ subst P (sym e) (here (subst (λ c. scalar c ≡ true) e is))
  | inr apart ↦ before u (omega (arith, lt, apart)) is
]

pub one_further : (P : ℕ → Type 0) (n : ℕ) → ((k : ℕ) → k < n → P k) → P n → (k : ℕ) → k < n + 1 → P k
one_further P n before here k lt = elim (cases_eq k n) [
  | inl e ↦ subst P (sym e) here
  | inr apart ↦ before k (omega (arith, lt, apart))
]
