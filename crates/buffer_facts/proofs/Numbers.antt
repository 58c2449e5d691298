-- Natural numbers and their tests.
use Rattle.std.proofs.Common.{◌≡◌, ℕ, ◌<◌, true, arith, ◌+◌, suc, ◌==◌, ◌&&◌, ◌≢◌, false, sym, ◌∙◌, ◌||◌, Bool, if◌then◌else◌, refl, ◌≤◌, nat_le, Some, not}
use Rattle.std.proofs.lemmas.Bool.Decides.{nat_tests}
use Rattle.std.proofs.lemmas.Grind.{common_steps}
use Rattle.std.specs.Cmp.{nat_cmp_is}
use Rattle.std.specs.Ordering.{is_lt, nat_cmp, is_eq, ordering_then}
use Rattle.std.specs.Prelude.{nat_lt}
use Rattle.std.specs.declared.cmp.Ordering.TheVariants.{Less}

pub less_by_order : (a b : ℕ) → is_lt (nat_cmp a b) ≡ true → a < b
less_by_order a b h = grind (arith, nat_tests)

pub one_more : (n : ℕ) → 1 + n ≡ suc n
one_more n = omega arith

pub equal_pairs : (a b c d : ℕ) → is_eq (ordering_then (nat_cmp a c) (nat_cmp b d)) ≡ (a == c && b == d)
equal_pairs a b c d = grind (arith, nat_tests)

pub same_by_test : (m n : ℕ) → (m == n) ≡ true → m ≡ n
same_by_test m n e = grind (arith, common_steps, e)

pub apart_by_test : (m n : ℕ) → (m == n) ≡ false → m ≢ n
apart_by_test m n e same = let yes : (m == n) ≡ true = grind (arith, common_steps, same) in let bad : true ≡ false = sym yes ∙ e in cc

pub test_of_apart : (m n : ℕ) → m ≢ n → (m == n) ≡ false
test_of_apart m n ne = grind (arith, common_steps, ne)

pub test_of_same : (m n : ℕ) → m ≡ n → (m == n) ≡ true
test_of_same m n e = grind (arith, common_steps, e)

pub test_of_itself : (n : ℕ) → (n == n) ≡ true
test_of_itself n = grind (arith, common_steps)

pub chosen_same : (n c : ℕ) (t : Bool) → (n == c) ≡ t → (if t || false then n else c) ≡ c
chosen_same n c true e = grind (arith, common_steps, e)
chosen_same n c false e = refl

pub at_most_by_test : (n m : ℕ) → nat_le n m ≡ true → n ≤ m
at_most_by_test n m e = grind (arith, nat_tests, e)

pub some_is : (m n : ℕ) → Some m ≡ Some n → m ≡ n
some_is m n e = cc

pub zero_by_test : (n : ℕ) → not (n == 0) ≡ false → n ≡ 0
zero_by_test n e = grind (arith, nat_tests, e)

pub order_of_less : (b k : ℕ) → b + 1 ≤ k → is_lt (nat_cmp b k) ≡ true
order_of_less b k le = let less : Less ≡ nat_cmp b k = nat_cmp_is b k Less (omega (arith, le)) in rw (sym less) refl

pub test_of_less : (p n : ℕ) → p < n → nat_lt p n ≡ true
test_of_less p n lt = grind (arith, lt)

pub test_of_not_less : (p n : ℕ) → n ≤ p → nat_lt p n ≡ false
test_of_not_less p n le = grind (arith, le)

pub more_than_one : (n : ℕ) → nat_lt 1 (suc n) ≡ nat_lt 0 n
more_than_one n = grind (arith, nat_tests, common_steps)

pub more_than_none : (n : ℕ) → nat_lt 0 (suc n) ≡ true
more_than_none n = grind (arith, nat_tests, common_steps)

pub counted_on : (n : ℕ) (b : Bool) → b ≡ true → (if b then n + 1 else 0) ≡ n + 1
counted_on n true e = refl
counted_on n false e = cc e

pub counted_anew : (n : ℕ) (b : Bool) → b ≡ false → (if b then n + 1 else 0) ≡ 0
counted_anew n true e = cc e
counted_anew n false e = refl

pub test_of_at_most : (m n : ℕ) → m ≤ n → nat_le m n ≡ true
test_of_at_most m n le = grind (arith, nat_tests, common_steps, le)

pub test_through : (a b c : ℕ) → nat_le a b ≡ true → nat_le b c ≡ true → nat_le a c ≡ true
test_through a b c p q = grind (arith, nat_tests)
