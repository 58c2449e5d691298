-- Lists of which some elements are left out, and keys that rise.
use Rattle.std.proofs.Common.{◌≡◌, ℕ, ◌<◌, List, [], ◌∷◌, ◌++◌, ◌&&◌, map, filter, true, false, Bool, nat_lt, refl, ap, sym, ◌∙◌, inl, inr, arith}
use Rattle.std.specs.Prelude.{Option, Some, None}
use Rattle.std.specs.Ordering.{nat_cmp, is_lt}
use Rattle.std.proofs.lemmas.Bool.Decides.{nat_tests}
use Rattle.std.proofs.lemmas.Bool.{cases_Bool, and_parts, and_from}
use Rattle.buffer_rows.specs.Keys.{is_above, is_rising}
use Rattle.font_lists.specs.Scripts.{known_indices}
use Rattle.buffer_facts.proofs.Numbers.{less_by_order as less_of}

-- an element, and those after it
pub known_step : (count i : ℕ) (is : List ℕ) → known_indices count (i ∷ is) ≡ known_indices count (i ∷ []) ++ known_indices count is
known_step count i is =
    elim (cases_Bool (nat_lt i count)) [
      | inl known ↦ rw known refl
      | inr other ↦ rw other refl
    ]

-- lists with the same keys rise alike
pub rising_by_keys : {A B : Type 0} (one : A → ℕ) (other : B → ℕ) (before : Option ℕ) (xs : List A) (ys : List B) → map one xs ≡ map other ys
    → is_rising nat_cmp other before ys ≡ true → is_rising nat_cmp one before xs ≡ true
rising_by_keys one other before [] ys same rising = refl
rising_by_keys one other before (x ∷ xs) [] same rising = cc
rising_by_keys one other before (x ∷ xs) (y ∷ ys) same rising =
    let key : one x ≡ other y = cc in
    let rest : map one xs ≡ map other ys = cc in
    let parts = and_parts _ _ rising in
    let above : is_above nat_cmp before (one x) ≡ true = rw key parts.0 in
    let later : is_rising nat_cmp other (Some (one x)) ys ≡ true = rw key parts.1 in
    rw above (rising_by_keys one other (Some (one x)) xs ys rest later)

less_to : (a b : ℕ) → a < b → is_lt (nat_cmp a b) ≡ true
less_to a b h = grind (arith, nat_tests)

-- what rises from a key on rises from one below it on
lower : {A : Type 0} (key : A → ℕ) (before : Option ℕ) (k : ℕ) (xs : List A) → is_above nat_cmp before k ≡ true → is_rising nat_cmp key (Some k) xs ≡ true
    → is_rising nat_cmp key before xs ≡ true
lower key before k [] above rising = refl
lower key None k (x ∷ xs) above rising = (and_parts (is_lt (nat_cmp k (key x))) (is_rising nat_cmp key (Some (key x)) xs) rising).1
lower key (Some b) k (x ∷ xs) above rising =
    let parts = and_parts (is_lt (nat_cmp k (key x))) (is_rising nat_cmp key (Some (key x)) xs) rising in
    let first = less_of b k above in
    let next = less_of k (key x) parts.0 in
    let both : is_lt (nat_cmp b (key x)) ≡ true = less_to b (key x) (omega (arith, first, next)) in
    rw both parts.1

-- some of what rises rise
pub filter_rises : {A : Type 0} (test : A → Bool) (key : A → ℕ) (before : Option ℕ) (xs : List A) → is_rising nat_cmp key before xs ≡ true
    → is_rising nat_cmp key before (filter test xs) ≡ true
filter_rises test key before [] rising = refl
filter_rises test key before (x ∷ xs) rising =
    let parts = and_parts (is_above nat_cmp before (key x)) (is_rising nat_cmp key (Some (key x)) xs) rising in
    let rest = filter_rises test key (Some (key x)) xs parts.1 in
    elim (cases_Bool (test x)) [
      | inl taken ↦ rw (taken, parts.0) rest
      | inr left ↦ rw left (lower key before (key x) (filter test xs) parts.0 rest)
    ]
