-- The length of runs, and tests of the characters, of a decomposition.
use Rattle.std.proofs.Common.{ℕ, ◌≡◌, ◌≢◌, ◌↔◌, ◌≤◌, ◌+◌, ◌-◌, ◌==◌, ◌&&◌, nat_lt, Bool, true, false, if◌then◌else◌, IsTrue, List, [], ◌∷◌, ◌++◌, Option, Some, None, is_some, refl, ap, subst, ◌∙◌, arith, ne_eqb, eq-eqb}
use Rattle.std.proofs.lemmas.Bool.Decides.{nat_tests}
use Rattle.std.specs.List.{list_all, flat_map}
use Rattle.std.specs.Prelude.{fold}
use Rattle.std.proofs.lemmas.List.Folds.{list_all-append}
use Rattle.buffer_unicode_tables.specs.Expansion.{Splits, expansion_by_splits}
use Rattle.buffer_unicode_tables.proofs.Chains.{expanded_alone, expanded_at_zero, expanded_pieces}
use Rattle.buffer_properties.specs.Premises.{HasShortRuns}
use Rattle.shape_premises.specs.Texts.{has_whole, is_in_font, run_after, run_grown, run_with_whole}
use Rattle.buffer_unicode_tables.specs.Tables.{Tables, class_of}
use Rattle.buffer_unicode_tables.specs.Texts.{full_expansion, full_text}
use Rattle.layout_face.specs.declared.parts.FaceParts.{FaceParts}
use Rattle.buffer_properties.proofs.Short.{short_first as short_within}

pub run_after_both : (class : ℕ → ℕ) (met : Option ℕ) (us vs : List ℕ) → run_after class met (us ++ vs) ≡ run_after class (run_after class met us) vs
run_after_both class None us [] = refl
run_after_both class None us (v ∷ vs) = refl
run_after_both class (Some n) [] vs = refl
run_after_both class (Some n) (u ∷ us) vs = run_after_both class (run_grown (class u) n) us vs

run_ended : (class : ℕ → ℕ) (met : Option ℕ) → run_after class met [] ≡ met
run_ended class None = refl
run_ended class (Some n) = refl

-- ---- the decomposition of a character

expanded_first : (splits : Splits) (depth u a b : ℕ) → splits u ≡ Some (a, b) → depth ≢ 0 → b ≡ 0 → expansion_by_splits splits depth u ≡ expansion_by_splits splits (depth - 1) a
expanded_first splits depth u a b s n absent = let at : (b == 0) ≡ true = eq-eqb b 0 absent in expanded_pieces splits depth u a b s n ∙ rw at refl

expanded_both : (splits : Splits) (depth u a b : ℕ) → splits u ≡ Some (a, b) → depth ≢ 0 → b ≢ 0 → expansion_by_splits splits depth u ≡ expansion_by_splits splits (depth - 1) a ++ b ∷ []
expanded_both splits depth u a b s n present = let off : (b == 0) ≡ false = ne_eqb b 0 present in expanded_pieces splits depth u a b s n ∙ rw off refl

pub run_at_zero : (class : ℕ → ℕ) (splits : Splits) (depth u met : ℕ) → depth ≡ 0 → run_after class (Some met) (expansion_by_splits splits depth u) ≡ run_grown (class u) met
run_at_zero class splits depth u met e = ap (run_after class (Some met)) (expanded_at_zero splits depth u e) ∙ run_ended class (run_grown (class u) met)

pub run_unsplit : (class : ℕ → ℕ) (splits : Splits) (depth u met : ℕ) → splits u ≡ None → run_after class (Some met) (expansion_by_splits splits depth u) ≡ run_grown (class u) met
run_unsplit class splits depth u met e = ap (run_after class (Some met)) (expanded_alone splits depth u e) ∙ run_ended class (run_grown (class u) met)

pub run_first : (class : ℕ → ℕ) (splits : Splits) (depth u a b : ℕ) (met : Option ℕ) → splits u ≡ Some (a, b) → depth ≢ 0 → b ≡ 0
    → run_after class met (expansion_by_splits splits depth u) ≡ run_after class met (expansion_by_splits splits (depth - 1) a)
run_first class splits depth u a b met s n absent = ap (run_after class met) (expanded_first splits depth u a b s n absent)

pub run_both : (class : ℕ → ℕ) (splits : Splits) (depth u a b : ℕ) (met : Option ℕ) (longer : ℕ) → splits u ≡ Some (a, b) → depth ≢ 0 → b ≢ 0 → run_after class met (expansion_by_splits splits (depth - 1) a) ≡ Some longer
    → run_after class met (expansion_by_splits splits depth u) ≡ run_grown (class b) longer
run_both class splits depth u a b met longer s n present e =
    ap (run_after class met) (expanded_both splits depth u a b s n present) ∙ (run_after_both class met (expansion_by_splits splits (depth - 1) a) (b ∷ []) ∙ (ap (λ m. run_after class m (b ∷ [])) e ∙ run_ended class (run_grown (class b) longer)))

none_long : (class : ℕ → ℕ) (us : List ℕ) → run_after class None us ≡ None
none_long class [] = refl
none_long class (u ∷ us) = refl

pub run_long : (class : ℕ → ℕ) (splits : Splits) (depth u a b : ℕ) (met : Option ℕ) → splits u ≡ Some (a, b) → depth ≢ 0 → run_after class met (expansion_by_splits splits (depth - 1) a) ≡ None
    → run_after class met (expansion_by_splits splits depth u) ≡ None
run_long class splits depth u a b met s n e = ap (run_after class met) (expanded_pieces splits depth u a b s n) ∙ by_second (b == 0)
  where
    front : List ℕ
    front = expansion_by_splits splits (depth - 1) a

    by_second : (t : Bool) → run_after class met (if t then front else front ++ b ∷ []) ≡ None
    by_second true = e
    by_second false = run_after_both class met front (b ∷ []) ∙ (ap (λ m. run_after class m (b ∷ [])) e)

pub all_at_zero : (p : ℕ → Bool) (splits : Splits) (depth u : ℕ) → depth ≡ 0 → list_all p (expansion_by_splits splits depth u) ≡ p u
all_at_zero p splits depth u e = ap (list_all p) (expanded_at_zero splits depth u e) ∙ and_true (p u)
  where
    and_true : (b : Bool) → (b && true) ≡ b
    and_true true = refl
    and_true false = refl

pub all_unsplit : (p : ℕ → Bool) (splits : Splits) (depth u : ℕ) → splits u ≡ None → list_all p (expansion_by_splits splits depth u) ≡ p u
all_unsplit p splits depth u e = ap (list_all p) (expanded_alone splits depth u e) ∙ and_true (p u)
  where
    and_true : (b : Bool) → (b && true) ≡ b
    and_true true = refl
    and_true false = refl

all_both : (p : ℕ → Bool) (us : List ℕ) (b : ℕ) → list_all p (us ++ b ∷ []) ≡ (list_all p us && p b)
all_both p us b = list_all-append p us (b ∷ []) ∙ ap (λ t. list_all p us && t) (and_true (p b))
  where
    and_true : (t : Bool) → (t && true) ≡ t
    and_true true = refl
    and_true false = refl

pub all_first : (p : ℕ → Bool) (splits : Splits) (depth u a b : ℕ) → splits u ≡ Some (a, b) → depth ≢ 0 → b ≡ 0 → list_all p (expansion_by_splits splits depth u) ≡ list_all p (expansion_by_splits splits (depth - 1) a)
all_first p splits depth u a b s n absent = ap (list_all p) (expanded_first splits depth u a b s n absent)

pub all_second : (p : ℕ → Bool) (splits : Splits) (depth u a b : ℕ) → splits u ≡ Some (a, b) → depth ≢ 0 → b ≢ 0 → list_all p (expansion_by_splits splits depth u) ≡ (list_all p (expansion_by_splits splits (depth - 1) a) && p b)
all_second p splits depth u a b s n present = ap (list_all p) (expanded_both splits depth u a b s n present) ∙ all_both p (expansion_by_splits splits (depth - 1) a) b

pub all_lacking : (p : ℕ → Bool) (splits : Splits) (depth u a b : ℕ) → splits u ≡ Some (a, b) → depth ≢ 0 → list_all p (expansion_by_splits splits (depth - 1) a) ≡ false → list_all p (expansion_by_splits splits depth u) ≡ false
all_lacking p splits depth u a b s n e = ap (list_all p) (expanded_pieces splits depth u a b s n) ∙ by_second (b == 0)
  where
    front : List ℕ
    front = expansion_by_splits splits (depth - 1) a

    by_second : (t : Bool) → list_all p (if t then front else front ++ b ∷ []) ≡ false
    by_second true = e
    by_second false = all_both p front b ∙ ap (λ t. t && p b) e

-- ---- a text

all_text : (p : ℕ → Bool) (f : ℕ → List ℕ) (us : List ℕ) → list_all p (flat_map f us) ≡ list_all (λ u. list_all p (f u)) us
all_text p f [] = refl
all_text p f (u ∷ us) = list_all-append p (f u) (flat_map f us) ∙ ap (λ t. list_all p (f u) && t) (all_text p f us)

pub all_of_text : (font : FaceParts) (t : Tables) (us : List ℕ) → list_all (is_in_font font) (full_text t us) ≡ list_all (has_whole font t) us
unfolding has_whole
all_of_text font t us = all_text (is_in_font font) (full_expansion t) us

run_text : (class : ℕ → ℕ) (f : ℕ → List ℕ) (met : Option ℕ) (us : List ℕ) → run_after class met (flat_map f us) ≡ fold (λ m u. run_after class m (f u)) met us
run_text class f met [] = run_ended class met
run_text class f met (u ∷ us) = run_after_both class met (f u) (flat_map f us) ∙ run_text class f (run_after class met (f u)) us

run_of_text : (t : Tables) (us : List ℕ) → run_after (class_of t) (Some 0) (full_text t us) ≡ fold (run_with_whole t) (Some 0) us
unfolding run_with_whole
run_of_text t us = run_text (class_of t) (full_expansion t) (Some 0) us

-- ---- short runs

-- a run that is not yet too long may have one more
one_more : (met : ℕ) → nat_lt met 32 ≡ true → met + 1 ≤ 32
one_more met l = grind (arith, nat_tests, l)

too_long : (met : ℕ) → nat_lt met 32 ≡ false → met + 1 ≤ 32 → ⊥
too_long met l le = grind (arith, nat_tests, l, le)

room_short : (class : ℕ → ℕ) (met : ℕ) (us : List ℕ) (t : Bool) → nat_lt met 32 ≡ t → (met + 1 ≤ 32 → is_some (run_after class (Some (met + 1)) us) ≡ true → HasShortRuns class (met + 1) us)
    → is_some (run_after class (if t then Some (met + 1) else None) us) ≡ true → HasShortRuns class (met + 1) us
room_short class met us true l k h = k (one_more met l) h
room_short class met us false l k h = let none = none_long class us in cc

class_short : (class : ℕ → ℕ) (met : ℕ) (us : List ℕ) (t : Bool) → (is_some (run_after class (Some 0) us) ≡ true → HasShortRuns class 0 us)
    → (is_some (run_after class (if nat_lt met 32 then Some (met + 1) else None) us) ≡ true → HasShortRuns class (met + 1) us)
    → is_some (run_after class (if t then Some 0 else if nat_lt met 32 then Some (met + 1) else None) us) ≡ true → HasShortRuns class (if t then 0 else met + 1) us
class_short class met us true j k h = j h
class_short class met us false j k h = k h

short_from : (class : ℕ → ℕ) (met : ℕ) (us : List ℕ) → met ≤ 32 → is_some (run_after class (Some met) us) ≡ true → HasShortRuns class met us
short_from class met [] le e = le
short_from class met (u ∷ us) le e =
    (le, class_short class met us (class u == 0) (short_from class 0 us (omega arith)) (room_short class met us (nat_lt met 32) refl (short_from class (met + 1) us)) e)

room_some : (class : ℕ → ℕ) (met : ℕ) (us : List ℕ) (t : Bool) → nat_lt met 32 ≡ t → HasShortRuns class (met + 1) us → is_some (run_after class (Some (met + 1)) us) ≡ true → is_some (run_after class (if t then Some (met + 1) else None) us) ≡ true
room_some class met us true l h k = k
room_some class met us false l h k = absurd (too_long met l (short_within class (met + 1) us h))

class_some : (class : ℕ → ℕ) (met : ℕ) (us : List ℕ) (t : Bool) → HasShortRuns class (if t then 0 else met + 1) us → (HasShortRuns class 0 us → is_some (run_after class (Some 0) us) ≡ true)
    → (HasShortRuns class (met + 1) us → is_some (run_after class (if nat_lt met 32 then Some (met + 1) else None) us) ≡ true)
    → is_some (run_after class (if t then Some 0 else if nat_lt met 32 then Some (met + 1) else None) us) ≡ true
class_some class met us true h j k = j h
class_some class met us false h j k = k h

some_from : (class : ℕ → ℕ) (met : ℕ) (us : List ℕ) → HasShortRuns class met us → is_some (run_after class (Some met) us) ≡ true
some_from class met [] h = refl
some_from class met (u ∷ us) h =
    class_some class met us (class u == 0) h.1 (some_from class 0 us) (λ k. room_some class met us (nat_lt met 32) refl k (some_from class (met + 1) us k))

short_runs : (class : ℕ → ℕ) (us : List ℕ) → IsTrue (is_some (run_after class (Some 0) us)) ↔ HasShortRuns class 0 us
short_runs class us = (λ h. short_from class 0 us (omega arith) h, some_from class 0 us)

pub some_is_short : (t : Tables) (us : List ℕ) → IsTrue (is_some (fold (run_with_whole t) (Some 0) us)) ↔ HasShortRuns (class_of t) 0 (full_text t us)
some_is_short t us = subst (λ (o : Option ℕ). IsTrue (is_some o) ↔ HasShortRuns (class_of t) 0 (full_text t us)) (run_of_text t us) (short_runs (class_of t) (full_text t us))
