-- Where characters with a property are in a text, and in the two pieces that it is cut into.
use Rattle.std.proofs.Common.{ℕ, zero, suc, ◌≡◌, ◌≤◌, ◌<◌, ◌+◌, ◌-◌, ◌==◌, ◌&&◌, ◌||◌, not, nat_le, nat_lt, if◌then◌else◌, Bool, true, false, List, [], ◌∷◌, ◌++◌, length, take, drop, drop-cons, get_or, Option, None, Some, arith, refl, sym, ap, ◌∙◌}
use Rattle.std.specs.Prelude.{is_none, is_some, option_map, slice_get}
use Rattle.std.specs.List.{list_any}
use Rattle.std.specs.Option.{option_map_or, option_or}
use Rattle.std.proofs.lemmas.Bool.Decides.{nat_tests}
use Rattle.std.proofs.lemmas.Grind.{common_steps}
use Rattle.std.proofs.lemmas.List.{drop-drop, take-append-drop}
use Rattle.std.proofs.lemmas.List.Folds.{list_any-append}
use Rattle.buffer_facts.proofs.Truth.{both_true, neither_true}
use Rattle.buffer_facts.proofs.Numbers.{more_than_none}
use Rattle.shape_laws.specs.Breaks.Characters.{ends_with_joiner}
use Rattle.shape_breaks.specs.Cuts.{follows_joiner, is_grapheme_joiner, passes_at}
use Rattle.shape_breaks.specs.Texts.{first_index, first_later, is_after, is_before, is_from, is_nowhere, last_index, occurrences}

-- ---- tests of an index

-- an index is below a number, if there is one
abbrev below : ℕ → Option ℕ → Bool
below n o = option_map_or (λ i. nat_lt i n) o false

-- an index is a number or above it, if there is one
abbrev pub above : ℕ → Option ℕ → Bool
above n o = option_map_or (λ i. nat_le n i) o false

same_tests : (a b : Bool) → (a ≡ true → b ≡ true) → (b ≡ true → a ≡ true) → a ≡ b
same_tests true b f g = sym (f refl)
same_tests false true f g = g refl
same_tests false false f g = refl

lt_suc : (i n : ℕ) → nat_lt (i + 1) (suc n) ≡ nat_lt i n
lt_suc i n = same_tests (nat_lt (i + 1) (suc n)) (nat_lt i n) (λ e. grind (arith, nat_tests, e)) (λ e. grind (arith, nat_tests, e))

le_suc : (n i : ℕ) → nat_le (suc n) (i + 1) ≡ nat_le n i
le_suc n i = same_tests (nat_le (suc n) (i + 1)) (nat_le n i) (λ e. grind (arith, nat_tests, e)) (λ e. grind (arith, nat_tests, e))

below_none : (o : Option ℕ) → below 0 o ≡ false
below_none None = refl
below_none (Some i) = grind (arith, nat_tests, common_steps)

below_further : (n : ℕ) (o : Option ℕ) → below (suc n) (option_map (λ i. i + 1) o) ≡ below n o
below_further n None = refl
below_further n (Some i) = lt_suc i n

above_further : (n : ℕ) (o : Option ℕ) (b : Bool) → above (suc n) (option_or (option_map (λ i. i + 1) o) (if b then Some 0 else None)) ≡ above n o
above_further n (Some i) b = le_suc n i
above_further n None true = grind (arith, nat_tests, common_steps)
above_further n None false = refl

-- ---- pieces of a text

any_before : (p : ℕ → Bool) (n : ℕ) (us : List ℕ) → list_any p (take n us) ≡ below n (first_index p us)
any_before p zero us = sym (below_none (first_index p us))
any_before p (suc n) [] = refl
any_before p (suc n) (u ∷ us) = by_test (p u) (any_before p n us)
  where
    by_test : (b : Bool) → list_any p (take n us) ≡ below n (first_index p us) → (b || list_any p (take n us)) ≡ below (suc n) (if b then Some 0 else option_map (λ i. i + 1) (first_index p us))
    by_test true e = sym (more_than_none n)
    by_test false e = e ∙ sym (below_further n (first_index p us))

any_at_all : (p : ℕ → Bool) (us : List ℕ) → list_any p us ≡ is_some (last_index p us)
any_at_all p [] = refl
any_at_all p (u ∷ us) = by_last (p u) (last_index p us) (any_at_all p us)
  where
    by_last : (b : Bool) (o : Option ℕ) → list_any p us ≡ is_some o → (b || list_any p us) ≡ is_some (option_or (option_map (λ i. i + 1) o) (if b then Some 0 else None))
    by_last true None e = refl
    by_last true (Some i) e = refl
    by_last false None e = e
    by_last false (Some i) e = e

above_none : (o : Option ℕ) → above 0 o ≡ is_some o
above_none None = refl
above_none (Some i) = grind (arith, nat_tests)

pub any_from : (p : ℕ → Bool) (n : ℕ) (us : List ℕ) → list_any p (drop n us) ≡ above n (last_index p us)
any_from p zero us = any_at_all p us ∙ sym (above_none (last_index p us))
any_from p (suc n) [] = refl
any_from p (suc n) (u ∷ us) = any_from p n us ∙ sym (above_further n (last_index p us) (p u))

pub before_is : (p : ℕ → Bool) (us : List ℕ) (at : ℕ) → list_any p (drop 1 (take at us)) ≡ is_before (occurrences p us) at
before_is p [] zero = refl
before_is p [] (suc n) = refl
before_is p (u ∷ us) zero = sym (below_none (option_map (λ i. i + 1) (first_index p us)))
before_is p (u ∷ us) (suc n) = any_before p n us ∙ sym (below_further n (first_index p us))

lt_is_le : (at i : ℕ) → nat_le (at + 1) i ≡ nat_lt at i
lt_is_le at i = same_tests (nat_le (at + 1) i) (nat_lt at i) (λ e. grind (arith, nat_tests, e)) (λ e. grind (arith, nat_tests, e))

pub after_is : (p : ℕ → Bool) (us : List ℕ) (at : ℕ) → list_any p (drop 1 (drop at us)) ≡ is_after (occurrences p us) at
after_is p us at = ap (list_any p) (drop-drop 1 at us) ∙ any_from p (at + 1) us ∙ by_last (last_index p us)
  where
    by_last : (o : Option ℕ) → above (at + 1) o ≡ option_map_or (λ i. nat_lt at i) o false
    by_last None = refl
    by_last (Some i) = lt_is_le at i

pub from_is : (p : ℕ → Bool) (us : List ℕ) (at : ℕ) → list_any p (drop at us) ≡ is_from (occurrences p us) at
from_is p us at = any_from p at us

-- a text without such characters has none in its pieces
pub nowhere_is : (p : ℕ → Bool) (us : List ℕ) (at : ℕ) → is_nowhere (occurrences p us) ≡ true → (list_any p (take at us) ≡ false) × (list_any p (drop at us) ≡ false)
nowhere_is p us at e =
    neither_true (list_any p (take at us)) (list_any p (drop at us))
    (sym (list_any-append p (take at us) (drop at us)) ∙ ap (list_any p) (take-append-drop at us) ∙ any_at_all p us ∙ by_last (last_index p us) e)
  where
    by_last : (o : Option ℕ) → is_none o ≡ true → is_some o ≡ false
    by_last None f = refl
    by_last (Some i) f = cc

-- ---- U+034F before a cut

joiner_last : (before : Bool) (n : ℕ) (us : List ℕ) → n < length us → ends_with_joiner before (take (suc n) us) ≡ passes_at is_grapheme_joiner us n
joiner_last before n [] less = absurd (omega (arith, less))
joiner_last before zero (u ∷ us) less = refl
joiner_last before (suc n) (u ∷ us) less = joiner_last (u == 0x34F) n us (omega (arith, less))

pub joiner_before : (us : List ℕ) (at : ℕ) → 0 < at → at < length us → ends_with_joiner false (take at us) ≡ follows_joiner us at
joiner_before us zero some less = absurd (omega (arith, some))
joiner_before us (suc n) some less = let before : n ≡ suc n - 1 = omega arith in joiner_last false n us (omega (arith, less)) ∙ ap (passes_at is_grapheme_joiner us) before

-- ---- walks

-- an index that many places further
abbrev pub moved : ℕ → Option ℕ → Option ℕ
moved n o = option_map (λ i. i + n) o

moved_further : (n : ℕ) (o : Option ℕ) → moved n (option_map (λ i. i + 1) o) ≡ moved (n + 1) o
moved_further n None = refl
moved_further n (Some i) = ap Some (omega arith)

pub first_begins : (p : ℕ → Bool) (us : List ℕ) → moved 1 (first_index p (drop 1 us)) ≡ first_later p us
first_begins p [] = refl
first_begins p (u ∷ us) = refl

pub last_begins : (p : ℕ → Bool) (us : List ℕ) → option_or (moved 0 (last_index p us)) None ≡ last_index p us
last_begins p us = by_last (last_index p us)
  where
    by_last : (o : Option ℕ) → option_or (moved 0 o) None ≡ o
    by_last None = refl
    by_last (Some i) = ap Some (omega arith)

pub first_found : (p : ℕ → Bool) (us : List ℕ) (i u : ℕ) → drop i us ≡ u ∷ drop (i + 1) us → p u ≡ true → moved i (first_index p (drop i us)) ≡ Some i
first_found p us i u e found =
    let none : 0 + i ≡ i = omega arith in
    ap (λ vs. moved i (first_index p vs)) e ∙ ap (λ b. moved i (if b then Some 0 else option_map (λ n. n + 1) (first_index p (drop (i + 1) us)))) found ∙ ap Some none

pub first_lacks : (p : ℕ → Bool) (us : List ℕ) (i u : ℕ) → drop i us ≡ u ∷ drop (i + 1) us → p u ≡ false → moved i (first_index p (drop i us)) ≡ moved (i + 1) (first_index p (drop (i + 1) us))
first_lacks p us i u e lacks =
    ap (λ vs. moved i (first_index p vs)) e ∙ ap (λ b. moved i (if b then Some 0 else option_map (λ n. n + 1) (first_index p (drop (i + 1) us)))) lacks ∙ moved_further i (first_index p (drop (i + 1) us))

pub last_next : (p : ℕ → Bool) (us : List ℕ) (i u : ℕ) (last : Option ℕ) → drop i us ≡ u ∷ drop (i + 1) us → option_or (moved i (last_index p (drop i us))) last ≡ option_or (moved (i + 1) (last_index p (drop (i + 1) us))) (if p u then Some i else last)
last_next p us i u last e = ap (λ vs. option_or (moved i (last_index p vs)) last) e ∙ by_last (last_index p (drop (i + 1) us)) (p u)
  where
    by_last : (o : Option ℕ) (b : Bool) → option_or (moved i (option_or (option_map (λ n. n + 1) o) (if b then Some 0 else None))) last ≡ option_or (moved (i + 1) o) (if b then Some i else last)
    by_last None true = ap Some (omega arith)
    by_last None false = refl
    by_last (Some n) b = ap Some (omega arith)

ended : (i : ℕ) (us : List ℕ) → length us ≤ i → drop i us ≡ []
ended zero [] le = refl
ended zero (u ∷ us) le = absurd (omega (arith, le))
ended (suc n) [] le = refl
ended (suc n) (u ∷ us) le = ended n us (omega (arith, le))

pub first_ends : (p : ℕ → Bool) (us : List ℕ) (i : ℕ) → length us ≤ i → moved i (first_index p (drop i us)) ≡ None
first_ends p us i le = ap (λ vs. moved i (first_index p vs)) (ended i us le)

pub last_ends : (p : ℕ → Bool) (us : List ℕ) (i : ℕ) (last : Option ℕ) → length us ≤ i → option_or (moved i (last_index p (drop i us))) last ≡ last
last_ends p us i last le = ap (λ vs. option_or (moved i (last_index p vs)) last) (ended i us le)

-- a text from a character of its own on
pub drop_here : (us : List ℕ) (i u : ℕ) → i < length us → u ≡ get_or us i u → drop i us ≡ u ∷ drop (i + 1) us
drop_here us i u less is = let next : suc i ≡ i + 1 = omega arith in drop-cons us i u less ∙ ap (λ v. v ∷ drop (suc i) us) (sym is) ∙ ap (λ n. u ∷ drop n us) next
