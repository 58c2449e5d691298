-- The final reordering permutes a syllable.
use Rattle.std.proofs.Common.{ℕ, zero, suc, ◌≡◌, ◌≤◌, ◌<◌, ◌+◌, ◌-◌, Bool, true, false, if◌then◌else◌, List, [], ◌∷◌, ◌++◌, length, map, take, drop, filter, Option, Some, None, slice_get, refl, sym, ap, subst, ◌∙◌, arith, append_assoc}
use Rattle.std.specs.Prelude.{not}
use Rattle.std.specs.List.Sorted.{IsPermutation}
use Rattle.std.proofs.lemmas.List.{append-nil, length-drop, take-append-drop}
use Rattle.std.proofs.lemmas.List.Sorted.{IsPermutation-refl, IsPermutation-trans, IsPermutation-map, IsPermutation-cons, IsPermutation-middle, IsPermutation-sym, IsPermutation-append_left, IsPermutation-append_right, IsPermutation-append_comm}
use Rattle.script_categories.specs.declared.shaper.hb_ot_script_shaper_t.TheVariants.{INDIC_SHAPER}
use Rattle.script_categories.specs.Shapers.{is_reordered}
use Rattle.buffer_glyphs.specs.Items.{Item}
use Rattle.buffer_stages.specs.Pieces.{ArePermuted}
use Rattle.buffer_glyphs.specs.Rewriting.{Arrangement, eventless_arrangement, and_arranged}
use Rattle.buffer_stages.specs.Rewriting.{by_syllable, in_syllables, within}
use Rattle.buffer_stages.specs.Parts.{first_to_back, item_with_features}
use Rattle.buffer_stages.specs.SyllableLaws.{IsPermuted, numbers_of}
use Rattle.buffer_stages.specs.Lemmas.Numbers.{moved_permutes, same_numbers, then_permutes, within_permutes}
use Rattle.buffer_stages.specs.Lemmas.Permuted.{permutes_each_syllable}
use Rattle.script_indic_reordering.specs.declared.script.IndicMasks.{IndicMasks}
use Rattle.script_indic_reordering.specs.Glyphs.{is_left}
use Rattle.script_indic_reordering.specs.Indices.{begins_with}
use Rattle.script_indic_reordering.specs.Final.{RephMoved, after_halant, base_passed, begins_with_reph, begins_word, final_reordered, formed_base, last_halant, left_before, lefts_last, lefts_moved, lefts_moved_by, lefts_moved_from, merged_to_base, passed_by_reph, pref_form, pref_moved, pref_moved_from, pref_target, reph_moved, then_pref, words_begun}
use Rattle.script_indic_reordering.specs.Orders.{FinalPermutes, final_order, final_syllable, init_masked}
use Rattle.script_indic_reordering.specs.Lemmas.Indices.{first_within}
use Rattle.script_indic_reordering.specs.Lemmas.FinalSize.{form_within, take_short, target_within}
use Rattle.script_indic_reordering.specs.Lemmas.InitialPermuted.{if_reordered_permutes}

-- ---- left matras

one_between : {X : Type 0} (x : X) (ys zs : List X) → IsPermutation (x ∷ (ys ++ zs)) (ys ++ x ∷ zs)
one_between x ys zs = subst (IsPermutation (x ∷ (ys ++ zs))) (append_assoc ys (x ∷ []) zs) (IsPermutation-append_left zs (x ∷ ys) (ys ++ x ∷ []) (IsPermutation-append_comm (x ∷ []) ys))

-- what a test picks after what it does not
picked_last : {X : Type 0} (p : X → Bool) (xs : List X) → IsPermutation xs (filter (λ x. not (p x)) xs ++ filter p xs)
picked_last p [] = IsPermutation-refl []
picked_last {X = X} p (x ∷ xs) = by_test (p x) (IsPermutation-append_right (x ∷ []) xs (filter (λ y. not (p y)) xs ++ filter p xs) (picked_last p xs))
  where
    by_test : (t : Bool) → IsPermutation (x ∷ xs) (x ∷ (filter (λ y. not (p y)) xs ++ filter p xs))
        → IsPermutation (x ∷ xs) ((if not t then x ∷ filter (λ y. not (p y)) xs else filter (λ y. not (p y)) xs) ++ (if t then x ∷ filter p xs else filter p xs))
    by_test true h = IsPermutation-trans (x ∷ xs) (x ∷ (filter (λ y. not (p y)) xs ++ filter p xs)) (filter (λ y. not (p y)) xs ++ x ∷ filter p xs) h (one_between x (filter (λ y. not (p y)) xs) (filter p xs))
    by_test false h = h

last_permutes : (n : ℕ) (xs : List Item) → IsPermuted xs (lefts_last n xs)
last_permutes n xs =
    let front = take n xs in
    let others = filter (λ x. not (is_left x)) front in
    let lefts = filter is_left front in
    let rest = drop n xs in
    let one : IsPermutation (front ++ rest) ((others ++ lefts) ++ rest) = IsPermutation-append_left rest front (others ++ lefts) (picked_last is_left front) in
    let two : IsPermutation (others ++ (lefts ++ rest)) (others ++ (rest ++ lefts)) = IsPermutation-append_right others (lefts ++ rest) (rest ++ lefts) (IsPermutation-append_comm lefts rest) in
    let first = subst (λ ys. IsPermutation ys ((others ++ lefts) ++ rest)) (take-append-drop n xs) one in
    let second = subst (IsPermutation xs) (append_assoc others lefts rest) first in
    let all = IsPermutation-trans xs (others ++ (lefts ++ rest)) (others ++ (rest ++ lefts)) second two in
    IsPermutation-map (λ (x : Item). x.number) xs (others ++ rest ++ lefts) (subst (IsPermutation xs) (sym (append_assoc others rest lefts)) all)

from_permutes : (base h : ℕ) (xs : List Item) (o : Option ℕ) → left_before h xs ≡ o → IsPermuted xs (lefts_moved_from base h xs o)
from_permutes base h xs None e = IsPermutation-refl (numbers_of xs)
from_permutes base h xs (Some first) e =
    let w = first_within (begins_with is_left) 0 first (take h xs) e in
    let s = take_short h xs in
    within_permutes (lefts_last (h - first)) first (after_halant base xs h) xs (last_permutes (h - first)) (omega (arith, w.1, s))

by_permutes : (base : ℕ) (xs : List Item) (o : Option ℕ) → IsPermuted xs (lefts_moved_by base xs o)
by_permutes base xs None = IsPermutation-refl (numbers_of xs)
by_permutes base xs (Some h) = from_permutes base h xs (left_before h xs) refl

merged_permutes : (base : ℕ) (xs : List Item) (o : Option ℕ) → IsPermuted xs (merged_to_base base xs o)
merged_permutes base xs None = IsPermutation-refl (numbers_of xs)
merged_permutes base xs (Some first) = IsPermutation-refl (numbers_of xs)

lefts_permute : (base : ℕ) (xs : List Item) → IsPermuted xs (lefts_moved base xs)
lefts_permute base xs =
    let r = lefts_moved_by base xs (last_halant base xs) in
    then_permutes xs r (λ ys. merged_to_base base ys (left_before base ys)) (by_permutes base xs (last_halant base xs)) (merged_permutes base r.items (left_before base r.items))

-- ---- the reph

abbrev MovedPermutes : List Item → RephMoved → Type 0
MovedPermutes xs m = IsPermuted xs m.rewritten

reph_permutes : (reph_pos base : ℕ) (xs : List Item) → IsPermuted xs (reph_moved reph_pos base xs).rewritten
reph_permutes reph_pos base xs = by_test (begins_with_reph xs)
  where
    by_test : (t : Bool) → MovedPermutes xs (if t then record { rewritten = within 0 (passed_by_reph reph_pos base xs) (first_to_back 1) xs; base = base_passed (passed_by_reph reph_pos base xs) base } else record { rewritten = eventless_arrangement xs; base = base })
    by_test true = within_permutes (first_to_back 1) 0 (passed_by_reph reph_pos base xs) xs (moved_permutes 1) (omega arith)
    by_test false = IsPermutation-refl (numbers_of xs)

-- ---- the form of the feature pref

pref_from_permutes : (bits base : ℕ) (xs : List Item) (o : Option ℕ) → pref_form bits base xs ≡ o → IsPermuted xs (pref_moved_from base xs o)
pref_from_permutes bits base xs None e = IsPermutation-refl (numbers_of xs)
pref_from_permutes bits base xs (Some i) e =
    let to = pref_target base xs (last_halant base xs) in
    let w = form_within bits base i xs e in
    let t = target_within base xs (last_halant base xs) refl in
    within_permutes (first_to_back (i - to)) to (i + 1) xs (moved_permutes (i - to)) (omega (arith, w.0, t))

pref_permutes : (bits base : ℕ) (xs : List Item) → IsPermuted xs (pref_moved bits base xs)
pref_permutes bits base xs = pref_from_permutes bits base xs (pref_form bits base xs) refl

-- ---- a syllable

reordered_permutes : (reph_pos pref : ℕ) (xs : List Item) → IsPermuted xs (final_reordered reph_pos pref xs)
reordered_permutes reph_pos pref xs =
    let base = formed_base xs in
    let lefts = lefts_moved base xs in
    let r = reph_moved reph_pos base lefts.items in
    then_permutes xs lefts (λ ys. then_pref pref (reph_moved reph_pos base ys)) (lefts_permute base xs)
    (then_permutes lefts.items r.rewritten (pref_moved pref r.base) (reph_permutes reph_pos base lefts.items) (pref_permutes pref r.base r.rewritten.items))

pub final_syllable_permutes : (reph_pos : ℕ) (m : IndicMasks) (xs : List Item) → IsPermuted xs (final_syllable reph_pos m xs)
final_syllable_permutes reph_pos m xs = if_reordered_permutes (final_reordered reph_pos m.pref) (reordered_permutes reph_pos m.pref) xs (slice_get xs 0)

pub words_numbers : (is_reordered : ℕ → Bool) (bits : ℕ) (before : Option Item) (xs : List Item) → numbers_of (words_begun is_reordered bits before xs) ≡ numbers_of xs
words_numbers is_reordered bits before [] = refl
words_numbers is_reordered bits before (x ∷ xs) = ap (λ n. n ∷ numbers_of (words_begun is_reordered bits (Some x) xs)) (one (begins_word is_reordered before x)) ∙ ap (λ ns. x.number ∷ ns) (words_numbers is_reordered bits (Some x) xs)
  where
    number_of : Item → ℕ
    number_of y = y.number

    one : (t : Bool) → number_of (if t then item_with_features bits x else x) ≡ x.number
    one true = refl
    one false = refl

pub final_permutes : FinalPermutes
final_permutes reph_pos m xs =
    let done = (by_syllable (final_syllable reph_pos m) xs).items in
    subst (ArePermuted (map numbers_of (in_syllables xs))) (sym (words_numbers (is_reordered INDIC_SHAPER) m.init None done)) (permutes_each_syllable (λ (x : Item). x.number) (final_syllable reph_pos m) (final_syllable_permutes reph_pos m) xs)
