-- The final reordering of a syllable keeps its length.
use Rattle.std.proofs.Common.{ℕ, zero, suc, ◌≡◌, ◌≤◌, ◌<◌, ◌+◌, ◌-◌, ◌==◌, ◌&&◌, ◌||◌, Bool, true, false, if◌then◌else◌, List, [], ◌∷◌, ◌++◌, length, map, take, drop, filter, Option, Some, None, slice_get, refl, ap, ◌∙◌, arith, sym}
use Rattle.std.specs.Prelude.{bit_and, nat_lt, not, unwrap_or}
use Rattle.std.specs.List.{position_or_len}
use Rattle.std.proofs.lemmas.Bool.Decides.{nat_tests}
use Rattle.std.proofs.lemmas.Grind.{common_steps}
use Rattle.std.proofs.lemmas.List.{length-append, length-drop, length-take-le, take-append-drop}
use Rattle.script_categories.specs.declared.ot_position_t.TheConstants as position
use Rattle.script_categories.specs.declared.shaper.hb_ot_script_shaper_t.TheVariants.{INDIC_SHAPER}
use Rattle.script_categories.specs.Shapers.{is_reordered}
use Rattle.buffer_glyphs.specs.Items.{Item}
use Rattle.buffer_glyphs.specs.Rewriting.{Arrangement, eventless_arrangement, and_arranged}
use Rattle.buffer_stages.specs.Rewriting.{within}
use Rattle.buffer_stages.specs.Parts.{first_to_back}
use Rattle.buffer_stages.specs.Lemmas.Parts.{moved_size, within_size}
use Rattle.script_indic_reordering.specs.declared.script.IndicMasks.{IndicMasks}
use Rattle.script_indic_reordering.specs.Base.{joiners}
use Rattle.script_indic_reordering.specs.Glyphs.{is_free_halant, is_joiner, is_left, stands_at}
use Rattle.script_indic_reordering.specs.Indices.{begins_with, last_at}
use Rattle.script_indic_reordering.specs.Final.{RephMoved, after_halant, begins_with_reph, final_reordered, first_halant, formed_base, is_pref, is_sign, last_halant, left_before, lefts_last, lefts_merged, lefts_moved, lefts_moved_by, lefts_moved_from, merged_to_base, passed_by_halant, passed_by_position, passed_by_reph, passed_from_base, pref_form, pref_moved, pref_moved_from, pref_target, reph_moved, stands_from_post, stands_up_to_main, stops_left, up_to_signs}
use Rattle.script_indic_reordering.specs.Orders.{final_syllable, if_reordered}
use Rattle.script_indic_reordering.specs.Lemmas.Indices.{first_within, last_within}
use Rattle.script_indic_reordering.specs.Lemmas.InitialSize.{if_reordered_size, position_within}

-- ---- after a halant

pub take_short : {X : Type 0} (n : ℕ) (xs : List X) → length (take n xs) ≤ n
take_short zero xs = omega arith
take_short (suc n) [] = omega arith
take_short (suc n) (x ∷ xs) = let rest = take_short n xs in omega (arith, rest)

pub take_within : {X : Type 0} (n : ℕ) (xs : List X) → length (take n xs) ≤ length xs
take_within zero xs = omega arith
take_within (suc n) [] = omega arith
take_within (suc n) (x ∷ xs) = let rest = take_within n xs in omega (arith, rest)

pub after_within : (base h : ℕ) (xs : List Item) → h < length (take base xs) → after_halant base xs h ≤ length (take base xs)
after_within base h xs lt =
    let rest = drop (h + 1) (take base xs) in
    let a = position_within (λ (x : Item). not (is_joiner x)) (take 1 rest) in
    let b = take_within 1 rest in
    omega (arith, a, b, length-drop (h + 1) (take base xs), lt)

pub last_halant_within : (base h : ℕ) (xs : List Item) → last_halant base xs ≡ Some h → h < length (take base xs)
last_halant_within base h xs e = let w = last_within (begins_with stops_left) 0 h (take base xs) e in omega (arith, w.1)

-- ---- left matras

picked_size : (p : Item → Bool) (xs : List Item) → length (filter (λ x. not (p x)) xs) + length (filter p xs) ≡ length xs
picked_size p [] = refl
picked_size p (x ∷ xs) = by_test (p x) (picked_size p xs)
  where
    by_test : (t : Bool) → length (filter (λ y. not (p y)) xs) + length (filter p xs) ≡ length xs
        → length (if not t then x ∷ filter (λ y. not (p y)) xs else filter (λ y. not (p y)) xs) + length (if t then x ∷ filter p xs else filter p xs) ≡ suc (length xs)
    by_test true e = omega (arith, e)
    by_test false e = omega (arith, e)

pub lefts_last_size : (n : ℕ) (xs : List Item) → length (lefts_last n xs).items ≡ length xs
lefts_last_size n xs =
    let others = filter (λ x. not (is_left x)) (take n xs) in
    let lefts = filter is_left (take n xs) in
    let a = length-append (others ++ drop n xs) lefts in
    let b = length-append others (drop n xs) in
    let c = length-append (take n xs) (drop n xs) in
    let d = ap length (take-append-drop n xs) in
    omega (arith, a, b, c, d, picked_size is_left (take n xs))

moved_from_size : (base h : ℕ) (xs : List Item) → h < length (take base xs) → (o : Option ℕ) → left_before h xs ≡ o → length (lefts_moved_from base h xs o).items ≡ length xs
moved_from_size base h xs lt None e = refl
moved_from_size base h xs lt (Some first) e =
    let w = first_within (begins_with is_left) 0 first (take h xs) e in
    let a = after_within base h xs lt in
    within_size (lefts_last (h - first)) first (after_halant base xs h) xs (lefts_last_size (h - first)) (omega (arith, w.1, take_short h xs)) (omega (arith, a, take_within base xs))

moved_by_size : (base : ℕ) (xs : List Item) (o : Option ℕ) → last_halant base xs ≡ o → length (lefts_moved_by base xs o).items ≡ length xs
moved_by_size base xs None e = refl
moved_by_size base xs (Some h) e = moved_from_size base h xs (last_halant_within base h xs e) (left_before h xs) refl

merged_size : (base : ℕ) (xs : List Item) (o : Option ℕ) → length (merged_to_base base xs o).items ≡ length xs
merged_size base xs None = refl
merged_size base xs (Some first) = refl

pub lefts_moved_by_size : (base : ℕ) (xs : List Item) → length (lefts_moved_by base xs (last_halant base xs)).items ≡ length xs
lefts_moved_by_size base xs = moved_by_size base xs (last_halant base xs) refl

pub lefts_moved_size : (base : ℕ) (xs : List Item) → length (lefts_moved base xs).items ≡ length xs
lefts_moved_size base xs =
    let ys = (lefts_moved_by base xs (last_halant base xs)).items in
    merged_size base ys (left_before base ys) ∙ lefts_moved_by_size base xs

-- ---- the reph

up_to_within : (xs : List Item) → 0 < length xs → up_to_signs xs ≤ length xs
up_to_within xs some = by_last (last_at (begins_with (λ x. not (is_sign x))) 1 (drop 1 xs)) refl
  where
    by_last : (o : Option ℕ) → last_at (begins_with (λ x. not (is_sign x))) 1 (drop 1 xs) ≡ o → 1 + unwrap_or o 0 ≤ length xs
    by_last None e = omega (arith, some)
    by_last (Some k) e = let w = last_within (begins_with (λ (x : Item). not (is_sign x))) 1 k (drop 1 xs) e in omega (arith, w.1, length-drop 1 xs, some)

from_base_within : (reph_pos base : ℕ) (xs : List Item) → base < length xs → passed_from_base reph_pos base xs ≤ length xs
from_base_within reph_pos base xs lt = by_position (reph_pos == position.POS_AFTER_MAIN) (reph_pos == position.POS_AFTER_SUB)
  where
    by_position : (t u : Bool) → (if t then base + 1 + position_or_len (λ x. not (stands_up_to_main x)) (drop (base + 1) xs) else if u then base + 1 + position_or_len stands_from_post (drop (base + 1) xs) else up_to_signs xs) ≤ length xs
    by_position true u = let a = position_within (λ (x : Item). not (stands_up_to_main x)) (drop (base + 1) xs) in omega (arith, lt, a, length-drop (base + 1) xs)
    by_position false true = let a = position_within stands_from_post (drop (base + 1) xs) in omega (arith, lt, a, length-drop (base + 1) xs)
    by_position false false = up_to_within xs (omega (arith, lt))

passed_position_within : (reph_pos base : ℕ) (xs : List Item) → 0 < length xs → passed_by_position reph_pos base xs ≤ length xs
passed_position_within reph_pos base xs some = by_base (nat_lt base (length xs)) refl
  where
    by_base : (t : Bool) → nat_lt base (length xs) ≡ t → (if t then passed_from_base reph_pos base xs else up_to_signs xs) ≤ length xs
    by_base true e = from_base_within reph_pos base xs (grind (arith, nat_tests, e))
    by_base false e = up_to_within xs some

pub passed_within : (reph_pos base : ℕ) (xs : List Item) → 0 < length xs → passed_by_reph reph_pos base xs ≤ length xs
passed_within reph_pos base xs some = by_position (reph_pos == position.POS_AFTER_POST)
  where
    by_halant : (o : Option ℕ) → first_halant base xs ≡ o → passed_by_halant reph_pos base xs o ≤ length xs
    by_halant None e = passed_position_within reph_pos base xs some
    by_halant (Some h) e =
        let w = first_within (begins_with is_free_halant) 1 h (drop 1 (take base xs)) e in
        let a = after_within base h xs (omega (arith, w.0, w.1, length-drop 1 (take base xs))) in
        omega (arith, a, take_within base xs)

    by_position : (t : Bool) → (if t then up_to_signs xs else passed_by_halant reph_pos base xs (first_halant base xs)) ≤ length xs
    by_position true = up_to_within xs some
    by_position false = by_halant (first_halant base xs) refl

pub reph_some : (xs : List Item) → begins_with_reph xs ≡ true → 0 < length xs
reph_some [] e = cc
reph_some (x ∷ xs) e = omega arith

pub reph_moved_size : (reph_pos base : ℕ) (xs : List Item) → length (reph_moved reph_pos base xs).rewritten.items ≡ length xs
reph_moved_size reph_pos base xs = by_test (begins_with_reph xs) refl
  where
    count_of : RephMoved → ℕ
    count_of m = length m.rewritten.items

    by_test : (t : Bool) → begins_with_reph xs ≡ t
        → count_of (if t then record { rewritten = within 0 (passed_by_reph reph_pos base xs) (first_to_back 1) xs; base = Rattle.script_indic_reordering.specs.Final.base_passed (passed_by_reph reph_pos base xs) base } else record { rewritten = eventless_arrangement xs; base = base }) ≡ length xs
    by_test true e = within_size (first_to_back 1) 0 (passed_by_reph reph_pos base xs) xs (moved_size 1) (omega arith) (passed_within reph_pos base xs (reph_some xs e))
    by_test false e = refl

-- ---- the form of the feature pref

pub target_within : (base : ℕ) (xs : List Item) (o : Option ℕ) → last_halant base xs ≡ o → pref_target base xs o ≤ base
target_within base xs None e = omega arith
target_within base xs (Some h) e = let a = after_within base h xs (last_halant_within base h xs e) in omega (arith, a, take_short base xs)

pub form_within : (bits base i : ℕ) (xs : List Item) → pref_form bits base xs ≡ Some i → (base < i) × (i < length xs)
form_within bits base i xs e =
    let w = first_within (begins_with (is_pref bits)) (base + 1) i (drop (base + 1) xs) e in
    (omega (arith, w.0), omega (arith, w.0, w.1, length-drop (base + 1) xs))

pref_from_size : (bits base : ℕ) (xs : List Item) (o : Option ℕ) → pref_form bits base xs ≡ o → length (pref_moved_from base xs o).items ≡ length xs
pref_from_size bits base xs None e = refl
pref_from_size bits base xs (Some i) e =
    let to = pref_target base xs (last_halant base xs) in
    let w = form_within bits base i xs e in
    let t = target_within base xs (last_halant base xs) refl in
    within_size (first_to_back (i - to)) to (i + 1) xs (moved_size (i - to)) (omega (arith, w.0, t)) (omega (arith, w.1))

pub pref_moved_size : (bits base : ℕ) (xs : List Item) → length (pref_moved bits base xs).items ≡ length xs
pref_moved_size bits base xs = pref_from_size bits base xs (pref_form bits base xs) refl

-- ---- a syllable

pub reordered_size : (reph_pos pref : ℕ) (xs : List Item) → length (final_reordered reph_pos pref xs).items ≡ length xs
reordered_size reph_pos pref xs =
    let base = formed_base xs in
    let ys = (lefts_moved base xs).items in
    let r = reph_moved reph_pos base ys in
    pref_moved_size pref r.base r.rewritten.items ∙ reph_moved_size reph_pos base ys ∙ lefts_moved_size base xs

pub final_keeps : (reph_pos : ℕ) (m : IndicMasks) (xs : List Item) → length (final_syllable reph_pos m xs).items ≡ length xs
final_keeps reph_pos m xs = if_reordered_size (final_reordered reph_pos m.pref) (reordered_size reph_pos m.pref) xs (slice_get xs 0)
