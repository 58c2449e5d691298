-- The steps of a Khmer syllable on a buffer.
use Rattle.std.proofs.Common.{ℕ, ◌≡◌, ◌≤◌, ◌+◌, ◌-◌, List, length, true, false, if◌then◌else◌, Some, None, slice_get, refl, sym, ap, subst, ◌∙◌, arith}
use Rattle.std.specs.Prelude.{slice_range, bit_and, Bool, ◌==◌}
use Rattle.script_categories.specs.declared.ot_category_t.TheConstants as category
use Rattle.script_categories.specs.declared.shaper.hb_ot_script_shaper_t.TheVariants.{KHMER_SHAPER}
use Rattle.script_categories.specs.Shapers.{is_reordered}
use Rattle.buffer_stages.specs.Ready.{IsReady}
use Rattle.buffer_glyphs.specs.Items.{Item}
use Rattle.buffer_core.specs.Sides.{Sides, all_glyphs, items_of}
use Rattle.buffer_glyphs.specs.Rewriting.{eventless_arrangement, and_arranged}
use Rattle.buffer_stages.specs.Rewriting.{within}
use Rattle.buffer_stages.specs.SyllableBuffers.{IsRewritten}
use Rattle.buffer_stages.specs.Lemmas.Rewritings.{rewritten_next, rewritten_same, counted}
use Rattle.buffer_stages.specs.Parts.{items_with_features, first_to_back}
use Rattle.buffer_stages.specs.Lemmas.Parts.{rewritten_part, range_size, masked_size, moved_size}
use Rattle.script_khmer.specs.declared.khmer.KhmerMasks.{KhmerMasks}
use Rattle.script_khmer.specs.Khmer.{Step, unchanged_step, is_coeng, coeng_step, vowel_step, khmer_at, coeng_moved, vowel_moved, khmer_reordered, khmer_syllable}
use Rattle.script_khmer.specs.Lemmas.KhmerSize.{coeng_pref_size, coeng_moved_size}
use Rattle.buffer_stages.proofs.Lemmas.Counts.{rewritten_even}

pub masked_count : (bits from to : ℕ) (a b : Sides) → from ≤ to → to ≤ length (all_glyphs a) → IsRewritten (items_with_features bits (slice_range (items_of a) from to)) from to a b → length (all_glyphs b) ≡ length (all_glyphs a)
masked_count bits from to a b le fits f = rewritten_even (items_with_features bits (slice_range (items_of a) from to)) from to a b le fits (masked_size bits (slice_range (items_of a) from to)) f

pub moved_count : (n from to : ℕ) (a b : Sides) → from ≤ to → to ≤ length (all_glyphs a) → IsRewritten (first_to_back n (slice_range (items_of a) from to)) from to a b → length (all_glyphs b) ≡ length (all_glyphs a)
moved_count n from to a b le fits f = rewritten_even (first_to_back n (slice_range (items_of a) from to)) from to a b le fits (moved_size n (slice_range (items_of a) from to)) f

pub coeng_does : (m : KhmerMasks) (start end index : ℕ) (a b c d : Sides) → start + (index + 2) ≤ end → end ≤ length (all_glyphs a)
    → IsRewritten (items_with_features m.pref (slice_range (items_of a) (start + index) (start + (index + 2)))) (start + index) (start + (index + 2)) a b
    → IsRewritten (first_to_back index (slice_range (items_of b) start (start + (index + 2)))) start (start + (index + 2)) b c
    → IsRewritten (items_with_features m.cfar (slice_range (items_of c) (start + (index + 2)) end)) (start + (index + 2)) end c d
    → IsRewritten (coeng_moved m index (slice_range (items_of a) start end)) start end a d
coeng_does m start end index a b c d last fits f g h =
    let le : start ≤ end = omega (arith, last) in
    let xs = slice_range (items_of a) start end in
    let inside : end ≤ length (items_of a) = omega (arith, counted a, fits) in
    let size : length xs ≡ end - start = range_size start end (items_of a) le inside in
    let few : index + 2 ≤ length xs = omega (arith, size, last) in
    let sizes = coeng_moved_size m index xs few in
    let count_b = masked_count m.pref (start + index) (start + (index + 2)) a b (omega arith) (omega (arith, last, fits)) f in
    let count_c = moved_count index start (start + (index + 2)) b c (omega arith) (omega (arith, last, fits, count_b)) g in
    let first = rewritten_part (items_with_features m.pref) start end index (index + 2) (start + index) (start + (index + 2)) a b refl refl (omega arith) last inside f in
    let second = rewritten_part (first_to_back index) start end 0 (index + 2) start (start + (index + 2)) b c (omega arith) refl (omega arith) last (omega (arith, counted b, count_b, fits)) g in
    let third = rewritten_part (items_with_features m.cfar) start end (index + 2) (length xs) (start + (index + 2)) end c d refl (omega (arith, size, le)) few (omega (arith, size, le)) (omega (arith, counted c, count_c, count_b, fits)) h in
    rewritten_next (and_arranged (within index (index + 2) (items_with_features m.pref) xs) (within 0 (index + 2) (first_to_back index))) (within (index + 2) (length xs) (items_with_features m.cfar)) start end a c d le inside (sizes.0 ∙ size)
    (rewritten_next (within index (index + 2) (items_with_features m.pref) xs) (within 0 (index + 2) (first_to_back index)) start end a b c le inside (coeng_pref_size m index xs few ∙ size) first second) third

pub vowel_does : (start end index : ℕ) (a b : Sides) → start + (index + 1) ≤ end → end ≤ length (all_glyphs a)
    → IsRewritten (first_to_back index (slice_range (items_of a) start (start + (index + 1)))) start (start + (index + 1)) a b → IsRewritten (vowel_moved index (slice_range (items_of a) start end)) start end a b
vowel_does start end index a b last fits f =
    rewritten_part (first_to_back index) start end 0 (index + 1) start (start + (index + 1)) a b (omega arith) refl (omega arith) last (omega (arith, counted a, fits)) f

pub passed_does : (start end : ℕ) (a : Sides) → start ≤ end → end ≤ length (all_glyphs a) → IsReady a → IsRewritten (eventless_arrangement (slice_range (items_of a) start end)) start end a a
passed_does start end a le fits ready = rewritten_same start end a le ready

-- the step at an index, by the item there
pub at_none : (m : KhmerMasks) (index count : ℕ) (xs : List Item) → slice_get xs index ≡ None → khmer_at m index count xs ≡ unchanged_step count xs
at_none m index count xs e = rw e refl

pub at_other : (m : KhmerMasks) (index count : ℕ) (xs : List Item) (x y : Item) → slice_get xs index ≡ Some x → slice_get xs (index + 1) ≡ Some y → is_coeng count x ≡ false → khmer_at m index count xs ≡ vowel_step index count xs x
at_other m index count xs x y e f t = rw (e, f) (ap (λ b. if b then coeng_step m index count xs y else vowel_step index count xs x) t)

pub vowel_met_does : (start end index count : ℕ) (x : Item) (a b : Sides) → (x.category == category.OT_VPre) ≡ true → start + (index + 1) ≤ end → end ≤ length (all_glyphs a)
    → IsRewritten (first_to_back index (slice_range (items_of a) start (start + (index + 1)))) start (start + (index + 1)) a b → IsRewritten (vowel_step index count (slice_range (items_of a) start end) x).rewritten start end a b
vowel_met_does start end index count x a b e last fits f =
    let xs = slice_range (items_of a) start end in
    let P : Bool → Type 0 = λ t. IsRewritten (if_step t (record { rewritten = vowel_moved index xs; count = count }) (unchanged_step count xs)).rewritten start end a b in
    subst P (sym e) (vowel_does start end index a b last fits f)
  where
    if_step : Bool → Step → Step → Step
    if_step t r s = if t then r else s

pub vowel_not_met_does : (start end index count : ℕ) (x : Item) (a : Sides) → (x.category == category.OT_VPre) ≡ false → start ≤ end → IsReady a
    → IsRewritten (vowel_step index count (slice_range (items_of a) start end) x).rewritten start end a a
vowel_not_met_does start end index count x a e le ready =
    let xs = slice_range (items_of a) start end in
    let P : Bool → Type 0 = λ t. IsRewritten (if_step t (record { rewritten = vowel_moved index xs; count = count }) (unchanged_step count xs)).rewritten start end a a in
    subst P (sym e) (rewritten_same start end a le ready)
  where
    if_step : Bool → Step → Step → Step
    if_step t r s = if t then r else s

pub at_none_does : (m : KhmerMasks) (start end index count : ℕ) (a : Sides) → start ≤ end → end ≤ length (all_glyphs a) → IsReady a → slice_get (slice_range (items_of a) start end) index ≡ None
    → IsRewritten (khmer_at m index count (slice_range (items_of a) start end)).rewritten start end a a
at_none_does m start end index count a le fits ready e =
    let P : Step → Type 0 = λ s. IsRewritten s.rewritten start end a a in
    subst P (sym (at_none m index count (slice_range (items_of a) start end) e)) (passed_does start end a le fits ready)

-- a syllable that is not reordered
syllable_none : (m : KhmerMasks) (xs : List Item) → slice_get xs 0 ≡ None → khmer_syllable m xs ≡ eventless_arrangement xs
syllable_none m xs e = rw e refl

syllable_kept : (m : KhmerMasks) (xs : List Item) (x : Item) → slice_get xs 0 ≡ Some x → is_reordered KHMER_SHAPER (bit_and x.syllable 15) ≡ false → khmer_syllable m xs ≡ eventless_arrangement xs
syllable_kept m xs x e t = rw e (ap (λ b. if b then khmer_reordered m xs else eventless_arrangement xs) t)

pub none_does : (m : KhmerMasks) (start end : ℕ) (a : Sides) → start ≤ end → end ≤ length (all_glyphs a) → IsReady a → slice_get (slice_range (items_of a) start end) 0 ≡ None → IsRewritten (khmer_syllable m (slice_range (items_of a) start end)) start end a a
none_does m start end a le fits ready e = subst (λ r. IsRewritten r start end a a) (sym (syllable_none m (slice_range (items_of a) start end) e)) (passed_does start end a le fits ready)

pub kept_does : (m : KhmerMasks) (start end : ℕ) (x : Item) (a : Sides) → start ≤ end → end ≤ length (all_glyphs a) → IsReady a → slice_get (slice_range (items_of a) start end) 0 ≡ Some x → is_reordered KHMER_SHAPER (bit_and x.syllable 15) ≡ false
    → IsRewritten (khmer_syllable m (slice_range (items_of a) start end)) start end a a
kept_does m start end x a le fits ready e t = subst (λ r. IsRewritten r start end a a) (sym (syllable_kept m (slice_range (items_of a) start end) x e t)) (passed_does start end a le fits ready)
