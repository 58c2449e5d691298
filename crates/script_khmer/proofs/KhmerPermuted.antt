-- The reordering permutes a syllable.
use Rattle.std.proofs.Common.{ℕ, zero, suc, ◌≡◌, ◌≤◌, ◌<◌, ◌+◌, ◌-◌, ◌==◌, Bool, true, false, if◌then◌else◌, List, length, Option, Some, None, slice_get, refl, arith}
use Rattle.std.specs.Prelude.{bit_and}
use Rattle.std.proofs.lemmas.List.Sorted.{IsPermutation-refl}
use Rattle.std.proofs.lemmas.Option.{slice_get_within}
use Rattle.script_categories.specs.declared.ot_category_t.TheConstants as category
use Rattle.script_categories.specs.declared.shaper.hb_ot_script_shaper_t.TheVariants.{KHMER_SHAPER}
use Rattle.script_categories.specs.Shapers.{is_reordered}
use Rattle.buffer_glyphs.specs.Items.{Item}
use Rattle.script_khmer.specs.declared.khmer.KhmerMasks.{KhmerMasks}
use Rattle.buffer_glyphs.specs.Rewriting.{eventless_arrangement, and_arranged}
use Rattle.buffer_stages.specs.Rewriting.{within}
use Rattle.buffer_stages.specs.SyllableLaws.{IsPermuted, numbers_of}
use Rattle.buffer_stages.specs.Lemmas.Numbers.{masked_permutes, moved_permutes, then_permutes, within_permutes}
use Rattle.buffer_stages.specs.Lemmas.Permuted.{permutes_each_syllable}
use Rattle.buffer_stages.specs.Parts.{items_with_features, first_to_back}
use Rattle.script_khmer.specs.Khmer.{Step, coeng_moved, vowel_moved, coeng_step, vowel_step, is_coeng, step_at, khmer_at, khmer_walk, khmer_reordered, khmer_first, khmer_syllable, KhmerPermutes}

coeng_permutes : (m : KhmerMasks) (index : ℕ) (xs : List Item) → index + 2 ≤ length xs → IsPermuted xs (coeng_moved m index xs)
coeng_permutes m index xs le =
    let first = within index (index + 2) (items_with_features m.pref) xs in
    let both = and_arranged first (within 0 (index + 2) (first_to_back index)) in
    then_permutes xs both (within (index + 2) (length xs) (items_with_features m.cfar))
    (then_permutes xs first (within 0 (index + 2) (first_to_back index)) (within_permutes (items_with_features m.pref) index (index + 2) xs (masked_permutes m.pref) (omega arith)) (within_permutes (first_to_back index) 0 (index + 2) first.items (moved_permutes index) (omega arith)))
    (within_permutes (items_with_features m.cfar) (index + 2) (length xs) both.items (masked_permutes m.cfar) le)

abbrev StepPermutes : List Item → Step → Type 0
StepPermutes xs s = IsPermuted xs s.rewritten

at_permutes : (m : KhmerMasks) (index count : ℕ) (xs : List Item) → StepPermutes xs (khmer_at m index count xs)
at_permutes m index count xs = by_items (slice_get xs index) (slice_get xs (index + 1)) refl
  where
    vowel : (t : Bool) → StepPermutes xs (if t then record { rewritten = vowel_moved index xs; count = count } else record { rewritten = eventless_arrangement xs; count = count })
    vowel true = within_permutes (first_to_back index) 0 (index + 1) xs (moved_permutes index) (omega arith)
    vowel false = IsPermutation-refl (numbers_of xs)

    coeng : (y : Item) → slice_get xs (index + 1) ≡ Some y → (t : Bool) → StepPermutes xs (if t then record { rewritten = coeng_moved m index xs; count = 2 } else record { rewritten = eventless_arrangement xs; count = count + 1 })
    coeng y e true = let lt : index + 1 < length xs = slice_get_within xs (index + 1) y e in coeng_permutes m index xs (omega (arith, lt))
    coeng y e false = IsPermutation-refl (numbers_of xs)

    either : (x y : Item) → slice_get xs (index + 1) ≡ Some y → (t : Bool) → StepPermutes xs (if t then coeng_step m index count xs y else vowel_step index count xs x)
    either x y f true = coeng y f (y.category == category.OT_Ra)
    either x y f false = vowel (x.category == category.OT_VPre)

    by_items : (a b : Option Item) → slice_get xs (index + 1) ≡ b → StepPermutes xs (step_at m index count xs a b)
    by_items None b f = IsPermutation-refl (numbers_of xs)
    by_items (Some x) None f = vowel (x.category == category.OT_VPre)
    by_items (Some x) (Some y) f = either x y f (is_coeng count x)

walk_permutes : (m : KhmerMasks) (n index count : ℕ) (xs : List Item) → IsPermuted xs (khmer_walk m n index count xs)
walk_permutes m zero index count xs = IsPermutation-refl (numbers_of xs)
walk_permutes m (suc n) index count xs =
    let s = khmer_at m index count xs in
    then_permutes xs s.rewritten (khmer_walk m n (index + 1) s.count) (at_permutes m index count xs) (walk_permutes m n (index + 1) s.count s.rewritten.items)

pub syllable_permutes : (m : KhmerMasks) (xs : List Item) → IsPermuted xs (khmer_syllable m xs)
syllable_permutes m xs = by_first (slice_get xs 0) refl
  where
    by_kind : 0 < length xs → (t : Bool) → IsPermuted xs (if t then khmer_reordered m xs else eventless_arrangement xs)
    by_kind lt true =
        let first = within 1 (length xs) (items_with_features m.post_base) xs in
        then_permutes xs first (khmer_walk m (length xs - 1) 1 0) (within_permutes (items_with_features m.post_base) 1 (length xs) xs (masked_permutes m.post_base) (omega (arith, lt))) (walk_permutes m (length xs - 1) 1 0 first.items)
    by_kind lt false = IsPermutation-refl (numbers_of xs)

    by_first : (a : Option Item) → slice_get xs 0 ≡ a → IsPermuted xs (khmer_first m xs a)
    by_first None e = IsPermutation-refl (numbers_of xs)
    by_first (Some x) e = by_kind (slice_get_within xs 0 x e) (is_reordered KHMER_SHAPER (bit_and x.syllable 15))

pub khmer_permutes : KhmerPermutes
khmer_permutes m xs = permutes_each_syllable (λ (x : Item). x.number) (khmer_syllable m) (syllable_permutes m) xs
