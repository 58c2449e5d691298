-- The reordering keeps the length of a syllable.
use Rattle.std.proofs.Common.{ℕ, zero, suc, ◌≡◌, ◌≤◌, ◌<◌, ◌+◌, ◌-◌, ◌==◌, Bool, true, false, if◌then◌else◌, List, length, Option, Some, None, slice_get, refl, ◌∙◌, arith}
use Rattle.std.specs.Prelude.{bit_and}
use Rattle.std.proofs.lemmas.Option.{slice_get_within}
use Rattle.script_categories.specs.declared.ot_category_t.TheConstants as category
use Rattle.script_categories.specs.declared.shaper.hb_ot_script_shaper_t.TheVariants.{KHMER_SHAPER}
use Rattle.script_categories.specs.Shapers.{is_reordered}
use Rattle.buffer_glyphs.specs.Items.{Item}
use Rattle.script_khmer.specs.declared.khmer.KhmerMasks.{KhmerMasks}
use Rattle.buffer_glyphs.specs.Rewriting.{Arrangement, eventless_arrangement, and_arranged}
use Rattle.buffer_stages.specs.Rewriting.{within}
use Rattle.buffer_stages.specs.Parts.{items_with_features, first_to_back}
use Rattle.buffer_stages.specs.Lemmas.Parts.{within_size, masked_size, moved_size}
use Rattle.script_khmer.specs.Khmer.{Step, coeng_moved, vowel_moved, coeng_step, vowel_step, is_coeng, step_at, khmer_at, khmer_walk, khmer_reordered, khmer_first, khmer_syllable}

pub coeng_pref_size : (m : KhmerMasks) (index : ℕ) (xs : List Item) → index + 2 ≤ length xs → length (within index (index + 2) (items_with_features m.pref) xs).items ≡ length xs
coeng_pref_size m index xs le = within_size (items_with_features m.pref) index (index + 2) xs (masked_size m.pref) (omega arith) le

pub front_size : (n to : ℕ) (xs : List Item) → to ≤ length xs → length (within 0 to (first_to_back n) xs).items ≡ length xs
front_size n to xs le = within_size (first_to_back n) 0 to xs (moved_size n) (omega arith) le

pub coeng_moved_size : (m : KhmerMasks) (index : ℕ) (xs : List Item) → index + 2 ≤ length xs
    → (length (and_arranged (within index (index + 2) (items_with_features m.pref) xs) (within 0 (index + 2) (first_to_back index))).items ≡ length xs) × (length (coeng_moved m index xs).items ≡ length xs)
coeng_moved_size m index xs le =
    let first = coeng_pref_size m index xs le in
    let ys = (within index (index + 2) (items_with_features m.pref) xs).items in
    let second = front_size index (index + 2) ys (omega (arith, first, le)) ∙ first in
    let zs = (within 0 (index + 2) (first_to_back index) ys).items in
    (second, within_size (items_with_features m.cfar) (index + 2) (length xs) zs (masked_size m.cfar) le (omega (arith, second)) ∙ second)

abbrev count_of : Arrangement → ℕ
count_of r = length r.items

abbrev size_of : Step → ℕ
size_of s = length s.rewritten.items

position_there : (xs : List Item) (i : ℕ) (x : Item) → slice_get xs i ≡ Some x → i < length xs
position_there xs i x e = slice_get_within xs i x e

at_size : (m : KhmerMasks) (index count : ℕ) (xs : List Item) → length (khmer_at m index count xs).rewritten.items ≡ length xs
at_size m index count xs = by_items (slice_get xs index) (slice_get xs (index + 1)) refl refl
  where
    vowel : (x : Item) → slice_get xs index ≡ Some x → (t : Bool) → size_of (if t then record { rewritten = vowel_moved index xs; count = count } else record { rewritten = eventless_arrangement xs; count = count }) ≡ length xs
    vowel x e true = let lt = position_there xs index x e in front_size index (index + 1) xs (omega (arith, lt))
    vowel x e false = refl

    coeng : (y : Item) → slice_get xs (index + 1) ≡ Some y → (t : Bool) → size_of (if t then record { rewritten = coeng_moved m index xs; count = 2 } else record { rewritten = eventless_arrangement xs; count = count + 1 }) ≡ length xs
    coeng y e true = let lt = position_there xs (index + 1) y e in (coeng_moved_size m index xs (omega (arith, lt))).1
    coeng y e false = refl

    either : (x y : Item) → slice_get xs index ≡ Some x → slice_get xs (index + 1) ≡ Some y → (t : Bool) → size_of (if t then coeng_step m index count xs y else vowel_step index count xs x) ≡ length xs
    either x y e f true = coeng y f (y.category == category.OT_Ra)
    either x y e f false = vowel x e (x.category == category.OT_VPre)

    by_items : (a b : Option Item) → slice_get xs index ≡ a → slice_get xs (index + 1) ≡ b → length (step_at m index count xs a b).rewritten.items ≡ length xs
    by_items None b e f = refl
    by_items (Some x) None e f = vowel x e (x.category == category.OT_VPre)
    by_items (Some x) (Some y) e f = either x y e f (is_coeng count x)

pub khmer_at_size : (m : KhmerMasks) (index count : ℕ) (xs : List Item) → length (khmer_at m index count xs).rewritten.items ≡ length xs
khmer_at_size m index count xs = at_size m index count xs

pub walk_size : (m : KhmerMasks) (n index count : ℕ) (xs : List Item) → length (khmer_walk m n index count xs).items ≡ length xs
walk_size m zero index count xs = refl
walk_size m (suc n) index count xs = let s = khmer_at m index count xs in walk_size m n (index + 1) s.count s.rewritten.items ∙ at_size m index count xs

pub after_size : (m : KhmerMasks) (xs : List Item) → 0 < length xs → length (within 1 (length xs) (items_with_features m.post_base) xs).items ≡ length xs
after_size m xs lt = within_size (items_with_features m.post_base) 1 (length xs) xs (masked_size m.post_base) (omega (arith, lt)) (omega arith)

pub khmer_keeps : (m : KhmerMasks) (xs : List Item) → length (khmer_syllable m xs).items ≡ length xs
khmer_keeps m xs = by_first (slice_get xs 0) refl
  where
    by_kind : 0 < length xs → (t : Bool) → count_of (if t then khmer_reordered m xs else eventless_arrangement xs) ≡ length xs
    by_kind lt true = walk_size m (length xs - 1) 1 0 (within 1 (length xs) (items_with_features m.post_base) xs).items ∙ after_size m xs lt
    by_kind lt false = refl

    by_first : (a : Option Item) → slice_get xs 0 ≡ a → length (khmer_first m xs a).items ≡ length xs
    by_first None e = refl
    by_first (Some x) e = by_kind (position_there xs 0 x e) (is_reordered KHMER_SHAPER (bit_and x.syllable 15))
