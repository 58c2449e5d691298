-- The order of Myanmar permutes a syllable.
use Rattle.std.proofs.Common.{ℕ, ◌≡◌, Bool, true, false, if◌then◌else◌, List, [], ◌∷◌, map, take, Option, Some, None, slice_get, refl, ap, arith}
use Rattle.std.specs.Prelude.{bit_and}
use Rattle.std.proofs.lemmas.List.Sorted.{IsPermutation-refl}
use Rattle.script_categories.specs.declared.shaper.hb_ot_script_shaper_t.TheVariants.{MYANMAR_SHAPER}
use Rattle.script_categories.specs.Shapers.{is_reordered}
use Rattle.buffer_glyphs.specs.Items.{Item}
use Rattle.buffer_glyphs.specs.Rewriting.{eventless_arrangement, and_arranged}
use Rattle.buffer_stages.specs.Rewriting.{within}
use Rattle.buffer_stages.specs.SyllableLaws.{IsPermuted, numbers_of}
use Rattle.buffer_stages.specs.Lemmas.Numbers.{same_numbers, then_permutes, within_permutes}
use Rattle.buffer_stages.specs.Lemmas.Permuted.{permutes_each_syllable}
use Rattle.buffer_stages.specs.Lemmas.Sorted.{sorted_permutes, turned_permutes}
use Rattle.buffer_stages.specs.Ordering.{groups_reversed, auxiliary_order}
use Rattle.script_myanmar.specs.Myanmar.{items_with_positions, has_two_matras, is_pre_base_vowel, matras_of, matras_reversed, myanmar_first, myanmar_positions, myanmar_reordered, myanmar_syllable, with_positions, MyanmarPermutes}

-- ---- positions

placed_numbers : (ps : List ℕ) (xs : List Item) → numbers_of (with_positions ps xs) ≡ numbers_of xs
placed_numbers [] xs = refl
placed_numbers (p ∷ ps) [] = refl
placed_numbers (p ∷ ps) (x ∷ xs) = ap (λ ns. x.number ∷ ns) (placed_numbers ps xs)

-- ---- order

matras_permute : (xs : List Item) → IsPermuted xs (matras_reversed xs)
matras_permute xs = by_test (has_two_matras (take (matras_of xs) xs))
  where
    by_test : (t : Bool) → IsPermuted xs (if t then within 0 (matras_of xs) (groups_reversed is_pre_base_vowel) xs else eventless_arrangement xs)
    by_test true = within_permutes (groups_reversed is_pre_base_vowel) 0 (matras_of xs) xs (turned_permutes is_pre_base_vowel) (omega arith)
    by_test false = IsPermutation-refl (numbers_of xs)

-- ---- a syllable

reordered_permutes : (xs : List Item) → IsPermuted xs (myanmar_reordered xs)
reordered_permutes xs =
    let placed = items_with_positions xs in
    let sorted = and_arranged placed auxiliary_order in
    then_permutes xs sorted matras_reversed (then_permutes xs placed auxiliary_order (same_numbers xs placed (placed_numbers (myanmar_positions (map (λ (x : Item). x.category) xs)) xs)) (sorted_permutes placed.items)) (matras_permute sorted.items)

pub syllable_permutes : (xs : List Item) → IsPermuted xs (myanmar_syllable xs)
syllable_permutes xs = by_first (slice_get xs 0)
  where
    by_kind : (t : Bool) → IsPermuted xs (if t then myanmar_reordered xs else eventless_arrangement xs)
    by_kind true = reordered_permutes xs
    by_kind false = IsPermutation-refl (numbers_of xs)

    by_first : (a : Option Item) → IsPermuted xs (myanmar_first xs a)
    by_first None = IsPermutation-refl (numbers_of xs)
    by_first (Some x) = by_kind (is_reordered MYANMAR_SHAPER (bit_and x.syllable 15))

pub myanmar_permutes : MyanmarPermutes
myanmar_permutes xs = permutes_each_syllable (λ (x : Item). x.number) myanmar_syllable syllable_permutes xs
