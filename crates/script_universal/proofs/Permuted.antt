-- The reordering permutes a syllable.
use Rattle.std.proofs.Common.{ℕ, zero, suc, ◌≡◌, ◌<◌, ◌+◌, ◌-◌, ◌&&◌, Bool, true, false, if◌then◌else◌, List, length, Option, Some, None, slice_get, refl, arith}
use Rattle.std.specs.Prelude.{bit_and, nat_lt}
use Rattle.std.proofs.lemmas.Bool.Decides.{nat_tests}
use Rattle.std.proofs.lemmas.Grind.{common_steps}
use Rattle.std.proofs.lemmas.List.Sorted.{IsPermutation-refl}
use Rattle.script_categories.specs.declared.shaper.hb_ot_script_shaper_t.TheVariants.{UNIVERSAL_SHAPER}
use Rattle.script_categories.specs.Shapers.{is_reordered}
use Rattle.buffer_glyphs.specs.Items.{Item}
use Rattle.buffer_glyphs.specs.Rewriting.{eventless_arrangement}
use Rattle.buffer_stages.specs.Rewriting.{within}
use Rattle.buffer_stages.specs.Parts.{first_to_back}
use Rattle.buffer_stages.specs.SyllableLaws.{IsPermuted, numbers_of}
use Rattle.buffer_stages.specs.Lemmas.Numbers.{moved_permutes, then_permutes, within_permutes}
use Rattle.buffer_stages.specs.Lemmas.Permuted.{permutes_each_syllable}
use Rattle.script_universal.specs.Reordering.{Step, begins_with_reph, is_halant, is_left, left_vowel_step_at, left_vowel_step, left_walk, reph_end, reph_moved, universal_first, universal_reordered, universal_syllable, UniversalPermutes}

abbrev StepPermutes : List Item → Step → Type 0
StepPermutes xs s = IsPermuted xs s.rewritten

reph_permutes : (xs : List Item) → IsPermuted xs (reph_moved xs)
reph_permutes xs = by_test (begins_with_reph xs)
  where
    by_test : (t : Bool) → IsPermuted xs (if t then within 0 (reph_end xs) (first_to_back 1) xs else eventless_arrangement xs)
    by_test true = within_permutes (first_to_back 1) 0 (reph_end xs) xs (moved_permutes 1) (omega arith)
    by_test false = IsPermutation-refl (numbers_of xs)

left_permutes : (i after_halant : ℕ) (xs : List Item) → StepPermutes xs (left_vowel_step_at i after_halant xs)
left_permutes i after_halant xs = by_item (slice_get xs i)
  where
    second : (a b : Bool) → (a && b) ≡ true → b ≡ true
    second true b h = h
    second false b h = cc

    moves : (x : Item) (t : Bool) → (is_left x && nat_lt after_halant i) ≡ t
        → StepPermutes xs (if t then record { rewritten = within after_halant (i + 1) (first_to_back (i - after_halant)) xs; after_halant = after_halant } else record { rewritten = eventless_arrangement xs; after_halant = after_halant })
    moves x true e =
        let less : nat_lt after_halant i ≡ true = second (is_left x) (nat_lt after_halant i) e in
        let before : after_halant < i = grind (arith, nat_tests, common_steps, less) in
        within_permutes (first_to_back (i - after_halant)) after_halant (i + 1) xs (moved_permutes (i - after_halant)) (omega (arith, before))
    moves x false e = IsPermutation-refl (numbers_of xs)

    met : (x : Item) (t : Bool)
        → StepPermutes xs (if t then record { rewritten = eventless_arrangement xs; after_halant = i + 1 } else if is_left x && nat_lt after_halant i then record { rewritten = within after_halant (i + 1) (first_to_back (i - after_halant)) xs; after_halant = after_halant } else record { rewritten = eventless_arrangement xs; after_halant = after_halant })
    met x true = IsPermutation-refl (numbers_of xs)
    met x false = moves x (is_left x && nat_lt after_halant i) refl

    by_item : (a : Option Item) → StepPermutes xs (left_vowel_step i after_halant xs a)
    by_item None = IsPermutation-refl (numbers_of xs)
    by_item (Some x) = met x (is_halant x)

walk_permutes : (n i after_halant : ℕ) (xs : List Item) → IsPermuted xs (left_walk n i after_halant xs)
walk_permutes zero i after_halant xs = IsPermutation-refl (numbers_of xs)
walk_permutes (suc n) i after_halant xs =
    let s = left_vowel_step_at i after_halant xs in
    then_permutes xs s.rewritten (left_walk n (i + 1) s.after_halant) (left_permutes i after_halant xs) (walk_permutes n (i + 1) s.after_halant s.rewritten.items)

pub syllable_permutes : (xs : List Item) → IsPermuted xs (universal_syllable xs)
syllable_permutes xs = by_first (slice_get xs 0)
  where
    by_kind : (t : Bool) → IsPermuted xs (if t then universal_reordered xs else eventless_arrangement xs)
    by_kind true = then_permutes xs (reph_moved xs) (left_walk (length xs) 0 0) (reph_permutes xs) (walk_permutes (length xs) 0 0 (reph_moved xs).items)
    by_kind false = IsPermutation-refl (numbers_of xs)

    by_first : (a : Option Item) → IsPermuted xs (universal_first xs a)
    by_first None = IsPermutation-refl (numbers_of xs)
    by_first (Some x) = by_kind (is_reordered UNIVERSAL_SHAPER (bit_and x.syllable 15))

pub universal_permutes : UniversalPermutes
universal_permutes xs = permutes_each_syllable (λ (x : Item). x.number) universal_syllable syllable_permutes xs
