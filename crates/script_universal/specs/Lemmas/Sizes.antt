-- The reordering keeps the length of a syllable.
use Rattle.std.proofs.Common.{ℕ, zero, suc, ◌≡◌, ◌≤◌, ◌<◌, ◌+◌, ◌-◌, ◌&&◌, Bool, true, false, if◌then◌else◌, List, [], ◌∷◌, length, Option, Some, None, slice_get, refl, ◌∙◌, arith}
use Rattle.std.specs.Prelude.{bit_and, nat_lt, not}
use Rattle.std.proofs.lemmas.Option.{slice_get_within}
use Rattle.std.proofs.lemmas.List.Sums.{prefix_len-le-length}
use Rattle.std.proofs.lemmas.Bool.Decides.{nat_tests}
use Rattle.std.proofs.lemmas.Grind.{common_steps}
use Rattle.script_categories.specs.declared.shaper.hb_ot_script_shaper_t.TheVariants.{UNIVERSAL_SHAPER}
use Rattle.script_categories.specs.Shapers.{is_reordered}
use Rattle.buffer_glyphs.specs.Items.{Item}
use Rattle.buffer_glyphs.specs.Rewriting.{Arrangement, eventless_arrangement}
use Rattle.buffer_stages.specs.Rewriting.{within}
use Rattle.buffer_stages.specs.Parts.{first_to_back}
use Rattle.buffer_stages.specs.Lemmas.Parts.{moved_size, within_size}
use Rattle.script_universal.specs.Reordering.{Step, begins_with_reph, is_halant, is_left, left_vowel_step_at, left_vowel_step, left_walk, reph_end, reph_moved, stops_reph, universal_first, universal_reordered, universal_syllable}

abbrev count_of : Arrangement → ℕ
count_of r = length r.items

abbrev size_of : Step → ℕ
size_of s = length s.rewritten.items

pub reph_within : (xs : List Item) → begins_with_reph xs ≡ true → reph_end xs ≤ length xs
reph_within [] e = cc
reph_within (x ∷ xs) e = let le = prefix_len-le-length (λ (y : Item). not (stops_reph y)) xs in omega (arith, le)

pub reph_size : (xs : List Item) → length (reph_moved xs).items ≡ length xs
reph_size xs = by_test (begins_with_reph xs) refl
  where
    by_test : (t : Bool) → begins_with_reph xs ≡ t → count_of (if t then within 0 (reph_end xs) (first_to_back 1) xs else eventless_arrangement xs) ≡ length xs
    by_test true e = within_size (first_to_back 1) 0 (reph_end xs) xs (moved_size 1) (omega arith) (reph_within xs e)
    by_test false e = refl

left_move_size : (i after_halant : ℕ) (xs : List Item) (x : Item) → i < length xs → (t : Bool) → (is_left x && nat_lt after_halant i) ≡ t
    → size_of (if t then record { rewritten = within after_halant (i + 1) (first_to_back (i - after_halant)) xs; after_halant = after_halant } else record { rewritten = eventless_arrangement xs; after_halant = after_halant }) ≡ length xs
left_move_size i after_halant xs x lt true e =
    let less : nat_lt after_halant i ≡ true = second (is_left x) (nat_lt after_halant i) e in
    let before : after_halant < i = grind (arith, nat_tests, common_steps, less) in
    within_size (first_to_back (i - after_halant)) after_halant (i + 1) xs (moved_size (i - after_halant)) (omega (arith, before)) (omega (arith, lt))
  where
    second : (a b : Bool) → (a && b) ≡ true → b ≡ true
    second true b h = h
    second false b h = cc
left_move_size i after_halant xs x lt false e = refl

left_met_size : (i after_halant : ℕ) (xs : List Item) (x : Item) → i < length xs → (t : Bool)
    → size_of (if t then record { rewritten = eventless_arrangement xs; after_halant = i + 1 } else if is_left x && nat_lt after_halant i then record { rewritten = within after_halant (i + 1) (first_to_back (i - after_halant)) xs; after_halant = after_halant } else record { rewritten = eventless_arrangement xs; after_halant = after_halant }) ≡ length xs
left_met_size i after_halant xs x lt true = refl
left_met_size i after_halant xs x lt false = left_move_size i after_halant xs x lt (is_left x && nat_lt after_halant i) refl

pub left_size : (i after_halant : ℕ) (xs : List Item) → length (left_vowel_step_at i after_halant xs).rewritten.items ≡ length xs
left_size i after_halant xs = by_item (slice_get xs i) refl
  where
    by_item : (a : Option Item) → slice_get xs i ≡ a → length (left_vowel_step i after_halant xs a).rewritten.items ≡ length xs
    by_item None e = refl
    by_item (Some x) e = left_met_size i after_halant xs x (slice_get_within xs i x e) (is_halant x)

pub walk_size : (n i after_halant : ℕ) (xs : List Item) → length (left_walk n i after_halant xs).items ≡ length xs
walk_size zero i after_halant xs = refl
walk_size (suc n) i after_halant xs = walk_size n (i + 1) (left_vowel_step_at i after_halant xs).after_halant (left_vowel_step_at i after_halant xs).rewritten.items ∙ left_size i after_halant xs

pub universal_keeps : (xs : List Item) → length (universal_syllable xs).items ≡ length xs
universal_keeps xs = by_first (slice_get xs 0)
  where
    by_kind : (t : Bool) → count_of (if t then universal_reordered xs else eventless_arrangement xs) ≡ length xs
    by_kind true = walk_size (length xs) 0 0 (reph_moved xs).items ∙ reph_size xs
    by_kind false = refl

    by_first : (a : Option Item) → length (universal_first xs a).items ≡ length xs
    by_first None = refl
    by_first (Some x) = by_kind (is_reordered UNIVERSAL_SHAPER (bit_and x.syllable 15))
