-- The order of a Myanmar syllable keeps its length.
use Rattle.std.proofs.Common.{ℕ, suc, ◌≡◌, ◌≤◌, ◌==◌, Bool, true, false, if◌then◌else◌, List, [], ◌∷◌, length, map, take, Option, Some, None, slice_get, refl, ap, ◌∙◌, arith}
use Rattle.std.specs.Prelude.{bit_and}
use Rattle.std.proofs.lemmas.List.{length-map}
use Rattle.std.proofs.lemmas.List.Sums.{prefix_len-le-length}
use Rattle.script_categories.specs.declared.ot_position_t.TheConstants as position
use Rattle.script_categories.specs.declared.shaper.hb_ot_script_shaper_t.TheVariants.{MYANMAR_SHAPER}
use Rattle.script_categories.specs.Shapers.{is_reordered}
use Rattle.buffer_glyphs.specs.Items.{Item}
use Rattle.buffer_glyphs.specs.Rewriting.{Arrangement, eventless_arrangement}
use Rattle.buffer_stages.specs.Rewriting.{within}
use Rattle.buffer_stages.specs.Lemmas.Parts.{within_size}
use Rattle.script_myanmar.specs.Myanmar.{items_with_positions, has_two_matras, is_pre_base_vowel, matras_of, matras_reversed, myanmar_first, myanmar_positions, myanmar_reordered, myanmar_syllable, with_positions}
use Rattle.script_myanmar.specs.Lemmas.Sizes.{positions_size}
use Rattle.buffer_stages.specs.Ordering.{groups_reversed, auxiliary_order}
use Rattle.buffer_stages.specs.Lemmas.Sorted.{reversed_size, sorted_size}

placed_size : (ps : List ℕ) (xs : List Item) → length ps ≤ length xs → length (with_positions ps xs) ≡ length xs
placed_size [] xs le = refl
placed_size (p ∷ ps) [] le = absurd (omega (arith, le))
placed_size (p ∷ ps) (x ∷ xs) le = ap suc (placed_size ps xs (omega (arith, le)))

pub all_placed_size : (xs : List Item) → length (items_with_positions xs).items ≡ length xs
all_placed_size xs =
    let n = positions_size (map (λ (x : Item). x.category) xs) in
    placed_size (myanmar_positions (map (λ (x : Item). x.category) xs)) xs (omega (arith, n, length-map xs (λ (x : Item). x.category)))

pub matras_size : (xs : List Item) → length (matras_reversed xs).items ≡ length xs
matras_size xs = by_test (has_two_matras (take (matras_of xs) xs))
  where
    count_of : Arrangement → ℕ
    count_of r = length r.items

    by_test : (t : Bool) → count_of (if t then within 0 (matras_of xs) (groups_reversed is_pre_base_vowel) xs else eventless_arrangement xs) ≡ length xs
    by_test true = within_size (groups_reversed is_pre_base_vowel) 0 (matras_of xs) xs (reversed_size is_pre_base_vowel) (omega arith) (prefix_len-le-length (λ (x : Item). x.auxiliary == position.POS_PRE_M) xs)
    by_test false = refl

pub reordered_size : (xs : List Item) → length (myanmar_reordered xs).items ≡ length xs
reordered_size xs = matras_size (auxiliary_order (items_with_positions xs).items).items ∙ sorted_size (items_with_positions xs).items ∙ all_placed_size xs

pub myanmar_keeps : (xs : List Item) → length (myanmar_syllable xs).items ≡ length xs
myanmar_keeps xs = by_first (slice_get xs 0)
  where
    count_of : Arrangement → ℕ
    count_of r = length r.items

    by_kind : (t : Bool) → count_of (if t then myanmar_reordered xs else eventless_arrangement xs) ≡ length xs
    by_kind true = reordered_size xs
    by_kind false = refl

    by_first : (a : Option Item) → length (myanmar_first xs a).items ≡ length xs
    by_first None = refl
    by_first (Some x) = by_kind (is_reordered MYANMAR_SHAPER (bit_and x.syllable 15))
