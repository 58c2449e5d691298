-- The initial reordering permutes a syllable.
use Rattle.std.proofs.Common.{ℕ, zero, suc, ◌≡◌, ◌≤◌, ◌+◌, Bool, true, false, if◌then◌else◌, List, [], ◌∷◌, ◌++◌, map, take, drop, Option, Some, None, slice_get, refl, sym, ap, ◌∙◌, arith}
use Rattle.std.specs.Prelude.{bit_and, slice_range}
use Rattle.std.specs.List.Sorted.{IsPermutation}
use Rattle.std.proofs.lemmas.List.{map-append, take-append-drop}
use Rattle.std.proofs.lemmas.List.Sorted.{IsPermutation-refl}
use Rattle.script_categories.specs.declared.shaper.hb_ot_script_shaper_t.TheVariants.{INDIC_SHAPER}
use Rattle.script_categories.specs.Shapers.{is_reordered}
use Rattle.buffer_glyphs.specs.Items.{Item}
use Rattle.buffer_glyphs.specs.Rewriting.{Arrangement, eventless_arrangement, and_arranged}
use Rattle.buffer_stages.specs.Rewriting.{within}
use Rattle.buffer_stages.specs.Ordering.{groups_reversed, auxiliary_order}
use Rattle.buffer_stages.specs.Parts.{item_with_features}
use Rattle.buffer_stages.specs.SyllableLaws.{IsPermuted, numbers_of}
use Rattle.buffer_stages.specs.Lemmas.Numbers.{same_numbers, then_permutes, within_permutes}
use Rattle.buffer_stages.specs.Lemmas.Permuted.{permutes_each_syllable}
use Rattle.buffer_stages.specs.Lemmas.Sorted.{sorted_permutes, turned_permutes}
use Rattle.script_indic_reordering.specs.declared.script.RephMode.{RephMode}
use Rattle.script_indic_reordering.specs.declared.script.IndicMasks.{IndicMasks}
use Rattle.script_indic_reordering.specs.Base.{Forms, RephAndBase, reph_and_base}
use Rattle.script_indic_reordering.specs.Glyphs.{is_matra}
use Rattle.script_indic_reordering.specs.Initial.{all_led, all_placed, signs_attached, attached_position, base_in, base_placed, before_zwnj, cleared_before_zwnj, without_bits_if, first_left, has_two_matras, initial_reordered, all_led_after, led_item, with_led_position, leads, left_count, masked_by_position, masks_set, matras_reversed, led_position, pref_masked, pref_pair, reph_in, reph_placed}
use Rattle.script_indic_reordering.specs.Masks.{after_masked, own_bits, pair_masked, part_masked}
use Rattle.script_indic_reordering.specs.Orders.{InitialPermutes, if_reordered, initial_syllable}
use Rattle.buffer_glyphs.specs.Lemmas.Glyphs.{cut_out as whole_cut}

-- ---- positions

based_numbers : (n : ℕ) (xs : List Item) → numbers_of (base_placed n xs) ≡ numbers_of xs
based_numbers n [] = refl
based_numbers zero (x ∷ xs) = refl
based_numbers (suc n) (x ∷ xs) = ap (λ ns. x.number ∷ ns) (based_numbers n xs)

rephed_numbers : (b : Bool) (xs : List Item) → numbers_of (reph_placed b xs) ≡ numbers_of xs
rephed_numbers true [] = refl
rephed_numbers true (x ∷ xs) = refl
rephed_numbers false xs = refl

attached_numbers : (before : ℕ) (xs : List Item) → numbers_of (signs_attached before xs) ≡ numbers_of xs
attached_numbers before [] = refl
attached_numbers before (x ∷ xs) = ap (λ ns. x.number ∷ ns) (attached_numbers (attached_position before x) xs)

led_number : (pos : Option ℕ) (x : Item) → (led_item pos x).number ≡ x.number
led_number pos x = by_test (leads x) pos
  where
    number_of : Item → ℕ
    number_of y = y.number

    by_low : (p : ℕ) (t : Bool) → number_of (if t then record x { auxiliary = p } else x) ≡ x.number
    by_low p true = refl
    by_low p false = refl

    with_position : (q : Option ℕ) → number_of (with_led_position q x) ≡ x.number
    with_position None = refl
    with_position (Some p) = by_low p (Rattle.std.specs.Prelude.nat_lt x.auxiliary Rattle.script_categories.specs.declared.ot_position_t.TheConstants.POS_SMVD)

    by_test : (t : Bool) (q : Option ℕ) → number_of (if t then x else with_led_position q x) ≡ x.number
    by_test true q = refl
    by_test false q = with_position q

all_led_numbers : (xs : List Item) → numbers_of (all_led xs) ≡ numbers_of xs
all_led_numbers [] = refl
all_led_numbers (x ∷ xs) = ap (λ n. n ∷ numbers_of (all_led xs)) (led_number (led_position xs) x) ∙ ap (λ ns. x.number ∷ ns) (all_led_numbers xs)

-- a list whose end is changed
end_numbers : (n : ℕ) (xs ys : List Item) → numbers_of ys ≡ numbers_of (drop n xs) → numbers_of (take n xs ++ ys) ≡ numbers_of xs
end_numbers n xs ys e =
    map-append (λ (x : Item). x.number) (take n xs) ys ∙ ap (λ ns. numbers_of (take n xs) ++ ns) e ∙ sym (map-append (λ (x : Item). x.number) (take n xs) (drop n xs)) ∙ ap numbers_of (take-append-drop n xs)

pub placed_numbers : (f : RephAndBase) (xs : List Item) → numbers_of (all_placed f xs) ≡ numbers_of xs
placed_numbers f xs =
    let based = base_placed f.base xs in
    let rephed = reph_placed f.has_reph based in
    let joined = signs_attached 0 rephed in
    end_numbers (f.base + 1) joined (all_led (drop (f.base + 1) joined)) (all_led_numbers (drop (f.base + 1) joined)) ∙ attached_numbers 0 rephed ∙ rephed_numbers f.has_reph based ∙ based_numbers f.base xs

-- ---- left matras

matras_permute : (xs : List Item) → IsPermuted xs (matras_reversed xs)
matras_permute xs = by_test (has_two_matras (take (left_count xs) (drop (first_left xs) xs)))
  where
    by_test : (t : Bool) → IsPermuted xs (if t then within (first_left xs) (first_left xs + left_count xs) (groups_reversed is_matra) xs else eventless_arrangement xs)
    by_test true = within_permutes (groups_reversed is_matra) (first_left xs) (first_left xs + left_count xs) xs (turned_permutes is_matra) (omega arith)
    by_test false = IsPermutation-refl (numbers_of xs)

-- ---- masks

masked_numbers : (bits : ℕ) (xs : List Item) → numbers_of (map (item_with_features bits) xs) ≡ numbers_of xs
masked_numbers bits [] = refl
masked_numbers bits (x ∷ xs) = ap (λ ns. x.number ∷ ns) (masked_numbers bits xs)

part_numbers : (from to bits : ℕ) (xs : List Item) → from ≤ to → numbers_of (part_masked from to bits xs) ≡ numbers_of xs
part_numbers from to bits xs le =
    let number : Item → ℕ = λ (x : Item). x.number in
    let part = slice_range xs from to in
    map-append number (take from xs ++ map (item_with_features bits) part) (drop to xs) ∙ ap (λ ns. ns ++ numbers_of (drop to xs)) (map-append number (take from xs) (map (item_with_features bits) part) ∙ ap (λ ns. numbers_of (take from xs) ++ ns) (masked_numbers bits part) ∙ sym (map-append number (take from xs) part))
    ∙ sym (map-append number (take from xs ++ part) (drop to xs)) ∙ ap numbers_of (whole_cut from to xs le)

pair_numbers : (i bits : ℕ) (xs : List Item) → numbers_of (pair_masked i bits xs) ≡ numbers_of xs
pair_numbers i bits [] = refl
pair_numbers zero bits (x ∷ []) = refl
pair_numbers zero bits (x ∷ y ∷ zs) = refl
pair_numbers (suc i) bits (x ∷ xs) = ap (λ ns. x.number ∷ ns) (pair_numbers i bits xs)

pref_numbers : (bits : ℕ) (pair : Option ℕ) (xs : List Item) → numbers_of (pref_masked bits pair xs) ≡ numbers_of xs
pref_numbers bits None xs = refl
pref_numbers bits (Some i) xs = pair_numbers i bits xs

cleared_numbers : (bits : ℕ) (xs : List Item) → numbers_of (cleared_before_zwnj bits xs) ≡ numbers_of xs
cleared_numbers bits [] = refl
cleared_numbers bits (x ∷ xs) = ap (λ n. n ∷ numbers_of (cleared_before_zwnj bits xs)) (one (before_zwnj xs)) ∙ ap (λ ns. x.number ∷ ns) (cleared_numbers bits xs)
  where
    number_of : Item → ℕ
    number_of y = y.number

    one : (t : Bool) → number_of (without_bits_if t bits x) ≡ x.number
    one true = refl
    one false = refl

pub masks_numbers : (m : IndicMasks) (pair : Option ℕ) (xs : List Item) → numbers_of (masks_set m pair xs) ≡ numbers_of xs
masks_numbers m pair xs =
    let one = part_masked 0 (reph_in xs) m.rphf xs in
    let two = part_masked 0 (base_in xs) m.before_base one in
    let three = after_masked (base_in xs + 1) m.after_base two in
    cleared_numbers (own_bits m.half) (pref_masked m.pref pair three) ∙ pref_numbers m.pref pair three ∙ end_numbers (base_in xs + 1) two (map (item_with_features m.after_base) (drop (base_in xs + 1) two)) (masked_numbers m.after_base (drop (base_in xs + 1) two))
    ∙ part_numbers 0 (base_in xs) m.before_base one (omega arith) ∙ part_numbers 0 (reph_in xs) m.rphf xs (omega arith)

-- ---- a syllable

reordered_permutes : (mode : RephMode) (m : IndicMasks) (forms : Forms) (xs : List Item) → IsPermuted xs (initial_reordered mode m forms xs)
reordered_permutes mode m forms xs =
    let placed = eventless_arrangement (all_placed (reph_and_base mode forms xs) xs) in
    let sorted = and_arranged placed auxiliary_order in
    let turned = and_arranged sorted matras_reversed in
    let marked : List Item → Arrangement = λ ys. eventless_arrangement (masks_set m (pref_pair forms ys) ys) in
    then_permutes xs turned marked
    (then_permutes xs sorted matras_reversed (then_permutes xs placed auxiliary_order (same_numbers xs placed (placed_numbers (reph_and_base mode forms xs) xs)) (sorted_permutes placed.items)) (matras_permute sorted.items))
    (same_numbers turned.items (marked turned.items) (masks_numbers m (pref_pair forms turned.items) turned.items))

-- a rule that permutes each list does so where only some kinds are reordered
pub if_reordered_permutes : (rule : List Item → Arrangement) → ((ys : List Item) → IsPermuted ys (rule ys)) → (xs : List Item) (first : Option Item) → IsPermuted xs (if_reordered rule xs first)
if_reordered_permutes rule p xs None = IsPermutation-refl (numbers_of xs)
if_reordered_permutes rule p xs (Some x) = by_kind (is_reordered INDIC_SHAPER (bit_and x.syllable 15))
  where
    by_kind : (t : Bool) → IsPermuted xs (if t then rule xs else eventless_arrangement xs)
    by_kind true = p xs
    by_kind false = IsPermutation-refl (numbers_of xs)

pub initial_syllable_permutes : (mode : RephMode) (m : IndicMasks) (forms : Forms) (xs : List Item) → IsPermuted xs (initial_syllable mode m forms xs)
initial_syllable_permutes mode m forms xs = if_reordered_permutes (initial_reordered mode m forms) (reordered_permutes mode m forms) xs (slice_get xs 0)

pub initial_permutes : InitialPermutes
initial_permutes mode m forms xs = permutes_each_syllable (λ (x : Item). x.number) (initial_syllable mode m forms) (initial_syllable_permutes mode m forms) xs
