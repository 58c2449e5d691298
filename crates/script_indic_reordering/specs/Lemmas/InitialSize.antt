-- The initial reordering of a syllable keeps its length.
use Rattle.std.proofs.Common.{ℕ, zero, suc, ◌≡◌, ◌≤◌, ◌<◌, ◌+◌, ◌-◌, ◌==◌, ◌&&◌, Bool, true, false, if◌then◌else◌, List, [], ◌∷◌, ◌++◌, length, map, take, drop, Option, Some, None, slice_get, refl, ap, ◌∙◌, arith, sym}
use Rattle.std.specs.Prelude.{bit_and, not, slice_range}
use Rattle.std.specs.List.{position_or_len}
use Rattle.std.proofs.lemmas.List.{length-append, length-drop, length-map, take-append-drop}
use Rattle.std.proofs.lemmas.List.Sums.{prefix_len-le-length}
use Rattle.script_categories.specs.declared.shaper.hb_ot_script_shaper_t.TheVariants.{INDIC_SHAPER}
use Rattle.script_categories.specs.Shapers.{is_reordered}
use Rattle.buffer_glyphs.specs.Items.{Item}
use Rattle.buffer_glyphs.specs.Rewriting.{Arrangement, eventless_arrangement, and_arranged}
use Rattle.buffer_stages.specs.Rewriting.{within}
use Rattle.buffer_stages.specs.Ordering.{groups_reversed, auxiliary_order}
use Rattle.buffer_stages.specs.Parts.{item_with_features}
use Rattle.buffer_stages.specs.Lemmas.Parts.{within_size}
use Rattle.buffer_stages.specs.Lemmas.Sorted.{reversed_size, sorted_size}
use Rattle.script_indic_reordering.specs.declared.script.RephMode.{RephMode}
use Rattle.script_indic_reordering.specs.declared.script.IndicMasks.{IndicMasks}
use Rattle.script_indic_reordering.specs.Base.{Forms, RephAndBase, reph_and_base}
use Rattle.script_indic_reordering.specs.Glyphs.{is_left, is_left_matra, is_matra}
use Rattle.script_indic_reordering.specs.Initial.{all_led, all_placed, signs_attached, attached_position, base_in, base_placed, cleared_before_zwnj, first_left, has_two_matras, initial_reordered, all_led_after, left_count, masked_by_position, masks_set, matras_reversed, pref_masked, pref_pair, reph_in, reph_placed}
use Rattle.script_indic_reordering.specs.Masks.{after_masked, own_bits, pair_masked, part_masked}
use Rattle.script_indic_reordering.specs.Orders.{if_reordered, initial_syllable}
use Rattle.buffer_glyphs.specs.Lemmas.Glyphs.{cut_out as whole_cut}

-- ---- positions

base_placed_size : (n : ℕ) (xs : List Item) → length (base_placed n xs) ≡ length xs
base_placed_size n [] = refl
base_placed_size zero (x ∷ xs) = refl
base_placed_size (suc n) (x ∷ xs) = ap suc (base_placed_size n xs)

reph_placed_size : (b : Bool) (xs : List Item) → length (reph_placed b xs) ≡ length xs
reph_placed_size true [] = refl
reph_placed_size true (x ∷ xs) = refl
reph_placed_size false xs = refl

attached_size : (before : ℕ) (xs : List Item) → length (signs_attached before xs) ≡ length xs
attached_size before [] = refl
attached_size before (x ∷ xs) = ap suc (attached_size (attached_position before x) xs)

all_led_size : (xs : List Item) → length (all_led xs) ≡ length xs
all_led_size [] = refl
all_led_size (x ∷ xs) = ap suc (all_led_size xs)

-- a part whose length is kept
kept_after : (n : ℕ) (xs ys : List Item) → length ys ≡ length (drop n xs) → length (take n xs ++ ys) ≡ length xs
kept_after n xs ys e = length-append (take n xs) ys ∙ ap (λ k. length (take n xs) + k) e ∙ sym (length-append (take n xs) (drop n xs)) ∙ ap length (take-append-drop n xs)

led_after_size : (base : ℕ) (xs : List Item) → length (all_led_after base xs) ≡ length xs
led_after_size base xs = kept_after (base + 1) xs (all_led (drop (base + 1) xs)) (all_led_size (drop (base + 1) xs))

pub all_placed_size : (f : RephAndBase) (xs : List Item) → length (all_placed f xs) ≡ length xs
all_placed_size f xs =
    let based = base_placed f.base xs in
    let rephed = reph_placed f.has_reph based in
    led_after_size f.base (signs_attached 0 rephed) ∙ attached_size 0 rephed ∙ reph_placed_size f.has_reph based ∙ base_placed_size f.base xs

-- ---- left matras

pub position_within : {X : Type 0} (p : X → Bool) (xs : List X) → position_or_len p xs ≤ length xs
position_within p xs = prefix_len-le-length (λ x. not (p x)) xs

pub lefts_within : (xs : List Item) → first_left xs + left_count xs ≤ length xs
lefts_within xs =
    let a = position_within is_left_matra xs in
    let b = position_within (λ (x : Item). not (is_left x)) (drop (first_left xs) xs) in
    omega (arith, a, b, length-drop (first_left xs) xs)

pub matras_size : (xs : List Item) → length (matras_reversed xs).items ≡ length xs
matras_size xs = by_test (has_two_matras (take (left_count xs) (drop (first_left xs) xs)))
  where
    count_of : Arrangement → ℕ
    count_of r = length r.items

    by_test : (t : Bool) → count_of (if t then within (first_left xs) (first_left xs + left_count xs) (groups_reversed is_matra) xs else eventless_arrangement xs) ≡ length xs
    by_test true = within_size (groups_reversed is_matra) (first_left xs) (first_left xs + left_count xs) xs (reversed_size is_matra) (omega arith) (lefts_within xs)
    by_test false = refl

-- ---- masks

pub part_masked_size : (from to bits : ℕ) (xs : List Item) → from ≤ to → length (part_masked from to bits xs) ≡ length xs
part_masked_size from to bits xs le =
    let part = slice_range xs from to in
    let new = length-append (take from xs ++ map (item_with_features bits) part) (drop to xs) in
    let front = length-append (take from xs) (map (item_with_features bits) part) in
    let old = length-append (take from xs ++ part) (drop to xs) in
    let old_front = length-append (take from xs) part in
    let whole = ap length (whole_cut from to xs le) in
    omega (arith, new, front, old, old_front, whole, length-map part (item_with_features bits))

after_masked_size : (n bits : ℕ) (xs : List Item) → length (after_masked n bits xs) ≡ length xs
after_masked_size n bits xs = kept_after n xs (map (item_with_features bits) (drop n xs)) (length-map (drop n xs) (item_with_features bits))

by_position_size : (m : IndicMasks) (xs : List Item) → length (masked_by_position m xs) ≡ length xs
by_position_size m xs =
    let one = part_masked 0 (reph_in xs) m.rphf xs in
    let two = part_masked 0 (base_in xs) m.before_base one in
    after_masked_size (base_in xs + 1) m.after_base two ∙ part_masked_size 0 (base_in xs) m.before_base one (omega arith) ∙ part_masked_size 0 (reph_in xs) m.rphf xs (omega arith)

pref_masked_size : (bits : ℕ) (pair : Option ℕ) (xs : List Item) → length (pref_masked bits pair xs) ≡ length xs
pref_masked_size bits None xs = refl
pref_masked_size bits (Some i) xs = pair_size i xs
  where
    pair_size : (j : ℕ) (ys : List Item) → length (pair_masked j bits ys) ≡ length ys
    pair_size j [] = refl
    pair_size zero (y ∷ []) = refl
    pair_size zero (y ∷ z ∷ zs) = refl
    pair_size (suc j) (y ∷ ys) = ap suc (pair_size j ys)

cleared_size : (bits : ℕ) (xs : List Item) → length (cleared_before_zwnj bits xs) ≡ length xs
cleared_size bits [] = refl
cleared_size bits (x ∷ xs) = ap suc (cleared_size bits xs)

pub masks_set_size : (m : IndicMasks) (pair : Option ℕ) (xs : List Item) → length (masks_set m pair xs) ≡ length xs
masks_set_size m pair xs =
    let placed = masked_by_position m xs in
    cleared_size (own_bits m.half) (pref_masked m.pref pair placed) ∙ pref_masked_size m.pref pair placed ∙ by_position_size m xs

-- ---- a syllable

pub reordered_size : (mode : RephMode) (m : IndicMasks) (forms : Forms) (xs : List Item) → length (initial_reordered mode m forms xs).items ≡ length xs
reordered_size mode m forms xs =
    let placed = all_placed (reph_and_base mode forms xs) xs in
    let sorted = (auxiliary_order placed).items in
    let turned = (matras_reversed sorted).items in
    masks_set_size m (pref_pair forms turned) turned ∙ matras_size sorted ∙ sorted_size placed ∙ all_placed_size (reph_and_base mode forms xs) xs

-- a rule that keeps the length does so where only some kinds are reordered
pub if_reordered_size : (rule : List Item → Arrangement) → ((ys : List Item) → length (rule ys).items ≡ length ys) → (xs : List Item) (first : Option Item) → length (if_reordered rule xs first).items ≡ length xs
if_reordered_size rule keeps xs None = refl
if_reordered_size rule keeps xs (Some x) = by_kind (is_reordered INDIC_SHAPER (bit_and x.syllable 15))
  where
    count_of : Arrangement → ℕ
    count_of r = length r.items

    by_kind : (t : Bool) → count_of (if t then rule xs else eventless_arrangement xs) ≡ length xs
    by_kind true = keeps xs
    by_kind false = refl

pub initial_keeps : (mode : RephMode) (m : IndicMasks) (forms : Forms) (xs : List Item) → length (initial_syllable mode m forms xs).items ≡ length xs
initial_keeps mode m forms xs = if_reordered_size (initial_reordered mode m forms) (reordered_size mode m forms) xs (slice_get xs 0)
