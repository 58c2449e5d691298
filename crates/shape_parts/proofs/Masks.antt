-- Stages that set masks.
use Rattle.std.proofs.Common.{ℕ, zero, suc, ◌≡◌, ◌≤◌, ◌+◌, ◌-◌, ◌==◌, ◌||◌, ◌++◌, Bool, true, false, if◌then◌else◌, min, List, [], ◌∷◌, length, map, take, drop, arith, refl, ap, ◌∙◌, length-append, length-drop}
use Rattle.std.specs.Prelude.{slice_range}
use Rattle.std.proofs.lemmas.List.{length-map}
use Rattle.buffer_common.specs.declared.direction.Direction.{Direction}
use Rattle.buffer_tags.specs.declared.feature.Feature.{Feature}
use Rattle.buffer_tags.specs.Feature.{is_global}
use Rattle.buffer_glyphs.specs.declared.level.BufferClusterLevel.{BufferClusterLevel}
use Rattle.buffer_glyphs.specs.Events.{Break, Concat, Reset}
use Rattle.buffer_glyphs.specs.Items.{Item, item_masked}
use Rattle.buffer_parts.specs.Lemmas.Plainly.{steady_kept}
use Rattle.buffer_core.specs.Masks.{items_set}
use Rattle.buffer_core.specs.Readings.{View, with_events}
use Rattle.buffer_parts.specs.Lemmas.PlainStages.{ReadsPlainly, even_plainly}
use Rattle.layout_map.specs.Compiled.{OtMapValue}
use Rattle.shape_text.specs.declared.fractions.FractionMasks.{FractionMasks}
use Rattle.shape_text.specs.Masks.{with_one_mask}
use Rattle.shape_text.specs.Fractions.{around_slash, digits_after, digits_before, first_mask, fraction_at, fraction_items, fractions_to, is_slash_at, last_mask, with_features, with_features_within, with_fractions}
use Rattle.shape_text.specs.Ranges.{bits_of, shifted_value, with_all_ranges, with_range, with_ranges}
use Rattle.shape_parts.specs.StageLaws.{FirstMaskStaysInLine, FractionsStayInLine, RangesStayInLine}
use Rattle.shape_parts.proofs.StageLines.{always_in_line, reads_in_turn}

pub first_mask_stays : FirstMaskStaysInLine
first_mask_stays mask = always_in_line (with_one_mask mask) (λ v level. even_plainly (Reset ∷ []) v (record v { items = map (item_masked mask) v.items }) level tt (length-map v.items (item_masked mask))) (λ v. refl)

-- ---- fractions

length_take : {X : Type 0} (n : ℕ) (xs : List X) → length (take n xs) ≡ min n (length xs)
length_take zero xs = omega arith
length_take (suc n) [] = omega arith
length_take (suc n) (x ∷ xs) = let rest = length_take n xs in omega (arith, rest)

pub within_many : (mask from to : ℕ) (xs : List Item) → from ≤ to → length (with_features_within mask from to xs) ≡ length xs
within_many mask from to xs le =
    let front = length_take from xs in
    let middle : length (map (with_features mask) (slice_range xs from to)) ≡ min (to - from) (length xs - from) = length-map (slice_range xs from to) (with_features mask) ∙ length_take (to - from) (drop from xs) ∙ ap (min (to - from)) (length-drop from xs) in
    let back = length-drop to xs in
    length-append (take from xs ++ map (with_features mask) (slice_range xs from to)) (drop to xs)
    ∙ ap (λ n. n + length (drop to xs)) (length-append (take from xs) (map (with_features mask) (slice_range xs from to)))
    ∙ omega (arith, front, middle, back, le)

fraction_many : (d : Direction) (m : FractionMasks) (start at end : ℕ) (xs : List Item) → start ≤ at → at + 1 ≤ end → length (fraction_items d m start at end xs) ≡ length xs
fraction_many d m start at end xs le more =
    let one = with_features_within (first_mask d m) start at xs in
    let two = with_features_within m.frac at (at + 1) one in
    within_many (last_mask d m) (at + 1) end two more ∙ within_many m.frac at (at + 1) one (omega arith) ∙ within_many (first_mask d m) start at xs le

slash_reads : (m : FractionMasks) (at before after : ℕ) (v : View) (level : BufferClusterLevel) → ReadsPlainly (length v.items) (around_slash m at before after v) level
slash_reads m at before after v level = by_test (before == 0 || after == 0)
  where
    by_test : (b : Bool) → ReadsPlainly (length v.items) (if b then with_events (Concat at (at + 1) ∷ []) v else with_events (Break (at - before) (at + 1 + after) ∷ []) (record v { items = fraction_items v.direction m (at - before) at (at + 1 + after) v.items })) level
    by_test true = steady_kept (Concat at (at + 1) ∷ []) (length v.items) tt
    by_test false =
        even_plainly (Break (at - before) (at + 1 + after) ∷ []) v (record v { items = fraction_items v.direction m (at - before) at (at + 1 + after) v.items }) level tt
        (fraction_many v.direction m (at - before) at (at + 1 + after) v.items (omega arith) (omega arith))

slash_direction : (m : FractionMasks) (at before after : ℕ) (v : View) → (around_slash m at before after v).view.direction ≡ v.direction
slash_direction m at before after v = by_test (before == 0 || after == 0)
  where
    by_test : (b : Bool) → (if b then with_events (Concat at (at + 1) ∷ []) v else with_events (Break (at - before) (at + 1 + after) ∷ []) (record v { items = fraction_items v.direction m (at - before) at (at + 1 + after) v.items })).view.direction ≡ v.direction
    by_test true = refl
    by_test false = refl

fraction_reads : (m : FractionMasks) (at : ℕ) (v : View) (level : BufferClusterLevel) → ReadsPlainly (length v.items) (fraction_at m at v) level
fraction_reads m at v level = by_test (is_slash_at at v.items)
  where
    by_test : (b : Bool) → ReadsPlainly (length v.items) (if b then around_slash m at (digits_before at v.items) (digits_after at v.items) v else with_events [] v) level
    by_test true = slash_reads m at (digits_before at v.items) (digits_after at v.items) v level
    by_test false = steady_kept [] (length v.items) tt

fraction_direction : (m : FractionMasks) (at : ℕ) (v : View) → (fraction_at m at v).view.direction ≡ v.direction
fraction_direction m at v = by_test (is_slash_at at v.items)
  where
    by_test : (b : Bool) → (if b then around_slash m at (digits_before at v.items) (digits_after at v.items) v else with_events [] v).view.direction ≡ v.direction
    by_test true = slash_direction m at (digits_before at v.items) (digits_after at v.items) v
    by_test false = refl

fractions_read : (m : FractionMasks) (n : ℕ) (v : View) (level : BufferClusterLevel) → ReadsPlainly (length v.items) (fractions_to m n v) level
fractions_read m zero v level = steady_kept [] (length v.items) tt
fractions_read m (suc n) v level = reads_in_turn (length v.items) (fractions_to m n v) (fraction_at m n (fractions_to m n v).view) level (fractions_read m n v level) (fraction_reads m n (fractions_to m n v).view level)

fractions_direction : (m : FractionMasks) (n : ℕ) (v : View) → (fractions_to m n v).view.direction ≡ v.direction
fractions_direction m zero v = refl
fractions_direction m (suc n) v = fraction_direction m n (fractions_to m n v).view ∙ fractions_direction m n v

pub fractions_stay : FractionsStayInLine
fractions_stay m = always_in_line (with_fractions m) (λ v level. fractions_read m (length v.items) v level) (λ v. fractions_direction m (length v.items) v)

-- ---- ranges

set_many : (value under start end : ℕ) (ns : List ℕ) (xs : List Item) → length (items_set value under start end ns xs) ≡ length xs
set_many value under start end [] xs = refl
set_many value under start end (n ∷ ns) [] = refl
set_many value under start end (n ∷ ns) (x ∷ xs) = ap suc (set_many value under start end ns xs)

range_many : (map : OtMapValue) (f : Feature) (clusters : List ℕ) (xs : List Item) → length (with_range map f clusters xs) ≡ length xs
range_many map f clusters xs =
    elim (is_global f) as (λ b. length (if b then xs else items_set (shifted_value f map) (bits_of f map) f.start f.end clusters xs) ≡ length xs)
    [ true ↦ refl | false ↦ set_many (shifted_value f map) (bits_of f map) f.start f.end clusters xs ]

pub ranges_many : (map : OtMapValue) (fs : List Feature) (clusters : List ℕ) (xs : List Item) → length (with_all_ranges map fs clusters xs) ≡ length xs
ranges_many map [] clusters xs = refl
ranges_many map (f ∷ fs) clusters xs = ranges_many map fs clusters (with_range map f clusters xs) ∙ range_many map f clusters xs

pub ranges_stay : RangesStayInLine
ranges_stay map features clusters = always_in_line (with_ranges map features clusters) (λ v level. even_plainly [] v (record v { items = with_all_ranges map features clusters v.items }) level tt (ranges_many map features clusters v.items)) (λ v. refl)
