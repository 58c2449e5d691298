-- The masks of fractions change no joining type.
use Rattle.std.proofs.Common.{ℕ, zero, suc, ◌≡◌, ◌≤◌, ◌+◌, ◌-◌, ◌==◌, ◌||◌, true, false, if◌then◌else◌, List, [], ◌∷◌, ◌++◌, length, map, take, drop, append_assoc, arith, refl, sym, ap, ◌∙◌}
use Rattle.std.specs.Prelude.{slice_range}
use Rattle.std.proofs.lemmas.List.{drop-drop, map-append, take-append-drop}
use Rattle.buffer_common.specs.declared.direction.Direction.{Direction}
use Rattle.buffer_core.specs.Readings.{View, with_events}
use Rattle.buffer_glyphs.specs.Events.{Break, Concat}
use Rattle.buffer_glyphs.specs.Items.{Item}
use Rattle.buffer_unicode_tables.specs.Tables.{Tables}
use Rattle.script_joining.specs.Joining.{types_of_items}
use Rattle.script_joining.specs.Types.{JoiningType, type_of_item}
use Rattle.shape_text.specs.declared.fractions.FractionMasks.{FractionMasks}
use Rattle.shape_text.specs.Fractions.{around_slash, digits_after, digits_before, first_mask, fraction_at, fraction_items, fractions_to, is_slash_at, last_mask, with_features, with_features_within, with_fractions}

featured_types : (t : Tables) (mask : ℕ) (xs : List Item) → types_of_items t (map (with_features mask) xs) ≡ types_of_items t xs
featured_types t mask [] = refl
featured_types t mask (x ∷ xs) = ap (λ (ys : List JoiningType). type_of_item t x ∷ ys) (featured_types t mask xs)

-- a range is what is before it, it, and what is after it
range_between : (from to : ℕ) (xs : List Item) → from ≤ to → take from xs ++ slice_range xs from to ++ drop to xs ≡ xs
range_between from to xs le =
    let rest = drop from xs in
    let end : to ≡ from + (to - from) = omega (arith, le) in
    ap (λ (n : ℕ). take from xs ++ slice_range xs from to ++ drop n xs) end ∙ ap (λ ys. take from xs ++ slice_range xs from to ++ ys) (sym (drop-drop (to - from) from xs))
    ∙ append_assoc (take from xs) (take (to - from) rest) (drop (to - from) rest) ∙ ap (λ ys. take from xs ++ ys) (take-append-drop (to - from) rest) ∙ take-append-drop from xs

within_types : (t : Tables) (mask from to : ℕ) (xs : List Item) → from ≤ to → types_of_items t (with_features_within mask from to xs) ≡ types_of_items t xs
within_types t mask from to xs le =
    let g = type_of_item t in
    let range = slice_range xs from to in
    map-append g (take from xs ++ map (with_features mask) range) (drop to xs) ∙ ap (λ ys. ys ++ map g (drop to xs)) (map-append g (take from xs) (map (with_features mask) range) ∙ ap (λ ys. map g (take from xs) ++ ys) (featured_types t mask range) ∙ sym (map-append g (take from xs) range))
    ∙ sym (map-append g (take from xs ++ range) (drop to xs)) ∙ ap (map g) (range_between from to xs le)

fraction_types : (t : Tables) (d : Direction) (m : FractionMasks) (start at end : ℕ) (xs : List Item) → start ≤ at → at + 1 ≤ end → types_of_items t (fraction_items d m start at end xs) ≡ types_of_items t xs
fraction_types t d m start at end xs low high =
    let one = with_features_within (first_mask d m) start at xs in
    within_types t (last_mask d m) (at + 1) end (with_features_within m.frac at (at + 1) one) high ∙ within_types t m.frac at (at + 1) one (omega arith) ∙ within_types t (first_mask d m) start at xs low

at_types : (t : Tables) (m : FractionMasks) (at : ℕ) (v : View) → types_of_items t (fraction_at m at v).view.items ≡ types_of_items t v.items
at_types t m at v =
    let before = digits_before at v.items in
    let after = digits_after at v.items in
    elim (is_slash_at at v.items) as (λ b. types_of_items t (if b then around_slash m at before after v else with_events [] v).view.items ≡ types_of_items t v.items) [
      | true ↦ elim (before == 0 || after == 0) as (λ b. types_of_items t (if b then with_events (Concat at (at + 1) ∷ []) v else with_events (Break (at - before) (at + 1 + after) ∷ []) (record v { items = fraction_items v.direction m (at - before) at (at + 1 + after) v.items })).view.items ≡ types_of_items t v.items) [
        | true ↦ refl
        | false ↦ fraction_types t v.direction m (at - before) at (at + 1 + after) v.items (omega arith) (omega arith)
      ]
      | false ↦ refl
    ]

to_types : (t : Tables) (m : FractionMasks) (n : ℕ) (v : View) → types_of_items t (fractions_to m n v).view.items ≡ types_of_items t v.items
to_types t m zero v = refl
to_types t m (suc n) v = at_types t m n (fractions_to m n v).view ∙ to_types t m n v

pub fractions_types : (t : Tables) (m : FractionMasks) (v : View) → types_of_items t (with_fractions m v).view.items ≡ types_of_items t v.items
fractions_types t m v = to_types t m (length v.items) v
