-- The masks of fractions: numbers on both sides of a fraction slash.
use Rattle.std.specs.Prelude.{ℕ, zero, suc, ◌+◌, ◌-◌, ◌==◌, ◌||◌, Bool, false, if◌then◌else◌, List, [], ◌∷◌, ◌++◌, length, map, reverse, take, drop, slice_range, slice_get}
use Rattle.std.specs.Option.{option_map_or}
use Rattle.std.specs.Int.RustNames.{bit_or}
use Rattle.buffer_common.specs.declared.direction.Direction.{Direction}
use Rattle.buffer_common.specs.Direction.{is_backward}
use Rattle.buffer_glyphs.specs.Items.{Item, without_flags}
use Rattle.buffer_glyphs.specs.Events.{Break, Concat}
use Rattle.buffer_core.specs.Readings.{View, Read, then_read, with_events}
use Rattle.buffer_properties.specs.Categories.{is_decimal_number}
use Rattle.shape_text.specs.declared.fractions.FractionMasks.{FractionMasks}

-- an item is U+2044 FRACTION SLASH
abbrev pub is_slash : Item → Bool
is_slash x = x.number == 0x2044

-- the item at an index is a slash
abbrev pub is_slash_at : ℕ → List Item → Bool
is_slash_at at xs = option_map_or is_slash (slice_get xs at) false

-- the number of decimal numbers that a list begins with
abbrev pub digits : List Item → ℕ
digits [] = 0
digits (x ∷ xs) = if is_decimal_number x then digits xs + 1 else 0

-- the number of decimal numbers directly before an index
abbrev pub digits_before : ℕ → List Item → ℕ
digits_before at xs = digits (reverse (take at xs))

-- the number of decimal numbers directly after an index
abbrev pub digits_after : ℕ → List Item → ℕ
digits_after at xs = digits (drop (at + 1) xs)

-- an item with additional mask bits
abbrev pub with_features : ℕ → Item → Item
with_features mask x = record x { mask = without_flags (bit_or x.mask mask) }

-- a list whose items in a range have additional mask bits
abbrev pub with_features_within : ℕ → ℕ → ℕ → List Item → List Item
with_features_within mask from to xs = take from xs ++ map (with_features mask) (slice_range xs from to) ++ drop to xs

-- the mask of the numbers that are first in the text: numr, dnom where the direction is backward
abbrev pub first_mask : Direction → FractionMasks → ℕ
first_mask d m = bit_or m.frac (if is_backward d then m.dnom else m.numr)

-- the mask of the numbers that are last in the text
abbrev pub last_mask : Direction → FractionMasks → ℕ
last_mask d m = bit_or m.frac (if is_backward d then m.numr else m.dnom)

-- the items of a fraction with their masks: the numbers before the slash, the slash, and the numbers after it
abbrev pub fraction_items : Direction → FractionMasks → ℕ → ℕ → ℕ → List Item → List Item
fraction_items d m start at end xs =
    with_features_within (last_mask d m) (at + 1) end (with_features_within m.frac at (at + 1) (with_features_within (first_mask d m) start at xs))

-- the view of a slash with that many numbers before and after it: a fraction that is unsafe to break; without a number
-- on one side it is flagged as unsafe to concat
abbrev pub around_slash : FractionMasks → ℕ → ℕ → ℕ → View → Read
around_slash m at before after v =
    if before == 0 || after == 0 then with_events (Concat at (at + 1) ∷ []) v
    else with_events (Break (at - before) (at + 1 + after) ∷ []) (record v { items = fraction_items v.direction m (at - before) at (at + 1 + after) v.items })

-- the view at an index, which may be a slash
abbrev pub fraction_at : FractionMasks → ℕ → View → Read
fraction_at m at v = if is_slash_at at v.items then around_slash m at (digits_before at v.items) (digits_after at v.items) v else with_events [] v

-- the view of that many items, slash by slash
abbrev pub fractions_to : FractionMasks → ℕ → View → Read
fractions_to m zero v = with_events [] v
fractions_to m (suc n) v = then_read (fractions_to m n v) (fraction_at m n (fractions_to m n v).view)

-- the view with the masks of fractions (HarfBuzz: hb_ot_shape_setup_masks_fraction)
abbrev pub with_fractions : FractionMasks → View → Read
with_fractions m v = fractions_to m (length v.items) v
