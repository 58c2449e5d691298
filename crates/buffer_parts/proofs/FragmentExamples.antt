-- Stages that are divisible.
use Rattle.std.proofs.Common.{ℕ, Bool, refl}
use Rattle.buffer_glyphs.specs.Items.{Item, item_masked}
use Rattle.buffer_core.specs.Readings.{always}
use Rattle.buffer_stages.specs.Stages.{with_items_mapped}
use Rattle.buffer_parts.specs.Breaks.Divisible.{IsFreelyDivisible}
use Rattle.buffer_parts.proofs.BreakLemmas.Division.{items_are_divisible}

-- masks that are set on each item
masks_divide : (falls : Bool) (m : ℕ) → IsFreelyDivisible falls falls (always (with_items_mapped (item_masked m))) (always (with_items_mapped (item_masked m))) (always (with_items_mapped (item_masked m)))
masks_divide falls m = items_are_divisible falls (item_masked m) (λ n x. refl)

-- an item with another glyph number
abbrev item_numbered : (ℕ → ℕ) → Item → Item
item_numbered f x = record x { number = f x.number }

-- glyph numbers that replace others
numbers_divide : (falls : Bool) (f : ℕ → ℕ) → IsFreelyDivisible falls falls (always (with_items_mapped (item_numbered f))) (always (with_items_mapped (item_numbered f))) (always (with_items_mapped (item_numbered f)))
numbers_divide falls f = items_are_divisible falls (item_numbered f) (λ n x. refl)
