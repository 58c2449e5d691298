-- The masks of a part of a list, and bits that are cleared.
use Rattle.std.specs.Prelude.{ℕ, zero, suc, ◌-◌, bit_and, List, [], ◌∷◌, ◌++◌, drop, map, slice_range, take}
use Rattle.buffer_glyphs.specs.Items.{Item}
use Rattle.buffer_stages.specs.Parts.{item_with_features}

-- a list in which the items from `from` up to before `to` have the features of a mask
abbrev pub part_masked : ℕ → ℕ → ℕ → List Item → List Item
part_masked from to bits xs = take from xs ++ map (item_with_features bits) (slice_range xs from to) ++ drop to xs

-- a list in which all but the first n items have the features of a mask
abbrev pub after_masked : ℕ → ℕ → List Item → List Item
after_masked n bits xs = take n xs ++ map (item_with_features bits) (drop n xs)

-- a list in which the item at an index and the next one have the features of a mask, where both are there
abbrev pub pair_masked : ℕ → ℕ → List Item → List Item
pair_masked i bits [] = []
pair_masked zero bits (x ∷ []) = x ∷ []
pair_masked zero bits (x ∷ y ∷ zs) = item_with_features bits x ∷ item_with_features bits y ∷ zs
pair_masked (suc i) bits (x ∷ xs) = x ∷ pair_masked i bits xs

-- the bits of a mask that are a feature's own: neither the bit that every glyph has nor a glyph flag
abbrev pub own_bits : ℕ → ℕ
own_bits bits = bits - bit_and bits 0x8000_0007

-- an item without some bits of its mask
abbrev pub without_bits : ℕ → Item → Item
without_bits bits x = record x { mask = x.mask - bit_and x.mask bits }
