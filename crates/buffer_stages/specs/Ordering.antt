-- The items of a part in another order: by a stable sort, and in groups whose order is reversed.
use Rattle.std.specs.Prelude.{ℕ, ◌≡◌, not, Bool, false, List, [], ◌∷◌, ◌++◌, drop, length, map, slice_get, slice_range, take}
use Rattle.std.specs.List.{range_with_len}
use Rattle.std.specs.Option.{option_map_or}
use Rattle.buffer_rows.specs.KeyOrder.{key_order}
use Rattle.buffer_lists.specs.Events.{order_of}
use Rattle.buffer_lists.specs.Turning.{groups_reversed_list}
use Rattle.buffer_glyphs.specs.declared.info.hb_glyph_info_t.{hb_glyph_info_t}
use Rattle.buffer_glyphs.specs.Items.{Item, strip}
use Rattle.buffer_glyphs.specs.Levels.{InList}
use Rattle.buffer_glyphs.specs.Origins.{origins}
use Rattle.buffer_glyphs.specs.Events.{Move, Sort}
use Rattle.buffer_glyphs.specs.Rewriting.{Arrangement}

-- items that merge and change their order, with the indices at which they stood
abbrev pub merged_in_order : List ℕ → List Item → Arrangement
merged_in_order order ys = record { items = ys; events = Move InList 0 order ∷ [] }

-- items in stable order by their `auxiliary` numbers: each smallest span that the order permutes merges
abbrev pub auxiliary_order : List Item → Arrangement
auxiliary_order xs = record { items = key_order (λ (x : Item). x.auxiliary) xs; events = Sort 0 (order_of (map (λ (x : Item). x.auxiliary) xs)) ∷ [] }

-- an item that begins no group is of the group of the item before it
abbrev pub same_group : (Item → Bool) → Item → Item → Bool
same_group begins x y = not (begins y)

-- whether the item at an index begins a group
abbrev pub begins_at : (Item → Bool) → List Item → ℕ → Bool
begins_at begins xs i = option_map_or begins (slice_get xs i) false

-- groups in reversed order, each in its own, and all merge
abbrev pub groups_reversed : (Item → Bool) → List Item → Arrangement
groups_reversed begins xs = merged_in_order (groups_reversed_list (λ i j. not (begins_at begins xs j)) (range_with_len 0 (length xs))) (groups_reversed_list (same_group begins) xs)

-- glyphs that are these items, and come from where as many others come from
pub record AreMade (xs : List Item) (old new : List hb_glyph_info_t) : Type 0 where
  pub items : strip new ≡ xs
  pub origins : origins new ≡ origins old

-- so are those from `from` up to before `to`, and the others are as they were
pub record ArePartMade (xs : List Item) (from to : ℕ) (old new : List hb_glyph_info_t) : Type 0 where
  pub part : List hb_glyph_info_t
  pub shape : new ≡ take from old ++ part ++ drop to old
  pub made : AreMade xs (slice_range old from to) part
