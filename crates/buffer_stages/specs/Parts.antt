-- What rules do to a range of a text.
use Rattle.std.specs.Prelude.{ℕ, Bool, ◌-◌, List, [], ◌∷◌, ◌++◌, map, length, take, drop}
use Rattle.std.specs.Int.RustNames.{bit_or}
use Rattle.buffer_glyphs.specs.declared.info.hb_glyph_info_t.{hb_glyph_info_t}
use Rattle.buffer_glyphs.specs.Items.{Item, without_flags}
use Rattle.buffer_glyphs.specs.Levels.{InList}
use Rattle.buffer_glyphs.specs.Events.{Move}
use Rattle.buffer_stages.specs.Moves.{move_events, order_of_move}
use Rattle.buffer_stages.specs.Fronts.{moves_to_front, with_fronts_moved_after}
use Rattle.buffer_glyphs.specs.Rewriting.{Arrangement, eventless_arrangement}

-- an item with the feature bits of a mask, without its glyph flags
abbrev pub item_with_features : ℕ → Item → Item
item_with_features bits x = record x { mask = bit_or x.mask (without_flags bits) }

-- a glyph with the feature bits of a mask, without its glyph flags
abbrev pub glyph_masked : ℕ → hb_glyph_info_t → hb_glyph_info_t
glyph_masked bits g = record g { mask = bit_or g.mask (without_flags bits) }

-- all items with the feature bits of a mask
abbrev pub items_with_features : ℕ → List Item → Arrangement
items_with_features bits xs = eventless_arrangement (map (item_with_features bits) xs)

-- the first n items moved after the others, and all merged
abbrev pub first_to_back : ℕ → List Item → Arrangement
first_to_back n xs = record { items = drop n xs ++ take n xs; events = Move InList 0 (order_of_move n (length xs - n)) ∷ [] }

-- items moved to the front of those after the first n, one after another, each merged with the items that it passes
abbrev pub fronts_moved : (Item → Item → Bool) → (Item → Bool) → ℕ → List Item → Arrangement
fronts_moved pair one n xs = record { items = with_fronts_moved_after pair one n xs; events = move_events 0 (moves_to_front pair one n (drop n xs)) }
