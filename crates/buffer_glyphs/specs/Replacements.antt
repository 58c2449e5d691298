-- Elements of a list replaced by others under new numbers.
use Rattle.std.specs.Prelude.{ℕ, ◌+◌, List, [], ◌++◌, Option, Some, None, map, take, drop}
use Rattle.buffer_glyphs.specs.declared.info.hb_glyph_info_t.{hb_glyph_info_t}
use Rattle.buffer_glyphs.specs.Items.{Item}
use Rattle.buffer_glyphs.specs.Parts.{first_of, last_of, or}

-- copies of an element, one for each number; none where there is none
abbrev pub numbered_copies : {X : Type 0} → (X → ℕ → X) → Option X → List ℕ → List X
numbered_copies under None numbers = []
numbered_copies under (Some x) numbers = map (under x) numbers

-- some elements from an index on replaced by copies of the first of them, past the end of the one before, one for each
-- number
abbrev pub elements_renumbered : {X : Type 0} → (X → ℕ → X) → ℕ → ℕ → List ℕ → List X → List X
elements_renumbered under at taken numbers xs = take at xs ++ numbered_copies under (or (first_of (drop at xs)) (last_of (take at xs))) numbers ++ drop (at + taken) xs

-- a glyph under another number
abbrev pub glyph_numbered : hb_glyph_info_t → ℕ → hb_glyph_info_t
glyph_numbered g n = record g { glyph_id = n }

-- an item under another number
abbrev pub item_numbered : Item → ℕ → Item
item_numbered x n = record x { number = n }

-- glyphs replaced by copies of the first under other numbers
abbrev pub glyphs_replaced : ℕ → ℕ → List ℕ → List hb_glyph_info_t → List hb_glyph_info_t
glyphs_replaced at taken numbers gs = elements_renumbered glyph_numbered at taken numbers gs

-- items replaced by copies of the first under other numbers
abbrev pub items_replaced : ℕ → ℕ → List ℕ → List Item → List Item
items_replaced at taken numbers xs = elements_renumbered item_numbered at taken numbers xs
