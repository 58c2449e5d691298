-- The items that the syllables of the universal shaper count (OpenType specification, Universal Shaping Engine: joiners
-- inside a syllable).
use Rattle.std.specs.Prelude.{ℕ, ◌+◌, ◌==◌, ◌&&◌, ◌||◌, not, Bool, true, false, if◌then◌else◌, List, [], ◌∷◌, ◌++◌, Option, Some, None, find, length, slice_get, unwrap_or, Vec}
use Rattle.std.specs.List.{range_with_len}
use Rattle.std.specs.declared.alloc.Global.{Global}
use Rattle.script_categories.specs.declared.category.TheConstants as category
use Rattle.script_categories.specs.declared.shaper.hb_ot_script_shaper_t.{hb_ot_script_shaper_t}
use Rattle.script_categories.specs.declared.shaper.hb_ot_script_shaper_t.TheVariants.{UNIVERSAL_SHAPER}
use Rattle.buffer_properties.specs.Characters.{is_mark}
use Rattle.buffer_glyphs.specs.Items.{Item}
use Rattle.buffer_core.specs.Readings.{Stage}
use Rattle.buffer_stages.specs.Cuts.{syllables}
use Rattle.script_syllabic.specs.Bytes.{bytes_of}

-- an item of the category of the combining grapheme joiner (CGJ)
abbrev pub is_grapheme_joiner : Item → Bool
is_grapheme_joiner x = x.category == category.CGJ

-- the item, if there is one, is a mark (general category M*)
abbrev pub mark_or_none : Option Item → Bool
mark_or_none None = false
mark_or_none (Some x) = is_mark x

-- the next item that is no grapheme joiner is a mark
abbrev pub precedes_mark : List Item → Bool
precedes_mark behind = mark_or_none (find (λ x. not (is_grapheme_joiner x)) behind)

-- an item counts for syllables: grapheme joiners don't, nor a zero-width non-joiner before a mark
abbrev pub is_counted : Item → List Item → Bool
is_counted x behind = not (is_grapheme_joiner x || (x.category == category.ZWNJ && precedes_mark behind))

-- each item counts for syllables
abbrev pub are_all_counted : List Item → Bool
are_all_counted [] = true
are_all_counted (x ∷ xs) = is_counted x xs && are_all_counted xs

-- an entry for an item, put before others if the item counts
abbrev pub if_counted : {X : Type 0} → Item → List Item → X → List X
if_counted x behind y = if is_counted x behind then y ∷ [] else []

-- the categories of the counted items
abbrev pub categories_counted : List Item → List ℕ
categories_counted [] = []
categories_counted (x ∷ xs) = if_counted x xs x.category ++ categories_counted xs

-- the indices of the counted items, from an index on
abbrev pub counted_indices_from : ℕ → List Item → List ℕ
counted_indices_from at [] = []
counted_indices_from at (x ∷ xs) = if_counted x xs at ++ counted_indices_from (at + 1) xs

-- the listed indices; where none are listed, all those of a text of some length
abbrev pub indices_or_all : Option (Vec ℕ Global) → ℕ → List ℕ
indices_or_all None end = range_with_len 0 end
indices_or_all (Some indices) end = indices.items

-- the i-th of some indices; after the last, the length of the text
abbrev pub index_or_end : List ℕ → ℕ → ℕ → ℕ
index_or_end indices end i = unwrap_or (slice_get indices i) end

-- the index in the text of the i-th counted item
abbrev pub counted_index : List Item → ℕ → ℕ
counted_index xs i = index_or_end (counted_indices_from 0 xs) (length xs) i

-- the items with the bytes of their syllables, each of which reaches up to the first counted item of the next
abbrev pub universal_set : (hb_ot_script_shaper_t → List ℕ → ℕ → ℕ × ℕ) → Stage
universal_set span_of v =
    bytes_of UNIVERSAL_SHAPER (counted_index v.items) (syllables (span_of UNIVERSAL_SHAPER (categories_counted v.items)) (length (categories_counted v.items))) v
