-- Masks of glyphs.
use Rattle.std.specs.Prelude.{ℕ, ◌-◌, ◌==◌, ◌&&◌, ◌||◌, Bool, nat_le, nat_lt, if◌then◌else◌, List, [], ◌∷◌, bit_and}
use Rattle.std.specs.Int.RustNames.{bit_or}
use Rattle.buffer_glyphs.specs.declared.info.hb_glyph_info_t.{hb_glyph_info_t}
use Rattle.buffer_glyphs.specs.Items.{Item, without_flags}
pub use Rattle.buffer_glyphs.specs.Items.{glyph_masked, item_masked}

-- the bits of a mask under another become those of a value; the other bits stay
abbrev pub bits_set : ℕ → ℕ → ℕ → ℕ
bits_set value under m = bit_or (m - bit_and m under) (bit_and value under)

-- whether a cluster is from `start` up to before `end`; from 0 up to the greatest number every cluster is
abbrev pub is_within : ℕ → ℕ → ℕ → Bool
is_within start end n = (nat_le start n && nat_lt n end) || (start == 0 && end == 0xFFFF_FFFF)

-- a glyph with bits set, where its cluster is in a range
abbrev pub glyph_set : ℕ → ℕ → ℕ → ℕ → hb_glyph_info_t → hb_glyph_info_t
glyph_set value under start end g = if is_within start end g.cluster then record g { mask = bits_set value under g.mask } else g

-- an item with bits set
abbrev pub item_set : ℕ → ℕ → Item → Item
item_set value under x = record x { mask = without_flags (bits_set value under x.mask) }

-- items with bits set, by the clusters of their glyphs
abbrev pub items_set : ℕ → ℕ → ℕ → ℕ → List ℕ → List Item → List Item
items_set value under start end [] xs = xs
items_set value under start end (n ∷ ns) [] = []
items_set value under start end (n ∷ ns) (x ∷ xs) = (if is_within start end n then item_set value under x else x) ∷ items_set value under start end ns xs
