-- The characters of a text as glyphs, each with the byte where it begins as its cluster.
use Rattle.std.specs.Prelude.{ℕ, ◌+◌, ◌&&◌, Bool, true, nat_le, List, [], ◌∷◌, length, map}
use Rattle.std.specs.Char.{len_utf8}
use Rattle.std.specs.Str.{chars}
use Rattle.buffer_glyphs.specs.declared.info.hb_glyph_info_t.{hb_glyph_info_t}
use Rattle.buffer_glyphs.specs.Items.{Item, item_of}
use Rattle.buffer_glyphs.specs.Origins.{Origin}
use Rattle.buffer_core.specs.Sides.{Sides, has_room}

-- the glyph of an appended character
abbrev pub added_glyph : ℕ → ℕ → hb_glyph_info_t
added_glyph c k = record {
  glyph_id = c;
  mask = 0;
  cluster = k;
  glyph_index = 0;
  unicode_props = record { 0 = 0 };
  modified_combining_class = 0;
  glyph_props = record { 0 = 0 };
  lig_props = 0;
  syllable = 0;
  category = 0;
  auxiliary = 0;
}

-- the glyphs of characters from a byte on
abbrev pub added_text_from : ℕ → List ℕ → List hb_glyph_info_t
added_text_from at [] = []
added_text_from at (c ∷ cs) = added_glyph c at ∷ added_text_from (at + len_utf8 c) cs

-- the glyphs of the characters of a text
abbrev pub added_text : List ℕ → List hb_glyph_info_t
added_text text = added_text_from 0 (chars text)

-- the items of the characters of a text
abbrev pub text_items : List ℕ → List Item
text_items text = map (λ c. item_of (added_glyph c 0)) (chars text)

-- the byte index of each of some characters from a byte on
abbrev pub offsets_from : ℕ → List ℕ → List ℕ
offsets_from at [] = []
offsets_from at (c ∷ cs) = at ∷ offsets_from (at + len_utf8 c) cs

-- the origin of a glyph of a cluster, without flags
abbrev pub unflagged_origin : ℕ → Origin
unflagged_origin n = record { cluster = n; flags = 0 }

-- the origins of the characters of a text: each in the cluster of its first byte
abbrev pub text_origins : List ℕ → List Origin
text_origins text = map unflagged_origin (offsets_from 0 (chars text))

-- whether each character from a byte on begins at a byte whose index fits 32 bits
abbrev pub offsets_fit : ℕ → List ℕ → Bool
offsets_fit at [] = true
offsets_fit at (c ∷ cs) = nat_le at 0xFFFF_FFFF && offsets_fit (at + len_utf8 c) cs

-- whether a text may be appended to the glyphs of a buffer
abbrev pub fits_text : List ℕ → Sides → Bool
fits_text text s = has_room (length (chars text)) s && offsets_fit 0 (chars text)
