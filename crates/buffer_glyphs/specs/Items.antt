-- Items: glyphs without their clusters and glyph flags.
use Rattle.std.specs.Prelude.{ℕ, pos, ◌-◌, List, map}
use Rattle.std.specs.Int.RustNames.{bit_and}
use Rattle.buffer_glyphs.specs.declared.info.hb_glyph_info_t.{hb_glyph_info_t}
use Rattle.buffer_glyphs.specs.declared.position.GlyphPosition.{GlyphPosition}

-- the fields of a glyph that shaping reads: all except its cluster and the three glyph flags
pub record Item : Type 0 where
  pub number : ℕ
  pub glyph_index : ℕ
  pub unicode_props : ℕ
  pub class : ℕ
  pub glyph_props : ℕ
  pub lig_props : ℕ
  pub syllable : ℕ
  pub category : ℕ
  pub auxiliary : ℕ
  pub mask : ℕ

-- the mask without the three glyph flags
abbrev pub without_flags : ℕ → ℕ
without_flags m = m - bit_and m 7

-- a glyph with another mask
abbrev pub glyph_masked : ℕ → hb_glyph_info_t → hb_glyph_info_t
glyph_masked m g = record g { mask = m }

-- an item with another mask, without the glyph flags
abbrev pub item_masked : ℕ → Item → Item
item_masked m x = record x { mask = without_flags m }

-- the item of a glyph
abbrev pub item_of : hb_glyph_info_t → Item
item_of g = record {
  number = g.glyph_id;
  glyph_index = g.glyph_index;
  unicode_props = g.unicode_props.0;
  class = g.modified_combining_class;
  glyph_props = g.glyph_props.0;
  lig_props = g.lig_props;
  syllable = g.syllable;
  category = g.category;
  auxiliary = g.auxiliary;
  mask = without_flags g.mask;
}

-- the items of a list of glyphs
abbrev pub strip : List hb_glyph_info_t → List Item
strip gs = map item_of gs

-- the cluster numbers of a list of glyphs
abbrev pub clusters : List hb_glyph_info_t → List ℕ
clusters gs = map (λ (g : hb_glyph_info_t). g.cluster) gs

-- the three glyph flags of a glyph
abbrev pub glyph_flags : hb_glyph_info_t → ℕ
glyph_flags g = bit_and g.mask 7

-- the glyph flags of a list of glyphs
abbrev pub flags_of : List hb_glyph_info_t → List ℕ
flags_of gs = map glyph_flags gs

-- the position of a glyph: two advances and two offsets in font units, and its link to another glyph
abbrev pub Position : Type 0
Position = GlyphPosition

-- no advances, no offsets, no link
abbrev pub zero_position : Position
zero_position = record { x_advance = pos 0; y_advance = pos 0; x_offset = pos 0; y_offset = pos 0; attach_chain = pos 0; attach_type = 0 }
