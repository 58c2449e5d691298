-- The glyphs of a reading, as they are printed.
use Rattle.std.specs.Prelude.{◌+◌, List, [], ◌∷◌}
use Rattle.buffer_glyphs.specs.declared.info.hb_glyph_info_t.{hb_glyph_info_t}
use Rattle.buffer_glyphs.specs.Items.{Item}
use Rattle.buffer_glyphs.specs.Origins.{Origin}

-- the glyph record of an item, with the cluster and the glyph flags of its origin
abbrev pub glyph_of : Item → Origin → hb_glyph_info_t
glyph_of x o = record {
  glyph_id = x.number;
  mask = x.mask + o.flags;
  cluster = o.cluster;
  glyph_index = x.glyph_index;
  unicode_props = record { 0 = x.unicode_props };
  modified_combining_class = x.class;
  glyph_props = record { 0 = x.glyph_props };
  lig_props = x.lig_props;
  syllable = x.syllable;
  category = x.category;
  auxiliary = x.auxiliary;
}

-- the glyph records of items, with their origins
abbrev pub glyphs_of : List Item → List Origin → List hb_glyph_info_t
glyphs_of [] os = []
glyphs_of (x ∷ xs) [] = []
glyphs_of (x ∷ xs) (o ∷ os) = glyph_of x o ∷ glyphs_of xs os
