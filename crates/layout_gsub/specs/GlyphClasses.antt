-- Classes of glyphs before the first lookup (OpenType, GDEF).
use Rattle.std.specs.Prelude.{ℕ, nat_le, if◌then◌else◌}
use Rattle.layout_face.specs.declared.parts.FaceParts.{FaceParts}
use Rattle.layout_gsub.specs.Replacements.{glyph_props_of}
use Rattle.buffer_glyphs.specs.Items.{Item}
use Rattle.buffer_core.specs.Readings.{View, Read}
use Rattle.buffer_stages.specs.Stages.{with_items_mapped}

-- the glyph properties of a number by GDEF, 0 where it is above 65,535
abbrev pub first_props : FaceParts → ℕ → ℕ
first_props font n = if nat_le n 65535 then glyph_props_of font.gdef n else 0

-- an item with its GDEF class and no ligature word
abbrev pub item_with_font_class : FaceParts → Item → Item
item_with_font_class font x = record x { glyph_props = first_props font x.number; lig_props = 0 }

-- the view with GDEF classes (HarfBuzz: hb_ot_layout_substitute_start)
abbrev pub with_font_classes : FaceParts → View → Read
with_font_classes font v = with_items_mapped (item_with_font_class font) v
