-- Characters as glyphs, and the glyph classes of fonts without GDEF classes.
use Rattle.std.specs.Prelude.{ℕ, ◌&&◌, not, nat_le, if◌then◌else◌}
use Rattle.buffer_glyphs.specs.Items.{Item}
use Rattle.buffer_core.specs.Readings.{View, Read}
use Rattle.buffer_glyphs.specs.PropertyWords.{is_default_ignorable}
use Rattle.buffer_properties.specs.Categories.{is_nonspacing_mark}
use Rattle.buffer_stages.specs.Stages.{with_items_mapped}

-- a glyph number, 0 in place of one above 65,535
abbrev pub glyph_or_missing : ℕ → ℕ
glyph_or_missing n = if nat_le n 65535 then n else 0

-- an item with the glyph chosen for its character
abbrev pub as_glyph : Item → Item
as_glyph x = record x { number = glyph_or_missing x.glyph_index }

-- the view with glyphs in place of characters (HarfBuzz: hb_ot_map_glyphs_fast)
abbrev pub with_glyphs : View → Read
with_glyphs v = with_items_mapped as_glyph v

-- the glyph class by the character: mark for a nonspacing mark that is no default ignorable, which lookups must not
-- skip as a mark; else base
abbrev pub synthesized_class : Item → ℕ
synthesized_class x = if is_nonspacing_mark x && not (is_default_ignorable x) then 8 else 2

-- an item with its synthesized class
abbrev pub item_with_synthesized_class : Item → Item
item_with_synthesized_class x = record x { glyph_props = synthesized_class x }

-- the view with synthesized classes (HarfBuzz: hb_synthesize_glyph_classes)
abbrev pub with_synthesized_classes : View → Read
with_synthesized_classes v = with_items_mapped item_with_synthesized_class v
