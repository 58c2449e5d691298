-- Variation selectors that the font doesn't combine with the character before them.
use Rattle.std.specs.Prelude.{ℕ, ◌==◌, not, Bool, if◌then◌else◌, [], map, Option, Some, None}
use Rattle.std.specs.Int.RustNames.{bit_and}
use Rattle.ucd_category.specs.declared.GeneralCategory.TheVariants.{NonspacingMark}
use Rattle.buffer_unicode.specs.Category.{category_number}
use Rattle.buffer_properties.specs.Properties.{without_bits}
use Rattle.buffer_glyphs.specs.Items.{Item, Position}
use Rattle.buffer_core.specs.Readings.{View, Read, with_events}
use Rattle.buffer_properties.specs.Characters.{with_category}
use Rattle.buffer_stages.specs.PositionMaps.{positions_mapped}
use Rattle.shape_glyphs.specs.Widths.{widthless}

-- a selector that normalizing recorded: the font has no glyph for it and the character before it
abbrev pub is_recorded_selector : Item → Bool
is_recorded_selector x = not (bit_and x.unicode_props 0x400 == 0)

-- the selector with the set glyph, as a nonspacing mark
abbrev pub shown_selector : ℕ → Item → Item
shown_selector glyph x = if is_recorded_selector x then record x { number = glyph; unicode_props = without_bits 0x400 (with_category (category_number NonspacingMark) x.unicode_props) } else x

-- the position of such a selector: zero
abbrev pub selector_position : Item → Position → Position
selector_position x p = if is_recorded_selector x then widthless p else p

-- the view where recorded selectors have the set glyph and zero positions
abbrev pub with_selectors_shown : ℕ → View → Read
with_selectors_shown glyph v = with_events [] (record v { items = map (shown_selector glyph) v.items; positions = positions_mapped selector_position v.items v.positions })

-- the view where recorded selectors have the set glyph, unchanged where none is set (HarfBuzz:
-- hb_ot_deal_with_variation_selectors)
abbrev pub with_selectors : Option ℕ → View → Read
with_selectors None v = with_events [] v
with_selectors (Some glyph) v = with_selectors_shown glyph v
