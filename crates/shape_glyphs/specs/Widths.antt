-- The positions of invisible glyphs.
use Rattle.std.specs.Prelude.{pos, ◌||◌, Bool, if◌then◌else◌, []}
use Rattle.buffer_common.specs.declared.constants.BufferFlags.{BufferFlags}
use Rattle.buffer_glyphs.specs.Items.{Item, Position}
use Rattle.buffer_core.specs.Readings.{View, Read, with_events}
use Rattle.buffer_glyphs.specs.PropertyWords.{is_default_ignorable}
use Rattle.buffer_stages.specs.PositionMaps.{with_positions_mapped}
use Rattle.shape_glyphs.specs.Ignorables.{preserves_ignorables, removes_ignorables}

-- a position with zero advances and offsets and its own link
abbrev pub widthless : Position → Position
widthless p = record p { x_advance = pos 0; y_advance = pos 0; x_offset = pos 0; y_offset = pos 0 }

-- the position of an item, zeroed if it is a default ignorable
abbrev pub ignorable_position : Item → Position → Position
ignorable_position x p = if is_default_ignorable x then widthless p else p

-- the positions of default ignorables are kept: PRESERVE or REMOVE is set
abbrev pub keeps_widths : BufferFlags → Bool
keeps_widths flags = preserves_ignorables flags || removes_ignorables flags

-- the view with the positions of default ignorables zeroed (HarfBuzz: hb_ot_zero_width_default_ignorables)
abbrev pub zero_widths : BufferFlags → View → Read
zero_widths flags v = if keeps_widths flags then with_events [] v else with_positions_mapped ignorable_position v
