-- Marks whose advances are zeroed.
use Rattle.std.specs.Prelude.{Bool, if◌then◌else◌}
use Rattle.buffer_glyphs.specs.Items.{Item, Position}
use Rattle.buffer_core.specs.Readings.{View, Read}
use Rattle.buffer_glyphs.specs.LigatureWords.{is_mark}
pub use Rattle.layout_offsets.specs.Zeroing.{zeroed_position}
use Rattle.buffer_stages.specs.PositionMaps.{with_positions_mapped}

-- the position of an item, zeroed if its glyph is of class MARK
abbrev pub mark_zeroed : Bool → Item → Position → Position
mark_zeroed adjust x p = if is_mark x then zeroed_position adjust p else p

-- the view with the advances of marks zeroed (HarfBuzz: zero_mark_widths_by_gdef)
abbrev pub with_marks_zeroed : Bool → View → Read
with_marks_zeroed adjust v = with_positions_mapped (mark_zeroed adjust) v
