-- Positions without advances.
use Rattle.std.specs.Prelude.{pos, Bool, if◌then◌else◌}
use Rattle.buffer_glyphs.specs.Items.{Position}
use Rattle.layout_offsets.specs.Sums.{minus}

-- a position with its advances subtracted from its offsets
abbrev pub position_set_back : Position → Position
position_set_back p = record p { x_offset = minus p.x_offset p.x_advance; y_offset = minus p.y_offset p.y_advance }

-- a position without its advances
abbrev pub without_advances : Position → Position
without_advances p = record p { x_advance = pos 0; y_advance = pos 0 }

-- a position without its advances, which are subtracted from its offsets where that is requested
abbrev pub zeroed_position : Bool → Position → Position
zeroed_position adjust p = without_advances (if adjust then position_set_back p else p)
