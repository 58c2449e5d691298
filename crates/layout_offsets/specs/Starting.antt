-- Positions before positioning.
use Rattle.std.specs.Prelude.{pos, [], map}
use Rattle.buffer_glyphs.specs.Items.{Position}
use Rattle.buffer_core.specs.Readings.{View, Read, with_events}

-- a position without a link
abbrev pub unattached_position : Position → Position
unattached_position p = record p { attach_chain = pos 0; attach_type = 0 }

-- all links cleared (`position_start`)
abbrev pub links_cleared : View → Read
links_cleared v = with_events [] (record v { positions = map unattached_position v.positions })
