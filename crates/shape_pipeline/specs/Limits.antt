-- The limits of a text's growth during shaping.
use Rattle.std.specs.Prelude.{pos, max, length, []}
use Rattle.buffer_common.specs.declared.direction.Direction.{Direction}
use Rattle.buffer_core.specs.Readings.{View, Read, with_events}
use Rattle.buffer_core.specs.Settings.{length_limit, steps_limit}

-- the view at the start of shaping: the limits of glyphs and of nested lookups are set by the number of characters; no
-- ligature has a number, and no scratch flag is set
abbrev pub initial_view : View → Read
initial_view v = with_events [] (record v { max_len = length_limit (length v.items) v.max_len; max_ops = steps_limit (length v.items) v.max_ops; lig_id = 0; scratch_flags = 0 })

-- the limits are as at first, but never less than what is held, and no ligature has a number
abbrev pub with_first_limits : View → View
with_first_limits v = record v { max_len = max 0x3FFF_FFFF (length v.items); max_ops = pos 0x1FFF_FFFF; lig_id = 0 }

-- shaping ends: the direction is again that of the line, and the limits are as at first
abbrev pub final_view : Direction → View → Read
final_view direction v = with_events [] (record (with_first_limits v) { direction = direction })

-- the reading of a text without characters: the view stays as it is, but for the limits, which are as at first
abbrev pub unshaped_text : View → Read
unshaped_text v = with_events [] (with_first_limits v)
