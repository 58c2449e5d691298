-- What a call that walks an open buffer outputs.
use Rattle.std.specs.Prelude.{ℕ, ◌≡◌, ◌≢◌, ◌<◌, ◌+◌, ◌++◌, false, List, [], length, map, nat_le, if◌then◌else◌, Ok, Err}
use Rattle.buffer_glyphs.specs.declared.cause.ShapeCause.{ShapeCause}
use Rattle.buffer_glyphs.specs.declared.cause.ShapeCause.TheVariants.{OutOfMemory, TooLong}
use Rattle.buffer_core.specs.Readings.{View, Read, Reading, with_events}
use Rattle.buffer_glyphs.specs.Items.{Item, strip}
use Rattle.buffer_glyphs.specs.Origins.{origins}
use Rattle.buffer_glyphs.specs.Events.{origins_after}
use Rattle.buffer_core.specs.Sides.{Sides, all_glyphs, flag_requests_of, stage_flags, zero_positions}
use Rattle.buffer_glyphs.specs.Rewriting.{Arrangement, shifted_event}

-- a buffer without its glyphs, the number of those read, and whether the output is apart
abbrev pub frame_of : Sides → Sides
frame_of s = record s { behind = []; ahead = []; is_apart = false; read = 0; scratch_flags = stage_flags s.scratch_flags }

-- a call appended an arrangement behind the cursor, and the rest is ahead of it
pub record AppendsArrangement (a : Arrangement) (rest : List Item) (old new : Sides) : Type 0 where
  pub behind : strip new.behind ≡ strip old.behind ++ a.items
  pub ahead : strip new.ahead ≡ rest
  pub happened : origins (all_glyphs new) ≡ origins_after (flag_requests_of old) old.level (map (shifted_event (length old.behind)) a.events) (origins (all_glyphs old))
  pub frame : frame_of new ≡ frame_of old

-- a call refuses for want of memory, or since n more items do not fit behind the cursor
abbrev pub RefusesRoomFor : ℕ → ShapeCause → Sides → Type 0
RefusesRoomFor n e old = e ≢ OutOfMemory → (e ≡ TooLong) × (old.max_len < length old.behind + n)

-- the reading of an arrangement: its items at zero positions, and its events
abbrev pub with_arranged : Arrangement → View → Read
with_arranged a v = with_events a.events (record v { items = a.items; positions = zero_positions (length a.items) })

-- a reading that refuses where a list on the way to it has more than `max_len` items
abbrev pub within_limit : ℕ → View → Read → Reading
within_limit n v r = if nat_le n v.max_len then Ok r else Err TooLong
