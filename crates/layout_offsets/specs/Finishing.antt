-- The links of a buffer followed.
use Rattle.std.specs.Prelude.{ℕ, ◌==◌, Bool, true, false, not, [], bit_and}
use Rattle.buffer_core.specs.Readings.{View, Read, with_events}
use Rattle.layout_offsets.specs.FollowedLinks.{finished_positions}

-- whether glyphs were attached to others (scratch flag HAS_GPOS_ATTACHMENT)
abbrev pub has_attachments : ℕ → Bool
has_attachments scratch_flags = not (bit_and scratch_flags 8 == 0)

-- all glyphs drawn from where their links lead
abbrev pub all_drawn : View → Read
all_drawn v = with_events [] (record v { positions = finished_positions v.direction v.positions })

-- all glyphs drawn so, where there are links
abbrev pub all_drawn_if : Bool → View → Read
all_drawn_if true v = all_drawn v
all_drawn_if false v = with_events [] v

-- all glyphs drawn so, where glyphs were attached to others (`position_finish_offsets`)
abbrev pub links_followed : View → Read
links_followed v = all_drawn_if (has_attachments v.scratch_flags) v
