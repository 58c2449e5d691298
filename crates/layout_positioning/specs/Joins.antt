-- Cursive attachment at a cut (OpenType, GPOS lookup type 3): the exit of the item before at the entry of the item at
-- the cut.
use Rattle.std.specs.Prelude.{ℕ, ◌+◌, ◌-◌, List, [], length, Option, Some, None, option_and_then}
use Rattle.buffer_common.specs.declared.direction.Direction.{Direction}
use Rattle.buffer_glyphs.specs.Items.{Item}
use Rattle.buffer_glyphs.specs.Parts.{first_of}
use Rattle.layout_common.specs.Rows.{value_of}
use Rattle.layout_common.specs.declared.glyph_row.GlyphRow.{GlyphRow}
use Rattle.layout_tables.specs.declared.cursive.EntryExit.{EntryExit}
use Rattle.layout_tables.specs.declared.value.Anchor.{Anchor}
use Rattle.layout_match.specs.Applied.{ApplyContext}
use Rattle.buffer_stages.specs.Actions.{Action, Passes, Acts, at_first, attempt_around}
use Rattle.layout_gpos.specs.Anchors.{with_attachment_flag}
use Rattle.layout_offsets.specs.Links.{is_near}
use Rattle.layout_offsets.specs.Cursive.{attaches_earlier, cursive_attachment}
use Rattle.layout_gpos.specs.Marks.{item_before, with_found}
use Rattle.layout_gpos.specs.Moving.{break_around, cut_with_positions}

-- the item at the cut joined to the item with `back` items between, exit on entry
abbrev pub join : Direction → ApplyContext → Anchor → Anchor → ℕ → Action
join d a exit entry back c = Acts (record (cut_with_positions 1 (cursive_attachment d (attaches_earlier a.props) (length c.front - (back + 1)) exit (length c.front) entry c.positions) c) {
  scratch_flags = with_attachment_flag (is_near (length c.front) (length c.front - (back + 1))) c.scratch_flags;
}) (break_around (back + 1) 1 c)

-- the join where the item before has an exit; else the rule fails
abbrev pub join_if : Direction → ApplyContext → Option Anchor → Anchor → ℕ → Action
join_if d a None entry back c = attempt_around (back + 1) 1 c
join_if d a (Some exit) entry back c = join d a exit entry back c

-- the exit anchor of a glyph, if it has one
abbrev pub exit_of : List (GlyphRow EntryExit) → ℕ → Option Anchor
exit_of rows glyph = option_and_then (λ e. e.exit) (value_of glyph rows)

-- the join to the item that the search found, entry given
abbrev pub on_exit : Direction → ApplyContext → List (GlyphRow EntryExit) → Anchor → ℕ → Option Item → Action
on_exit d a rows entry back None c = Passes []
on_exit d a rows entry back (Some x) c = join_if d a (exit_of rows x.number) entry back c

-- the entry anchor of a glyph, if it has one
abbrev pub entry_of : List (GlyphRow EntryExit) → ℕ → Option Anchor
entry_of rows glyph = option_and_then (λ e. e.entry) (value_of glyph rows)

-- the search for the item before, where the item at the cut has an entry
abbrev pub from_entry : Direction → ApplyContext → List (GlyphRow EntryExit) → Option Anchor → Action
from_entry d a rows None c = Passes []
from_entry d a rows (Some entry) c = with_found (on_exit d a rows entry) (item_before a c) c

-- cursive attachment (OpenType, GPOS lookup type 3)
abbrev pub cursive_subtable : Direction → ApplyContext → List (GlyphRow EntryExit) → Action
cursive_subtable d a rows c = at_first (λ x. from_entry d a rows (entry_of rows x.number)) (first_of c.rest) c
