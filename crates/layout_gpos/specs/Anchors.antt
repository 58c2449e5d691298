-- Glyphs attached to others by anchors, on a list of positions.
use Rattle.std.specs.Prelude.{ℕ, ℤ, ◌-ℤ◌, if◌then◌else◌, List, Bool, set}
use Rattle.std.specs.Int.RustNames.{bit_or}
use Rattle.buffer_glyphs.specs.Items.{Position}
use Rattle.layout_tables.specs.declared.value.Anchor.{Anchor}
use Rattle.layout_offsets.specs.Links.{position_at, is_near, link_to}

-- a mark whose anchor is on that of its base, both seen from where their glyphs are drawn
abbrev pub anchored_position : Anchor → Anchor → ℤ → Position → Position
anchored_position base mark link p = record p { x_offset = base.x -ℤ mark.x; y_offset = base.y -ℤ mark.y; attach_chain = link; attach_type = 1 }

-- a mark attached to its base where that is near enough
abbrev pub with_mark_attached : ℕ → ℕ → Anchor → Anchor → List Position → List Position
with_mark_attached at base base_anchor mark_anchor ps = if is_near at base then set ps at (anchored_position base_anchor mark_anchor (link_to at base) (position_at at ps)) else ps

-- scratch flags, with HAS_GPOS_ATTACHMENT set where a glyph was attached
abbrev pub with_attachment_flag : Bool → ℕ → ℕ
with_attachment_flag near scratch_flags = if near then bit_or scratch_flags 8 else scratch_flags
