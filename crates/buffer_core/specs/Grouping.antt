-- The order of groups reversed, and the glyphs that a test picks deleted.
use Rattle.std.specs.Prelude.{ℕ, zero, suc, ◌+◌, Bool, if◌then◌else◌, List, [], ◌∷◌, min, length}
use Rattle.buffer_glyphs.specs.declared.info.hb_glyph_info_t.{hb_glyph_info_t}
use Rattle.buffer_glyphs.specs.Items.{clusters}
use Rattle.buffer_glyphs.specs.Deleting.{DeletionSides, glyphs_deleted, deletion_marks}
use Rattle.buffer_lists.specs.Turning.{Turning, turning_of}
use Rattle.buffer_lists.specs.DeletionWalk.{DeletionState, whole_walk}
use Rattle.buffer_core.specs.Merging.{with_handed_on, with_has_glyph_flags}
use Rattle.buffer_core.specs.Sides.{Sides, all_glyphs, requests_breaks, after_next_glyphs, with_list}

-- the buffer with the glyphs and positions of a reversal of groups, and the scratch flag of its merges
abbrev pub with_group_reversal : Turning → Sides → Sides
with_group_reversal t s = record (with_list t.glyphs t.positions s) { scratch_flags = with_has_glyph_flags t.is_marked s.scratch_flags }

-- the order of the groups reversed, each merged before where `merge` is set (`reverse_groups`)
abbrev pub with_groups_reversed : Bool → (hb_glyph_info_t → hb_glyph_info_t → Bool) → Sides → Sides
with_groups_reversed merge joins s = with_group_reversal (turning_of merge s.level joins (all_glyphs s) s.positions) s

-- what is left after a walk of deletions, with the cursor at most after the last glyph
abbrev pub with_passed : DeletionState → Sides → Sides
with_passed t s = record (with_list t.kept t.kept_positions (record s { read = min s.read (length t.kept) })) { scratch_flags = with_has_glyph_flags t.is_marked s.scratch_flags }

-- the glyphs that a test picks deleted, from the left (`delete_glyphs_inplace`)
abbrev pub with_picked_deleted : (hb_glyph_info_t → Bool) → Sides → Sides
with_picked_deleted goes s = with_passed (whole_walk (requests_breaks s) s.level goes (all_glyphs s) s.positions) s

-- the sides that a deletion leaves, with one more glyph read
abbrev pub with_left : DeletionSides → Bool → Sides → Sides
with_left l any s = record s { behind = l.front; ahead = l.back; read = s.read + 1; scratch_flags = with_has_glyph_flags any s.scratch_flags }

-- the glyph at the cursor deleted from between those behind it and the others ahead
abbrev pub with_current_deleted : hb_glyph_info_t → List hb_glyph_info_t → Sides → Sides
with_current_deleted g back s = with_left (glyphs_deleted s.level s.behind g back) (deletion_marks s.level (clusters s.behind) g.cluster (clusters back)) s

-- the glyph at the cursor deleted so, and its flags handed on (`delete_glyph`)
abbrev pub with_deleted : hb_glyph_info_t → List hb_glyph_info_t → Sides → Sides
with_deleted g back s = with_handed_on (g ∷ []) (with_current_deleted g back s)

-- the glyph at the cursor deleted where a test picks it, as by `delete_glyph`; else the cursor moves over it, as by
-- `next_glyph`
abbrev pub picked_or_passed : (hb_glyph_info_t → Bool) → List hb_glyph_info_t → Sides → Sides
picked_or_passed goes [] s = s
picked_or_passed goes (g ∷ back) s = if goes g then with_deleted g back s else after_next_glyphs 1 s

-- `picked_or_passed` for n glyphs, one after another
abbrev pub after_walk : (hb_glyph_info_t → Bool) → ℕ → Sides → Sides
after_walk goes zero s = s
after_walk goes (suc n) s = after_walk goes n (picked_or_passed goes s.ahead s)
