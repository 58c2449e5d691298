-- What holds of all buffers.
use Rattle.std.specs.Prelude.{◌≡◌, Bool, List, length}
use Rattle.buffer_glyphs.specs.declared.info.hb_glyph_info_t.{hb_glyph_info_t}
use Rattle.buffer_core.specs.Grouping.{after_walk, with_picked_deleted}
use Rattle.buffer_core.specs.Lending.{with_output_refilled}
use Rattle.buffer_core.specs.Sides.{Sides, all_glyphs, after_reverse, with_output}

-- two reversals give the buffer back; with no output open, as many glyphs were read as are behind the cursor
abbrev pub ReverseTwice : Type 0
ReverseTwice = (s : Sides) → s.read ≡ length s.behind → after_reverse (after_reverse s) ≡ s

-- `delete_glyphs_inplace` leaves the glyphs and the scratch flags that the walk over an open output leaves
abbrev pub DeletesAsWalk : Type 0
DeletesAsWalk = (goes : hb_glyph_info_t → Bool) (s : Sides) → let walked = after_walk goes (length (all_glyphs s)) (with_output s) in
    (all_glyphs (with_picked_deleted goes s) ≡ all_glyphs walked) × ((with_picked_deleted goes s).scratch_flags ≡ walked.scratch_flags)

-- as many glyphs as `out_info_mut` lent come back to the same indices, and nothing else changes
abbrev pub OutputComesBack : Type 0
OutputComesBack = (s : Sides) (gs : List hb_glyph_info_t) → length gs ≡ length s.behind → with_output_refilled gs s ≡ record s { behind = gs }
