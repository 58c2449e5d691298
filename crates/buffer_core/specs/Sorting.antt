-- A range of glyphs in the order of a key.
use Rattle.std.specs.Prelude.{ℕ}
use Rattle.buffer_glyphs.specs.declared.info.hb_glyph_info_t.{hb_glyph_info_t}
use Rattle.buffer_lists.specs.Sorting.{SpanMerge, range_sorted}
use Rattle.buffer_core.specs.Merging.{with_has_glyph_flags, with_glyphs}
use Rattle.buffer_core.specs.Sides.{Sides, all_glyphs}

-- the buffer with the glyphs of a sort, and the scratch flag of its merges
abbrev pub with_spanned : SpanMerge → Sides → Sides
with_spanned t s = record (with_glyphs t.glyphs s) { scratch_flags = with_has_glyph_flags t.is_marked s.scratch_flags }

-- a range of all glyphs sorted stably by key, with each smallest span that the order permutes merged; positions stay
abbrev pub with_range_sorted : ℕ → ℕ → (hb_glyph_info_t → ℕ) → Sides → Sides
with_range_sorted start end k s = with_spanned (range_sorted s.level start end k (all_glyphs s)) s
