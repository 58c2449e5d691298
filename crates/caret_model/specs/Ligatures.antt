-- The carets that a font gives inside of runs of glyphs (OpenType, GDEF, ligature caret list table).
use Rattle.std.specs.Prelude.{ℕ, ℤ, ◌==◌, ◌&&◌, nat_le, if◌then◌else◌, List, [], ◌∷◌, length, Option, Some, None, slice_range}
use Rattle.font_carets.specs.declared.rows.LigatureCarets.{LigatureCarets}
use Rattle.font_carets.specs.Rows.{glyph_carets}
use Rattle.kuspveli.specs.buffer_glyphs.declared.info.hb_glyph_info_t.{hb_glyph_info_t}
use Rattle.kuspveli.specs.shape_slices.declared.slices.SourceSlice.{SourceSlice}

-- the coordinates of the first glyph that has any: of a ligature with its marks those of the ligature
abbrev pub first_carets : List LigatureCarets → List hb_glyph_info_t → List ℤ
first_carets ligatures [] = []
first_carets ligatures (g ∷ gs) = if length (glyph_carets ligatures g.glyph_id) == 0 then first_carets ligatures gs else glyph_carets ligatures g.glyph_id

-- the glyphs of a run, none where the run is not within the glyphs
abbrev pub run_glyphs : List hb_glyph_info_t → SourceSlice → List hb_glyph_info_t
run_glyphs gs s = if nat_le s.first_glyph s.end_glyph && nat_le s.end_glyph (length gs) then slice_range gs s.first_glyph s.end_glyph else []

-- the coordinates that a font gives for a run, none without a run
abbrev pub run_carets : List LigatureCarets → List hb_glyph_info_t → Option SourceSlice → List ℤ
run_carets ligatures gs None = []
run_carets ligatures gs (Some s) = first_carets ligatures (run_glyphs gs s)
