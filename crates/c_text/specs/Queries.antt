-- What a font says of itself, and of the glyphs of its last text.
use Rattle.std.specs.Prelude.{ℕ, ℤ, pos, neg_ℤ, ◌≡◌, ◌==◌, ◌⊎◌, nat_lt, true, false, if◌then◌else◌, List, [], map, length, Option, Some, None}
use Rattle.std.specs.Option.{option_map, option_map_or}
use Rattle.std.specs.Str.{is_utf8}
use lib.Utf8.{scalar}
use Rattle.buffer_core.specs.Sides.{Sides, all_glyphs}
use Rattle.buffer_glyphs.specs.declared.names.hb_glyph_extents_t.{hb_glyph_extents_t}
use Rattle.buffer_glyphs.specs.Items.{clusters}
use Rattle.layout_common.specs.Rows.{value_of}
use Rattle.layout_face.specs.declared.parts.FaceParts.{FaceParts}
use Rattle.layout_face.specs.Glyphs.{height_of, name_of, nominal_glyph, width_of}
use Rattle.layout_tables.specs.Layout.{LayoutLists}
use Rattle.shape_slices.specs.declared.slices.SourceSlice.{SourceSlice}
use Rattle.shape_slices.specs.Fitting.{SlicesFit}
use Rattle.shape_slices.specs.Runs.{AreSourceSlices}
use Rattle.c_text.specs.declared.types.kus_line_metrics_t.{kus_line_metrics_t}
use Rattle.c_text.specs.declared.types.kus_slice_t.{kus_slice_t}
use Rattle.c_text.specs.Written.{feature_tag, line_metrics_of, script_tag, slice_of, with_front}
use Rattle.font_carets.specs.Rows.{glyph_carets}
use Rattle.c_text.specs.Fonts.{KeptFont}

-- ---- fonts

-- the units of a font's em, 0 where there is no font
abbrev pub upem_in : Option KeptFont → ℕ
upem_in font = option_map_or (λ (f : KeptFont). f.input.face.upem) font 0

-- the height of a font's ascender (OpenType, tables OS/2 and hhea), 0 where the font gives none or there is no font
abbrev pub ascender_in : Option KeptFont → ℤ
ascender_in font = option_map_or (λ (f : KeptFont). f.input.face.ascender) font (pos 0)

-- the metrics of a font's lines (OpenType, tables hhea and OS/2), none where it was read from JSON or there is no font
abbrev pub line_metrics_in : Option KeptFont → Option kus_line_metrics_t
line_metrics_in None = None
line_metrics_in (Some f) = option_map line_metrics_of f.line

-- the glyph that a font has for a character (OpenType, table cmap); none where the number is no character
abbrev pub glyph_in : Option KeptFont → ℕ → Option ℕ
glyph_in None c = None
glyph_in (Some f) c = if scalar c then nominal_glyph c f.input.face else None

-- the name that a font has for a glyph (OpenType, table post), empty where it has none
abbrev pub name_in : Option KeptFont → ℕ → List ℕ
name_in None glyph = []
name_in (Some f) glyph = if nat_lt glyph 0x1_0000 then option_map_or (λ (name : List ℕ). name) (name_of glyph f.input.face) [] else []

-- the box that a font has for a glyph's ink
abbrev pub extents_in : Option KeptFont → ℕ → Option hb_glyph_extents_t
extents_in None glyph = None
extents_in (Some f) glyph = if nat_lt glyph 0x1_0000 then value_of glyph f.input.face.extents else None

-- the advance of a glyph in a horizontal line (OpenType, table hmtx), 0 where there is no font or no glyph has the number
abbrev pub h_advance_in : Option KeptFont → ℕ → ℤ
h_advance_in None glyph = pos 0
h_advance_in (Some f) glyph = if nat_lt glyph 0x1_0000 then pos (width_of glyph f.input.face) else pos 0

-- the advance of a glyph in a vertical line (OpenType, table vmtx), at most 0; 0 where there is no font or no glyph has the
-- number
abbrev pub v_advance_in : Option KeptFont → ℕ → ℤ
v_advance_in None glyph = pos 0
v_advance_in (Some f) glyph = if nat_lt glyph 0x1_0000 then neg_ℤ (pos (height_of glyph f.input.face)) else pos 0

-- the carets of a ligature (OpenType, table GDEF), in font units; none where the font's file gives none
abbrev pub carets_in : Option KeptFont → ℕ → List ℤ
carets_in None glyph = []
carets_in (Some f) glyph = glyph_carets f.ligatures glyph

-- the lists of the layout table that a tag names: GSUB or GPOS
abbrev pub layout_in : FaceParts → ℕ → Option LayoutLists
layout_in face table =
    if table == 0x4753_5542 then option_map (λ t. t.inner) face.gsub
    else if table == 0x4750_4F53 then option_map (λ t. t.inner) face.gpos
    else None

-- the tags of a layout table's features, in the order of their indices; a tag may stand in it more than once
abbrev pub feature_tags : Option LayoutLists → List ℕ
feature_tags layout = option_map_or (λ (l : LayoutLists). map feature_tag l.features) layout []

-- the tags of a layout table's scripts, which rise
abbrev pub script_tags : Option LayoutLists → List ℕ
script_tags layout = option_map_or (λ (l : LayoutLists). map script_tag l.scripts) layout []

-- the tags of the features of a font's layout table, none without a font
abbrev pub feature_tags_in : Option KeptFont → ℕ → List ℕ
feature_tags_in None table = []
feature_tags_in (Some f) table = feature_tags (layout_in f.input.face table)

-- the tags of the scripts of a font's layout table, none without a font
abbrev pub script_tags_in : Option KeptFont → ℕ → List ℕ
script_tags_in None table = []
script_tags_in (Some f) table = script_tags (layout_in f.input.face table)

-- ---- slices

-- each run of glyphs of one cluster with its bytes of a text: there are `count`, and as many as there is room for are written
pub record AreSlicesOf (glyphs : Sides) (text : List ℕ) (room now : List kus_slice_t) (count : ℕ) : Type 0 where
  pub utf8 : is_utf8 text ≡ true
  pub fit : SlicesFit glyphs text
  pub slices : List SourceSlice
  pub are : AreSourceSlices (clusters (all_glyphs glyphs)) (length text) slices
  pub all : count ≡ length slices
  pub written : now ≡ with_front (map slice_of slices) room

-- the number of why glyphs have no slices: a text that is not UTF-8, or one that the glyphs don't fit
abbrev pub IsSlicesRefusal : Sides → List ℕ → ℕ → Type 0
IsSlicesRefusal glyphs text number =
    ((number ≡ 10) × (is_utf8 text ≡ false)) ⊎ ((number ≡ 18) × (is_utf8 text ≡ true) × (¬ SlicesFit glyphs text))

-- the number of why there are no slices: no font, or what the font's glyphs have
abbrev pub IsSlicesFault : Option KeptFont → List ℕ → ℕ → Type 0
IsSlicesFault None text number = number ≡ 16
IsSlicesFault (Some f) text number = IsSlicesRefusal f.glyphs text number
