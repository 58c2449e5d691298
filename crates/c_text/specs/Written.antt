-- What C reads.
use Rattle.std.specs.Prelude.{ℕ, List, ◌++◌, bit_and, drop, length, take}
use Rattle.buffer_glyphs.specs.declared.info.hb_glyph_info_t.{hb_glyph_info_t}
use Rattle.buffer_glyphs.specs.declared.names.hb_glyph_extents_t.{hb_glyph_extents_t}
use Rattle.buffer_glyphs.specs.Items.{Position}
use Rattle.layout_tables.specs.Layout.{FeatureTable, ScriptTable}
use Rattle.shape_slices.specs.declared.slices.SourceSlice.{SourceSlice}
use Rattle.c_text.specs.declared.types.kus_glyph_info_t.{kus_glyph_info_t}
use Rattle.c_text.specs.declared.types.kus_glyph_extents_t.{kus_glyph_extents_t}
use Rattle.c_text.specs.declared.types.kus_glyph_position_t.{kus_glyph_position_t}
use Rattle.c_text.specs.declared.line_spacing.LineSpacing.{LineSpacing}
use Rattle.c_text.specs.declared.types.kus_line_metrics_t.{kus_line_metrics_t}
use Rattle.c_text.specs.declared.types.kus_slice_t.{kus_slice_t}

-- a glyph, with its three glyph flags as its mask
abbrev pub info_of : hb_glyph_info_t → kus_glyph_info_t
info_of g = record { codepoint = g.glyph_id; mask = bit_and g.mask 7; cluster = g.cluster; var1 = 0; var2 = 0 }

-- a glyph's position, without the link to the glyph that it is attached to
abbrev pub position_of : Position → kus_glyph_position_t
position_of p = record { x_advance = p.x_advance; y_advance = p.y_advance; x_offset = p.x_offset; y_offset = p.y_offset; var = 0 }

-- a run of glyphs with its bytes of the text
abbrev pub slice_of : SourceSlice → kus_slice_t
slice_of s = record { first_glyph = s.first_glyph; end_glyph = s.end_glyph; start = s.start; end = s.end }

-- the box of a glyph's ink
abbrev pub extents_of : hb_glyph_extents_t → kus_glyph_extents_t
extents_of e = record { x_bearing = e.x_bearing; y_bearing = e.y_bearing; width = e.width; height = e.height }

-- the metrics of a line
abbrev pub line_metrics_of : LineSpacing → kus_line_metrics_t
line_metrics_of l = record { ascender = l.ascender; descender = l.descender; line_gap = l.line_gap }

-- the number of a feature's tag
abbrev pub feature_tag : FeatureTable → ℕ
feature_tag f = f.tag.0

-- the number of a script's tag
abbrev pub script_tag : ScriptTable → ℕ
script_tag s = s.tag.0

-- an array with as many of the items as it has room for at its front
abbrev pub with_front : {A : Type 0} → List A → List A → List A
with_front xs room = take (length room) xs ++ drop (length xs) room
