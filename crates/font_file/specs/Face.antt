-- The font with an index of a font file (OpenType, chapter 4).
use Rattle.std.specs.Prelude.{ℕ, ℤ, if◌then◌else◌, List, Option, Some, None, Result, Ok, Err}
use Rattle.buffer_glyphs.specs.declared.names.hb_glyph_extents_t.{hb_glyph_extents_t}
use Rattle.layout_common.specs.declared.glyph_row.GlyphRow.{GlyphRow}
use Rattle.layout_face.specs.Names.{GlyphName}
use Rattle.layout_face.specs.Indices.{indices_fit}
use Rattle.layout_face.specs.declared.parts.FaceParts.{FaceParts}
use Rattle.layout_face.specs.declared.parts.GlyphDefinition.{GlyphDefinition}
use Rattle.layout_face.specs.declared.positioning.PositioningTable.{PositioningTable}
use Rattle.layout_face.specs.declared.substitution.SubstitutionTable.{SubstitutionTable}
use Rattle.font_bytes.specs.declared.fault.TableFault.TheVariants.{Kind}
use Rattle.font_bytes.specs.declared.font_fault.FontFault.{FontFault}
use Rattle.font_bytes.specs.declared.table_names.FontTable.TheVariants.{Hhea, Hmtx, Vhea, Vmtx, Vorg}
use Rattle.font_bytes.specs.Fault.{in_table}
use Rattle.font_bytes.specs.Results.{and_then}
use Rattle.font_metrics.specs.declared.boxes.GlyphBox.{GlyphBox}
use Rattle.font_metrics.specs.Advances.{advance_rows}
use Rattle.font_metrics.specs.Extents.{extent_rows}
use Rattle.font_metrics.specs.Origins.{box_origins, vorg_origins}
use Rattle.font_file.specs.declared.headers.Headers.{Headers}
use Rattle.font_file.specs.declared.parts.FontParts.{FontParts}
use Rattle.font_file.specs.Advances.{bytes_or_none, metrics_in, vertical_rows}
use Rattle.font_file.specs.Characters.{Characters, characters_in}
use Rattle.font_file.specs.Outlines.{outlines_in, names_in}
use Rattle.font_file.specs.Found.{table_in}
use Rattle.font_file.specs.Headers.{headers_in}
use Rattle.font_file.specs.Layouts.{layouts_in}

-- the vertical origins of glyphs: those of VORG, else by boxes and top side bearings
abbrev pub origins_by : Headers → List GlyphBox → Option (List ℕ) × ℕ → Option (List ℕ) → Result (List (GlyphRow ℤ)) FontFault
origins_by h boxes metrics None = Ok (box_origins boxes (bytes_or_none metrics.0) metrics.1 h.line h.count)
origins_by h boxes metrics (Some table) = in_table (Some Vorg) (vorg_origins table h.line.ascender h.count)

-- vertical origins and extents of glyphs by the boxes of their outlines
abbrev pub origins_and_extents : List ℕ → ℕ → Headers → List GlyphBox → Option (List ℕ) × ℕ → Result (List (GlyphRow ℤ) × List (GlyphRow hb_glyph_extents_t)) FontFault
origins_and_extents bytes index h boxes vertical = and_then (and_then (table_in bytes index Vorg) (origins_by h boxes vertical)) (λ origins. Ok (origins, extent_rows boxes h.count))

-- vertical origins, extents and names of glyphs, by the tables of metrics of both directions
abbrev pub Drawing : Type 0
Drawing = (List (GlyphRow ℤ) × List (GlyphRow hb_glyph_extents_t)) × List GlyphName

-- vertical origins, extents and names of the glyphs of the font with an index
abbrev pub drawing_in : FontParts → List ℕ → ℕ → Headers → Option (List ℕ) × ℕ → Option (List ℕ) × ℕ → Result Drawing FontFault
drawing_in parts bytes index h horizontal vertical =
    and_then (outlines_in parts bytes index h horizontal) (λ outlines.
    and_then (origins_and_extents bytes index h outlines.0 vertical) (λ rows.
    and_then (names_in parts bytes index h.count outlines.1) (λ names.
    Ok (rows, names))))

-- advances of both directions, vertical origins, extents and names of glyphs
pub record GlyphValues : Type 0 where
  pub h : List (GlyphRow ℕ)
  pub v : List (GlyphRow ℕ)
  pub drawing : Drawing

-- the metrics and what is drawn of the font with an index, by its headers
abbrev pub metrics_of : FontParts → List ℕ → ℕ → Headers → Result GlyphValues FontFault
metrics_of parts bytes index h =
    and_then (metrics_in bytes index Hhea Hmtx) (λ horizontal.
    and_then (metrics_in bytes index Vhea Vmtx) (λ vertical.
    and_then (drawing_in parts bytes index h horizontal vertical) (λ drawing.
    Ok (record { h = advance_rows (bytes_or_none horizontal.0) horizontal.1 h.count; v = vertical_rows h vertical.0 vertical.1; drawing = drawing }))))

-- what a font's layout tables are
abbrev pub LayoutValues : Type 0
LayoutValues = GlyphDefinition × (Option SubstitutionTable × Option PositioningTable)

-- the characters and the layout tables of the font with an index; the first fault in this order
abbrev pub characters_and_layouts : List ℕ → ℕ → Result (Characters × LayoutValues) FontFault
characters_and_layouts bytes index =
    and_then (characters_in bytes index) (λ c. and_then (layouts_in bytes index c.0) (λ l. Ok (c, l)))

-- a font of its fields, in the groups in which they are read
abbrev pub face_of : Headers → GlyphValues → Characters × LayoutValues → FaceParts
face_of h metrics tables = record {
  upem = h.upem;
  ascender = h.line.ascender;
  cmap = tables.0.0;
  variants = tables.0.1;
  h = metrics.h;
  v = metrics.v;
  origins = metrics.drawing.0.0;
  extents = metrics.drawing.0.1;
  names = metrics.drawing.1;
  gdef = tables.1.0;
  gsub = tables.1.1.0;
  gpos = tables.1.1.1;
}

-- the parts of the font with an index: headers, metrics of glyphs, characters, layout tables; the first fault in this order
abbrev pub parts_in : FontParts → List ℕ → ℕ → Result FaceParts FontFault
parts_in parts bytes index =
    and_then (headers_in bytes index) (λ h.
    and_then (metrics_of parts bytes index h) (λ metrics.
    and_then (characters_and_layouts bytes index) (λ tables.
    Ok (face_of h metrics tables))))

-- a font whose indices are within their lists, as those of all tables are that are read
abbrev pub fitting : FaceParts → Result FaceParts FontFault
fitting face = if indices_fit face then Ok face else Err (record { table = None; cause = Kind 0 })

-- the font with an index of a font file
unfoldable pub face_in : FontParts → List ℕ → ℕ → Result FaceParts FontFault
face_in parts bytes index = and_then (parts_in parts bytes index) fitting
