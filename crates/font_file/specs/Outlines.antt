-- The boxes of glyphs, by their outlines, and their names (OpenType, chapter 5, glyf, CFF, CFF2, post).
use Rattle.std.specs.Prelude.{ℕ, ◌||◌, Bool, true, false, if◌then◌else◌, List, [], ◌∷◌, Option, Some, None, Result, Ok, Err}
use Rattle.layout_face.specs.Names.{GlyphName}
use Rattle.layout_tables.specs.Keyed.{is_rising}
use Rattle.font_bytes.specs.declared.fault.TableFault.TheVariants.{Order}
use Rattle.font_bytes.specs.declared.font_fault.FontFault.{FontFault}
use Rattle.font_bytes.specs.declared.table_names.FontTable.{FontTable}
use Rattle.font_bytes.specs.declared.table_names.FontTable.TheVariants.{Loca, Glyf, Cff, Cff2, Post}
use Rattle.font_bytes.specs.Fault.{in_table}
use Rattle.font_bytes.specs.Results.{and_then}
use Rattle.font_metrics.specs.declared.boxes.GlyphBox.{GlyphBox}
use Rattle.font_metrics.specs.Boxes.{glyf_boxes}
use Rattle.font_cff.specs.declared.glyphs.CffParts.{CffParts}
use Rattle.font_cff.specs.Glyphs.{CffValue, cff_at}
use Rattle.font_names.specs.Names.{names_at}
use Rattle.font_file.specs.declared.headers.Headers.{Headers}
use Rattle.font_file.specs.declared.parts.FontParts.{FontParts}
use Rattle.font_file.specs.Advances.{bytes_or_none}
use Rattle.font_file.specs.Found.{required_table, table_in}
use Rattle.font_file.specs.Rooms.{outline_room}

-- the boxes of glyphs and the names that their outlines' table has, each where it was wanted
abbrev pub Outlines : Type 0
Outlines = List GlyphBox × List GlyphName

-- nothing is wanted, or there is nothing
abbrev pub no_outlines : Outlines
no_outlines = ([], [])

-- what is wanted of a table of CFF
abbrev pub cff_parts : FontParts → CffParts
cff_parts parts = record { boxes = parts.extents; names = parts.names }

-- what was read of a table of CFF
abbrev pub outlines_of : CffValue → Outlines
outlines_of value = (value.boxes, value.names)

-- the table of CFF with a name, which isn't read where nothing of it is wanted
abbrev pub outlines_of_cff : FontParts → FontTable → Bool → List ℕ → Result Outlines FontFault
outlines_of_cff parts name is_cff2 table = if parts.extents || parts.names
    then and_then (in_table (Some name) (cff_at table is_cff2 (cff_parts parts) (outline_room table))) (λ r. Ok (outlines_of r.0))
    else Ok no_outlines

-- the boxes of outlines of glyf, moved to the left side bearings of hmtx, where they are wanted
abbrev pub outlines_of_glyf : FontParts → List ℕ → ℕ → Headers → Option (List ℕ) × ℕ → List ℕ → Result Outlines FontFault
outlines_of_glyf parts bytes index h metrics glyf = if parts.extents
    then and_then (required_table bytes index Loca) (λ loca. Ok (glyf_boxes loca h.is_long glyf (bytes_or_none metrics.0) metrics.1 0 h.count, []))
    else Ok no_outlines

-- a font of CFF2, or without outlines
abbrev pub outlines_of_cff2 : FontParts → Option (List ℕ) → Result Outlines FontFault
outlines_of_cff2 parts None = Ok no_outlines
outlines_of_cff2 parts (Some table) = outlines_of_cff parts Cff2 true table

-- a font of CFF, else of CFF2
abbrev pub outlines_without_glyf : FontParts → List ℕ → ℕ → Option (List ℕ) → Result Outlines FontFault
outlines_without_glyf parts bytes index (Some table) = outlines_of_cff parts Cff false table
outlines_without_glyf parts bytes index None = and_then (table_in bytes index Cff2) (outlines_of_cff2 parts)

-- a font of glyf, else of another kind of outlines
abbrev pub outlines_by : FontParts → List ℕ → ℕ → Headers → Option (List ℕ) × ℕ → Option (List ℕ) → Result Outlines FontFault
outlines_by parts bytes index h metrics (Some glyf) = outlines_of_glyf parts bytes index h metrics glyf
outlines_by parts bytes index h metrics None = and_then (table_in bytes index Cff) (outlines_without_glyf parts bytes index)

-- the boxes and names by a font's outlines
abbrev pub outlines_in : FontParts → List ℕ → ℕ → Headers → Option (List ℕ) × ℕ → Result Outlines FontFault
outlines_in parts bytes index h metrics = and_then (table_in bytes index Glyf) (outlines_by parts bytes index h metrics)

-- ---- names

-- the names of a table post
unfoldable pub names_of_post : ℕ → List ℕ → Result (List GlyphName) FontFault
names_of_post count table = in_table (Some Post) (names_at table count)

-- the names of the table post, if there is one
abbrev pub post_names : ℕ → Option (List ℕ) → Result (List GlyphName) FontFault
post_names count None = Ok []
post_names count (Some table) = names_of_post count table

-- names whose glyphs rise, as those of a table of CFF do
abbrev pub rising_names : List GlyphName → Result (List GlyphName) FontFault
rising_names names = if is_rising (λ r. r.glyph) None names then Ok names else Err (record { table = Some Cff; cause = Order 0 })

-- the names of the outlines' table, else those of post
abbrev pub names_beside : List ℕ → ℕ → ℕ → List GlyphName → Result (List GlyphName) FontFault
names_beside bytes index count [] = and_then (table_in bytes index Post) (post_names count)
names_beside bytes index count (name ∷ names) = rising_names (name ∷ names)

-- the names of glyphs, where they are wanted
abbrev pub names_in : FontParts → List ℕ → ℕ → ℕ → List GlyphName → Result (List GlyphName) FontFault
names_in parts bytes index count outlines = if parts.names then names_beside bytes index count outlines else Ok []
