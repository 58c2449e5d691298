-- A font, key by key in the order of the format.
use Rattle.std.specs.Prelude.{ℕ, ℤ, pos, nat_le, if◌then◌else◌, List, [], codes, length, Option, Some, None, Result, Ok, Err}
use Rattle.std.specs.Ordering.{nat_cmp}
use Rattle.serde_json.specs.Data.{Data}
use Rattle.serde_json.specs.Find.{get}
use Rattle.shell_json.specs.declared.fault.JsonFault.{JsonFault}
use Rattle.shell_json.specs.declared.fault.JsonFault.TheVariants.{OutOfRange}
use Rattle.shell_json.specs.Cell.{and_then, u16_value, i16_value}
use Rattle.shell_json.specs.Objects.{read_or, optional_value}
use Rattle.layout_common.specs.declared.glyph_row.GlyphRow.{GlyphRow}
use Rattle.buffer_glyphs.specs.declared.names.hb_glyph_extents_t.{hb_glyph_extents_t}
use Rattle.layout_face.specs.declared.positioning.PositioningTable.{PositioningTable}
use Rattle.layout_face.specs.declared.substitution.SubstitutionTable.{SubstitutionTable}
use Rattle.layout_face.specs.Names.{GlyphName}
use Rattle.layout_face.specs.declared.parts.CharacterRow.{CharacterRow}
use Rattle.layout_face.specs.declared.parts.VariationRow.{VariationRow}
use Rattle.layout_face.specs.declared.parts.GlyphDefinition.{GlyphDefinition}
use Rattle.layout_face.specs.declared.parts.FaceParts.{FaceParts}
use Rattle.layout_face.specs.Indices.{set_limit}
use Rattle.shell_face_json.specs.Lists.{number_below, is_object, rows_at, rows_in_turn}
use Rattle.shell_face_json.specs.Row.{only}
use Rattle.shell_face_json.specs.Sorted.{rows_by_key}
use Rattle.shell_face_json.specs.Glyphs.{glyph_limit, glyph_rows, coverage, classes_in, class_definition}
use Rattle.shell_face_json.specs.Contexts.{no_classes}
use Rattle.shell_face_json.specs.Positions.{pair_order}
use Rattle.shell_face_json.specs.SubstitutionTable.{substitution_table}
use Rattle.shell_face_json.specs.PositionTable.{positioning_table}
use Rattle.shell_face_json.specs.FontRows.{character_row, variation_row, extents, name_row}

-- ---- the key `gdef`

-- the mark glyph sets, of which there are at most as many as an index can count
abbrev pub few_sets : List (List ℕ) → Result (List (List ℕ)) JsonFault
few_sets sets = if nat_le (length sets) set_limit then Ok sets else Err OutOfRange

-- glyph definitions: glyph classes, if there are any, attachment classes, and mark glyph sets
abbrev pub glyph_definition : Data → Result GlyphDefinition JsonFault
glyph_definition d =
    and_then (is_object d) (λ _.
    and_then (optional_value (class_definition glyph_limit) (get (codes "classes") d)) (λ classes.
    and_then (rows_at (codes "attach") (classes_in glyph_limit) d) (λ attach.
    and_then (and_then (rows_at (codes "sets") (rows_in_turn (coverage glyph_limit)) d) few_sets) (λ sets.
    Ok (record { classes = classes; attach = attach; sets = sets })))))

-- glyph definitions without entries
abbrev pub no_definition : GlyphDefinition
no_definition = record { classes = None; attach = no_classes; sets = [] }

-- the glyph definitions of an optional value
abbrev pub glyph_definition_in : Option Data → Result GlyphDefinition JsonFault
glyph_definition_in None = Ok no_definition
glyph_definition_in (Some d) = glyph_definition d

-- ---- the font

-- the glyphs of characters, and those of characters with variation selectors
abbrev pub character_keys : Data → Result (List CharacterRow × List VariationRow) JsonFault
character_keys d =
    and_then (rows_at (codes "cmap") (rows_by_key nat_cmp (λ r. r.character) (character_row glyph_limit) None) d) (λ cmap.
    and_then (rows_at (codes "variants") (rows_by_key pair_order (λ r. (r.character, r.selector)) (variation_row glyph_limit) None) d) (λ variants.
    Ok (cmap, variants)))

-- the horizontal and the vertical advances of glyphs
abbrev pub advance_keys : Data → Result (List (GlyphRow ℕ) × List (GlyphRow ℕ)) JsonFault
advance_keys d =
    and_then (rows_at (codes "h") (glyph_rows (only (number_below glyph_limit))) d) (λ widths.
    and_then (rows_at (codes "v") (glyph_rows (only (number_below glyph_limit))) d) (λ heights.
    Ok (widths, heights)))

-- the vertical origins, extents and names of glyphs
abbrev pub drawing_keys : Data → Result (List (GlyphRow ℤ) × (List (GlyphRow hb_glyph_extents_t) × List GlyphName)) JsonFault
drawing_keys d =
    and_then (rows_at (codes "origins") (glyph_rows (only i16_value)) d) (λ origins.
    and_then (rows_at (codes "extents") (glyph_rows extents) d) (λ boxes.
    and_then (rows_at (codes "names") (rows_by_key nat_cmp (λ r. r.glyph) (name_row glyph_limit) None) d) (λ names.
    Ok (origins, (boxes, names)))))

-- the glyph definitions, GSUB and GPOS; indices of mark glyph sets must be below the number of sets
abbrev pub layout_keys : Data → Result (GlyphDefinition × (Option SubstitutionTable × Option PositioningTable)) JsonFault
layout_keys d =
    and_then (glyph_definition_in (get (codes "gdef") d)) (λ gdef.
    and_then (optional_value (substitution_table (length gdef.sets)) (get (codes "gsub") d)) (λ gsub.
    and_then (optional_value (positioning_table (length gdef.sets)) (get (codes "gpos") d)) (λ gpos.
    Ok (gdef, (gsub, gpos)))))

-- the keys of a font in the order of their faults
abbrev pub face_keys : Data → Result FaceParts JsonFault
face_keys d =
    and_then (read_or 0 u16_value (get (codes "upem") d)) (λ upem.
    and_then (read_or (pos 0) i16_value (get (codes "ascender") d)) (λ ascender.
    and_then (character_keys d) (λ characters.
    and_then (advance_keys d) (λ advances.
    and_then (drawing_keys d) (λ drawing.
    and_then (layout_keys d) (λ layout.
    Ok (record {
      upem = upem;
      ascender = ascender;
      cmap = characters.0;
      variants = characters.1;
      h = advances.0;
      v = advances.1;
      origins = drawing.0;
      extents = drawing.1.0;
      names = drawing.1.1;
      gdef = layout.0;
      gsub = layout.1.0;
      gpos = layout.1.1;
    })))))))

-- the font of a JSON value
abbrev pub face_of : Data → Result FaceParts JsonFault
face_of d = and_then (is_object d) (λ _. face_keys d)
