-- The rows of a font's characters and glyphs (OpenType, tables cmap, glyf, post), and its glyph definitions (GDEF).
use Rattle.std.specs.Prelude.{List, [], ◌∷◌, codes, option_map}
use Rattle.serde_json.specs.Data.{Data, string, object, member, no_members}
use Rattle.buffer_glyphs.specs.declared.names.hb_glyph_extents_t.{hb_glyph_extents_t}
use Rattle.layout_face.specs.Names.{GlyphName}
use Rattle.layout_face.specs.declared.parts.CharacterRow.{CharacterRow}
use Rattle.layout_face.specs.declared.parts.VariationRow.{VariationRow}
use Rattle.layout_face.specs.declared.parts.GlyphDefinition.{GlyphDefinition}
use Rattle.shell_print_json.specs.Values.{natural, integer, row, list_of, member_if}
use Rattle.shell_face_print.specs.Rows.{coverage_json, class_definition_json}

-- a character and its glyph
abbrev pub character_json : CharacterRow → Data
character_json r = row (natural r.character ∷ natural r.glyph ∷ [])

-- a character, a variation selector and the glyph of both
abbrev pub variation_json : VariationRow → Data
variation_json r = row (natural r.character ∷ natural r.selector ∷ natural r.glyph ∷ [])

-- glyph extents: x and y bearing, width and height
abbrev pub extents_json : hb_glyph_extents_t → List Data
extents_json e = integer e.x_bearing ∷ integer e.y_bearing ∷ integer e.width ∷ integer e.height ∷ []

-- a glyph and its name
abbrev pub name_json : GlyphName → Data
name_json r = row (natural r.glyph ∷ string r.name ∷ [])

-- glyph definitions: attachment classes, mark glyph sets, and glyph classes where there are any
abbrev pub definition_json : GlyphDefinition → Data
definition_json g = object (
    member (codes "attach") (class_definition_json g.attach) (
    member (codes "sets") (list_of coverage_json g.sets) (
    member_if (codes "classes") (option_map class_definition_json g.classes) no_members)))
