-- A font as a JSON text.
use Rattle.std.specs.Prelude.{ℕ, List, [], ◌∷◌, codes, option_map}
use Rattle.serde_json.specs.Data.{Data, Members, string, object, member, no_members}
use Rattle.serde_json.specs.Written.{compact_text}
use Rattle.layout_face.specs.declared.parts.FaceParts.{FaceParts}
use Rattle.shell_print_json.specs.Values.{natural, integer, list_of, member_if}
use Rattle.shell_face_print.specs.Rows.{glyph_row_json}
use Rattle.shell_face_print.specs.Lookups.{substitution_table_json, positioning_table_json}
use Rattle.shell_face_print.specs.FontRows.{character_json, variation_json, extents_json, name_json, definition_json}

-- the keys from `gdef` on: glyph definitions, and GSUB and GPOS where the font has them
abbrev pub layout_members : FaceParts → Members
layout_members f =
    member (codes "gdef") (definition_json f.gdef) (
    member_if (codes "gsub") (option_map substitution_table_json f.gsub) (
    member_if (codes "gpos") (option_map positioning_table_json f.gpos) no_members))

-- the keys from `origins` on: vertical origins, extents and names of glyphs, and the layout tables
abbrev pub drawing_members : FaceParts → Members
drawing_members f =
    member (codes "origins") (list_of (glyph_row_json (λ y. integer y ∷ [])) f.origins) (
    member (codes "extents") (list_of (glyph_row_json extents_json) f.extents) (
    member (codes "names") (list_of name_json f.names) (layout_members f)))

-- the keys from `h` on: horizontal and vertical advances of glyphs, and what follows
abbrev pub advance_members : FaceParts → Members
advance_members f =
    member (codes "h") (list_of (glyph_row_json (λ width. natural width ∷ [])) f.h) (
    member (codes "v") (list_of (glyph_row_json (λ height. natural height ∷ [])) f.v) (drawing_members f))

-- the keys from `cmap` on: the glyphs of characters, and of characters with variation selectors, and what follows
abbrev pub character_members : FaceParts → Members
character_members f =
    member (codes "cmap") (list_of character_json f.cmap) (
    member (codes "variants") (list_of variation_json f.variants) (advance_members f))

-- a font as a JSON value: what it is, units per em, ascender, and each other key of the format
abbrev pub font_json : FaceParts → Data
font_json f = object (
    member (codes "format") (string (codes "kuspveli-font")) (
    member (codes "upem") (natural f.upem) (
    member (codes "ascender") (integer f.ascender) (character_members f))))

-- a font as a JSON text without spaces
abbrev pub font_text : FaceParts → List ℕ
font_text f = compact_text (font_json f)
