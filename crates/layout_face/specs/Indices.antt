-- Indices and classes of a font that stay within their lists.
use Rattle.std.specs.Prelude.{ℕ, ◌&&◌, Bool, true, length, nat_le}
use Rattle.std.specs.Option.{option_map_or}
use Rattle.layout_face.specs.LookupIndices.{substitution_fits, positioning_fits}
use Rattle.layout_face.specs.declared.parts.FaceParts.{FaceParts}

-- the limit of the number of mark glyph sets, which has 16 bits (OpenType, GDEF, `markGlyphSetCount`), so that the
-- index 65535 names none
abbrev pub set_limit : ℕ
set_limit = 65535

-- whether all features, lookups, nested ones too, mark glyph sets, records of pairs and anchors that are named in both
-- layout tables exist
abbrev pub indices_fit : FaceParts → Bool
indices_fit font =
    nat_le (length font.gdef.sets) set_limit
    && option_map_or (λ t. substitution_fits (length font.gdef.sets) t) font.gsub true
    && option_map_or (λ t. positioning_fits (length font.gdef.sets) t) font.gpos true
