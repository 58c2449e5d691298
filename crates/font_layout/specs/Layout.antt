-- The layout tables GSUB and GPOS (OpenType, versions 1.0 and 1.1).
use Rattle.std.specs.Prelude.{ℕ, ◌==◌, if◌then◌else◌, List, [], Result, Ok}
use Rattle.font_bytes.specs.declared.fault.TableFault.{TableFault}
use Rattle.font_bytes.specs.Results.{and_then}
use Rattle.font_common.specs.Offsets.{list_at}
use Rattle.layout_face.specs.declared.positioning.PositioningLookup.{PositioningLookup}
use Rattle.layout_face.specs.declared.positioning.PositioningTable.{PositioningTable}
use Rattle.layout_face.specs.declared.substitution.SubstLookup.{SubstLookup}
use Rattle.layout_face.specs.declared.substitution.SubstitutionTable.{SubstitutionTable}
use Rattle.font_lists.specs.declared.header.LayoutHeader.{LayoutHeader}
use Rattle.font_lists.specs.Header.{layout_header, lists_at}
use Rattle.font_layout.specs.Positioning.{no_positioning, positioning_lookup_at}
use Rattle.font_layout.specs.Substitution.{no_substitution, substitution_lookup_at}

-- the lookups of the list of GSUB, none where its offset is null
abbrev pub substitutions_at : ℕ → ℕ → List ℕ → LayoutHeader → Result (List SubstLookup × ℕ) TableFault
substitutions_at set_count room table h = if h.lookups == 0 then Ok ([], room)
    else list_at no_substitution (substitution_lookup_at h.lookup_count set_count) table h.lookups h.lookups room

-- the lookups of the list of GPOS, none where its offset is null
abbrev pub positions_at : ℕ → ℕ → List ℕ → LayoutHeader → Result (List PositioningLookup × ℕ) TableFault
positions_at set_count room table h = if h.lookups == 0 then Ok ([], room)
    else list_at no_positioning (positioning_lookup_at h.lookup_count set_count) table h.lookups h.lookups room

-- the table GSUB of a font with n mark glyph sets
abbrev pub gsub_at : ℕ → ℕ → List ℕ → Result (SubstitutionTable × ℕ) TableFault
gsub_at set_count room table = and_then (layout_header table) (λ h. and_then (lists_at room table h)
    (λ lists. and_then (substitutions_at set_count lists.1 table h) (λ lookups. Ok (record { inner = lists.0; lookups = lookups.0 }, lookups.1))))

-- the table GPOS of a font with n mark glyph sets
abbrev pub gpos_at : ℕ → ℕ → List ℕ → Result (PositioningTable × ℕ) TableFault
gpos_at set_count room table = and_then (layout_header table) (λ h. and_then (lists_at room table h)
    (λ lists. and_then (positions_at set_count lists.1 table h) (λ lookups. Ok (record { inner = lists.0; lookups = lookups.0 }, lookups.1))))
