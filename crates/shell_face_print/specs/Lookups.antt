-- The lookups of GSUB and GPOS.
use Rattle.std.specs.Prelude.{ℕ, List, Option, codes, option_map}
use Rattle.serde_json.specs.Data.{Data, string, object, member, no_members}
use Rattle.layout_face.specs.declared.substitution.SubstitutionSubtables.{SubstitutionSubtables}
use Rattle.layout_face.specs.declared.substitution.SubstitutionSubtables.TheVariants as Substitution
use Rattle.layout_face.specs.declared.substitution.SubstLookup.{SubstLookup}
use Rattle.layout_face.specs.declared.substitution.SubstitutionTable.{SubstitutionTable}
use Rattle.layout_face.specs.declared.positioning.PositioningSubtables.{PositioningSubtables}
use Rattle.layout_face.specs.declared.positioning.PositioningSubtables.TheVariants as Positioning
use Rattle.layout_face.specs.declared.positioning.PositioningLookup.{PositioningLookup}
use Rattle.layout_face.specs.declared.positioning.PositioningTable.{PositioningTable}
use Rattle.shell_print_json.specs.Values.{natural, list_of, member_if}
use Rattle.shell_face_print.specs.Positions.{single_pos_json, cursive_pos_json}
use Rattle.shell_face_print.specs.Pairs.{pair_pos_json}
use Rattle.shell_face_print.specs.Marks.{mark_base_json, mark_lig_json}
use Rattle.shell_face_print.specs.Contexts.{context_json}
use Rattle.shell_face_print.specs.Substitutions.{single_subst_json, multiple_subst_json, alternate_subst_json, ligature_subst_json, reverse_json}
use Rattle.shell_face_print.specs.Scripts.{layout_json}

-- a lookup: its type, its flag, its subtables, and its mark glyph set, a key that is missing without one
abbrev pub lookup_json : List ℕ → ℕ → Data → Option ℕ → Data
lookup_json type flags subtables set = object (
    member (codes "type") (string type) (
    member (codes "flags") (natural flags) (
    member (codes "subtables") subtables (
    member_if (codes "set") (option_map natural set) no_members))))

-- ---- GSUB

-- the name of a GSUB lookup type
abbrev pub substitution_type : SubstitutionSubtables → List ℕ
substitution_type (Substitution.Single s) = codes "single"
substitution_type (Substitution.Multiple s) = codes "multiple"
substitution_type (Substitution.Alternate s) = codes "alternate"
substitution_type (Substitution.Ligature s) = codes "ligature"
substitution_type (Substitution.Context s) = codes "context"
substitution_type (Substitution.ChainContext s) = codes "chain"
substitution_type (Substitution.ReverseChainSingle s) = codes "reverse"

-- the subtables of a GSUB lookup
abbrev pub substitutions_json : SubstitutionSubtables → Data
substitutions_json (Substitution.Single s) = list_of single_subst_json s
substitutions_json (Substitution.Multiple s) = list_of multiple_subst_json s
substitutions_json (Substitution.Alternate s) = list_of alternate_subst_json s
substitutions_json (Substitution.Ligature s) = list_of ligature_subst_json s
substitutions_json (Substitution.Context s) = list_of context_json s
substitutions_json (Substitution.ChainContext s) = list_of context_json s
substitutions_json (Substitution.ReverseChainSingle s) = list_of reverse_json s

-- a GSUB lookup
abbrev pub substitution_lookup_json : SubstLookup → Data
substitution_lookup_json l = lookup_json (substitution_type l.subtables) l.flags (substitutions_json l.subtables) l.mark_filtering_set

-- the GSUB table
abbrev pub substitution_table_json : SubstitutionTable → Data
substitution_table_json t = layout_json t.inner (list_of substitution_lookup_json t.lookups)

-- ---- GPOS

-- the name of a GPOS lookup type
abbrev pub positioning_type : PositioningSubtables → List ℕ
positioning_type (Positioning.Single s) = codes "single"
positioning_type (Positioning.Pair s) = codes "pair"
positioning_type (Positioning.Cursive s) = codes "cursive"
positioning_type (Positioning.MarkToBase s) = codes "markbase"
positioning_type (Positioning.MarkToLigature s) = codes "marklig"
positioning_type (Positioning.MarkToMark s) = codes "markmark"
positioning_type (Positioning.Context s) = codes "context"
positioning_type (Positioning.ChainContext s) = codes "chain"

-- the subtables of a GPOS lookup
abbrev pub positionings_json : PositioningSubtables → Data
positionings_json (Positioning.Single s) = list_of single_pos_json s
positionings_json (Positioning.Pair s) = list_of pair_pos_json s
positionings_json (Positioning.Cursive s) = list_of cursive_pos_json s
positionings_json (Positioning.MarkToBase s) = list_of mark_base_json s
positionings_json (Positioning.MarkToLigature s) = list_of mark_lig_json s
positionings_json (Positioning.MarkToMark s) = list_of mark_base_json s
positionings_json (Positioning.Context s) = list_of context_json s
positionings_json (Positioning.ChainContext s) = list_of context_json s

-- a GPOS lookup
abbrev pub positioning_lookup_json : PositioningLookup → Data
positioning_lookup_json l = lookup_json (positioning_type l.subtables) l.flags (positionings_json l.subtables) l.mark_filtering_set

-- the GPOS table
abbrev pub positioning_table_json : PositioningTable → Data
positioning_table_json t = layout_json t.inner (list_of positioning_lookup_json t.lookups)
