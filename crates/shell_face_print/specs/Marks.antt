-- Attachment of marks (GPOS lookup types 4 to 6).
use Rattle.std.specs.Prelude.{List, [], ◌∷◌, codes}
use Rattle.serde_json.specs.Data.{Data, object, member, no_members}
use Rattle.layout_tables.specs.declared.mark.MarkRecord.{MarkRecord}
use Rattle.layout_tables.specs.declared.mark.BaseRow.{BaseRow}
use Rattle.layout_tables.specs.declared.mark.ComponentRecord.{ComponentRecord}
use Rattle.layout_tables.specs.declared.mark.LigatureRow.{LigatureRow}
use Rattle.layout_tables.specs.declared.mark.MarkBasePos.{MarkBasePos}
use Rattle.layout_tables.specs.declared.mark.MarkLigPos.{MarkLigPos}
use Rattle.shell_print_json.specs.Values.{natural, row, list_of, or_null}
use Rattle.shell_face_print.specs.Rows.{glyph_row_json}
use Rattle.shell_face_print.specs.Positions.{anchor_json}

-- a mark's class and its anchor
abbrev pub mark_record_json : MarkRecord → List Data
mark_record_json m = natural m.class ∷ or_null anchor_json m.anchor ∷ []

-- a base glyph, and its anchors by mark classes
abbrev pub base_row_json : BaseRow → Data
base_row_json r = row (natural r.glyph ∷ list_of (or_null anchor_json) r.anchors ∷ [])

-- the anchors of a component, by mark classes
abbrev pub component_json : ComponentRecord → Data
component_json c = list_of (or_null anchor_json) c.anchors

-- a ligature glyph, and its components
abbrev pub ligature_row_json : LigatureRow → Data
ligature_row_json r = row (natural r.glyph ∷ list_of component_json r.components ∷ [])

-- a mark-to-base or mark-to-mark subtable
abbrev pub mark_base_json : MarkBasePos → Data
mark_base_json s = object (
    member (codes "marks") (list_of (glyph_row_json mark_record_json) s.marks) (
    member (codes "bases") (list_of base_row_json s.bases) no_members))

-- a mark-to-ligature subtable
abbrev pub mark_lig_json : MarkLigPos → Data
mark_lig_json s = object (
    member (codes "marks") (list_of (glyph_row_json mark_record_json) s.marks) (
    member (codes "bases") (list_of ligature_row_json s.ligatures) no_members))
