-- The subtables that attach marks (GPOS lookup types 4 to 6); glyph numbers are below the limit.
use Rattle.std.specs.Prelude.{ℕ, List, codes, None, Result, Ok}
use Rattle.std.specs.Ordering.{nat_cmp}
use Rattle.serde_json.specs.Data.{Data, Items}
use Rattle.shell_json.specs.declared.fault.JsonFault.{JsonFault}
use Rattle.shell_json.specs.Cell.{and_then}
use Rattle.shell_face_json.specs.Lists.{number_below, or_null, is_object, value_list, rows_at}
use Rattle.shell_face_json.specs.Row.{first_and_rest, no_more, row_of_two}
use Rattle.shell_face_json.specs.Sorted.{rows_by_key}
use Rattle.shell_face_json.specs.Lengths.{items_at, least_row_length, least_length_in_rows}
use Rattle.shell_face_json.specs.Glyphs.{glyph_rows}
use Rattle.shell_face_json.specs.Positions.{anchor}
use Rattle.layout_common.specs.declared.glyph_row.GlyphRow.{GlyphRow}
use Rattle.layout_tables.specs.declared.mark.MarkRecord.{MarkRecord}
use Rattle.layout_tables.specs.declared.mark.BaseRow.{BaseRow}
use Rattle.layout_tables.specs.declared.mark.ComponentRecord.{ComponentRecord}
use Rattle.layout_tables.specs.declared.mark.LigatureRow.{LigatureRow}
use Rattle.layout_tables.specs.declared.mark.MarkBasePos.{MarkBasePos}
use Rattle.layout_tables.specs.declared.mark.MarkLigPos.{MarkLigPos}

-- a mark's class, which is below the number of classes, and its anchor or null
abbrev pub mark_record : ℕ → Items → Result MarkRecord JsonFault
mark_record classes ds =
    and_then (first_and_rest (number_below classes) (first_and_rest (or_null anchor) no_more) ds) (λ p. Ok (record { class = p.0; anchor = p.1.0 }))

-- the marks of a subtable with that many classes
abbrev pub marks_of : ℕ → Data → Result (List (GlyphRow MarkRecord)) JsonFault
marks_of classes d = rows_at (codes "marks") (glyph_rows (mark_record classes)) d

-- a base glyph, and an anchor or null for each class
abbrev pub base_row : ℕ → Data → Result BaseRow JsonFault
base_row limit d = and_then (row_of_two (number_below limit) (value_list (or_null anchor)) d) (λ p. Ok (record { glyph = p.0; anchors = p.1.0 }))

-- the anchors of a ligature component
abbrev pub component : Data → Result ComponentRecord JsonFault
component d = and_then (value_list (or_null anchor) d) (λ anchors. Ok (record { anchors = anchors }))

-- a ligature glyph, and its components
abbrev pub ligature_row : ℕ → Data → Result LigatureRow JsonFault
ligature_row limit d = and_then (row_of_two (number_below limit) (value_list component) d) (λ p. Ok (record { glyph = p.0; components = p.1.0 }))

-- a mark-to-base or mark-to-mark subtable: marks, whose classes are checked against each base's anchors, and bases
abbrev pub mark_base : ℕ → Data → Result MarkBasePos JsonFault
mark_base limit d =
    and_then (is_object d) (λ _.
    and_then (marks_of (least_row_length limit (items_at (codes "bases") d)) d) (λ marks.
    and_then (rows_at (codes "bases") (rows_by_key nat_cmp (λ r. r.glyph) (base_row limit) None) d) (λ bases.
    Ok (record { marks = marks; bases = bases }))))

-- a mark-to-ligature subtable: marks, whose classes are checked against each component's anchors, and ligatures
abbrev pub mark_lig : ℕ → Data → Result MarkLigPos JsonFault
mark_lig limit d =
    and_then (is_object d) (λ _.
    and_then (marks_of (least_length_in_rows limit (items_at (codes "bases") d)) d) (λ marks.
    and_then (rows_at (codes "bases") (rows_by_key nat_cmp (λ r. r.glyph) (ligature_row limit) None) d) (λ ligatures.
    Ok (record { marks = marks; ligatures = ligatures }))))
