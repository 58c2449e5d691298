-- Value records and anchors (OpenType, GPOS), and the lookups that have one of them for a glyph.
use Rattle.std.specs.Prelude.{List, [], ◌∷◌}
use Rattle.serde_json.specs.Data.{Data}
use Rattle.layout_tables.specs.declared.value.Anchor.{Anchor}
use Rattle.layout_tables.specs.declared.value.ValueRecord.{ValueRecord}
use Rattle.layout_tables.specs.declared.cursive.EntryExit.{EntryExit}
use Rattle.layout_tables.specs.declared.cursive.CursivePos.{CursivePos}
use Rattle.layout_tables.specs.declared.single_pos.SinglePos.{SinglePos}
use Rattle.shell_print_json.specs.Values.{integer, row, list_of, or_null}
use Rattle.shell_face_print.specs.Rows.{glyph_row_json}

-- an anchor: x and y
abbrev pub anchor_json : Anchor → Data
anchor_json a = row (integer a.x ∷ integer a.y ∷ [])

-- a value record: x and y placement, x and y advance
abbrev pub value_record_json : ValueRecord → Data
value_record_json v = row (integer v.x_placement ∷ integer v.y_placement ∷ integer v.x_advance ∷ integer v.y_advance ∷ [])

-- a single adjustment subtable: rows of a glyph and its value record (GPOS lookup type 1)
abbrev pub single_pos_json : SinglePos → Data
single_pos_json s = list_of (glyph_row_json (λ v. value_record_json v ∷ [])) s.rows

-- an entry and an exit anchor
abbrev pub entry_exit_json : EntryExit → List Data
entry_exit_json e = or_null anchor_json e.entry ∷ or_null anchor_json e.exit ∷ []

-- a cursive attachment subtable: rows of a glyph, its entry and its exit (GPOS lookup type 3)
abbrev pub cursive_pos_json : CursivePos → Data
cursive_pos_json s = list_of (glyph_row_json entry_exit_json) s.rows
