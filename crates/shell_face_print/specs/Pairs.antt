-- Pair adjustment (GPOS lookup type 2).
use Rattle.std.specs.Prelude.{[], ◌∷◌, codes}
use Rattle.serde_json.specs.Data.{Data, object, member, no_members}
use Rattle.layout_tables.specs.declared.pair.PairValues.{PairValues}
use Rattle.layout_tables.specs.declared.pair.PairRow.{PairRow}
use Rattle.layout_tables.specs.declared.pair.Class1Record.{Class1Record}
use Rattle.layout_tables.specs.declared.pair.ClassPairs.{ClassPairs}
use Rattle.layout_tables.specs.declared.pair.PairPos.{PairPos}
use Rattle.layout_tables.specs.declared.pair.PairPos.TheVariants.{Glyphs, Classes}
use Rattle.shell_print_json.specs.Values.{natural, row, list_of, or_null}
use Rattle.shell_face_print.specs.Rows.{coverage_json, class_definition_json}
use Rattle.shell_face_print.specs.Positions.{value_record_json}

-- two value records, of which the second may be null
abbrev pub pair_values_json : PairValues → Data
pair_values_json v = row (value_record_json v.first ∷ or_null value_record_json v.second ∷ [])

-- two glyphs and their value records (format 1)
abbrev pub pair_row_json : PairRow → Data
pair_row_json r = row (natural r.first ∷ natural r.second ∷ value_record_json r.values.first ∷ or_null value_record_json r.values.second ∷ [])

-- the value records of a first class, by second classes
abbrev pub class1_record_json : Class1Record → Data
class1_record_json r = list_of pair_values_json r.class2_records

-- pairs by classes (format 2)
abbrev pub class_pairs_json : ClassPairs → Data
class_pairs_json p = object (
    member (codes "first") (coverage_json p.coverage) (
    member (codes "class1") (class_definition_json p.class_def1) (
    member (codes "class2") (class_definition_json p.class_def2) (
    member (codes "records") (list_of class1_record_json p.records) no_members))))

-- a pair adjustment subtable
abbrev pub pair_pos_json : PairPos → Data
pair_pos_json (Glyphs p) = list_of pair_row_json p.rows
pair_pos_json (Classes p) = class_pairs_json p
