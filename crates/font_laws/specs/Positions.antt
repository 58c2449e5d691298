-- How many rows GPOS has (OpenType, GPOS lookup types 1 to 8).
use Rattle.std.specs.Prelude.{ℕ, ◌+◌, length}
use Rattle.layout_tables.specs.declared.single_pos.SinglePos.{SinglePos}
use Rattle.layout_tables.specs.declared.pair.Class1Record.{Class1Record}
use Rattle.layout_tables.specs.declared.pair.ClassPairs.{ClassPairs}
use Rattle.layout_tables.specs.declared.pair.PairPos.{PairPos}
use Rattle.layout_tables.specs.declared.pair.PairPos.TheVariants.{Glyphs, Classes}
use Rattle.layout_tables.specs.declared.cursive.CursivePos.{CursivePos}
use Rattle.layout_tables.specs.declared.mark.BaseRow.{BaseRow}
use Rattle.layout_tables.specs.declared.mark.ComponentRecord.{ComponentRecord}
use Rattle.layout_tables.specs.declared.mark.LigatureRow.{LigatureRow}
use Rattle.layout_tables.specs.declared.mark.MarkBasePos.{MarkBasePos}
use Rattle.layout_tables.specs.declared.mark.MarkLigPos.{MarkLigPos}
use Rattle.layout_face.specs.declared.positioning.PositioningLookup.{PositioningLookup}
use Rattle.layout_face.specs.declared.positioning.PositioningSubtables.{PositioningSubtables}
use Rattle.layout_face.specs.declared.positioning.PositioningSubtables.TheVariants.{Single, Pair, Cursive, MarkToBase, MarkToLigature, MarkToMark, Context, ChainContext}
use Rattle.layout_face.specs.declared.positioning.PositioningTable.{PositioningTable}
use Rattle.font_laws.specs.RowCounts.{total_row_count}
use Rattle.font_laws.specs.Lists.{class_row_count, list_row_count}
use Rattle.font_laws.specs.Contexts.{context_row_count}

-- single adjustment (type 1): glyphs with their value records
abbrev pub single_pos_row_count : SinglePos → ℕ
single_pos_row_count s = length s.rows

-- the value records of a first glyph's class, for each class of second glyphs
abbrev pub class1_row_count : Class1Record → ℕ
class1_row_count r = length r.class2_records

-- pairs by classes: covered glyphs, the glyphs of both class definitions, value records
abbrev pub class_pairs_row_count : ClassPairs → ℕ
class_pairs_row_count p = length p.coverage + class_row_count p.class_def1 + class_row_count p.class_def2 + total_row_count class1_row_count p.records

-- pair adjustment (type 2): pairs of glyphs with their value records, or pairs by classes
abbrev pub pair_pos_row_count : PairPos → ℕ
pair_pos_row_count (Glyphs p) = length p.rows
pair_pos_row_count (Classes p) = class_pairs_row_count p

-- cursive attachment (type 3): glyphs with their anchors
abbrev pub cursive_pos_row_count : CursivePos → ℕ
cursive_pos_row_count s = length s.rows

-- the anchors of a base, or of a mark that marks are attached to
abbrev pub base_row_count : BaseRow → ℕ
base_row_count r = length r.anchors

-- the anchors of a ligature's component
abbrev pub component_row_count : ComponentRecord → ℕ
component_row_count r = length r.anchors

-- the components of a ligature
abbrev pub ligature_attach_row_count : LigatureRow → ℕ
ligature_attach_row_count r = total_row_count component_row_count r.components

-- mark to base and mark to mark attachment (types 4 and 6): marks, and what they are attached to
abbrev pub mark_base_row_count : MarkBasePos → ℕ
mark_base_row_count s = length s.marks + total_row_count base_row_count s.bases

-- mark to ligature attachment (type 5): marks and ligatures
abbrev pub mark_lig_row_count : MarkLigPos → ℕ
mark_lig_row_count s = length s.marks + total_row_count ligature_attach_row_count s.ligatures

-- the subtables of a lookup, by its type
abbrev pub positioning_subtables_row_count : PositioningSubtables → ℕ
positioning_subtables_row_count (Single s) = total_row_count single_pos_row_count s
positioning_subtables_row_count (Pair s) = total_row_count pair_pos_row_count s
positioning_subtables_row_count (Cursive s) = total_row_count cursive_pos_row_count s
positioning_subtables_row_count (MarkToBase s) = total_row_count mark_base_row_count s
positioning_subtables_row_count (MarkToLigature s) = total_row_count mark_lig_row_count s
positioning_subtables_row_count (MarkToMark s) = total_row_count mark_base_row_count s
positioning_subtables_row_count (Context s) = total_row_count context_row_count s
positioning_subtables_row_count (ChainContext s) = total_row_count context_row_count s

-- a lookup: its subtables
abbrev pub positioning_lookup_row_count : PositioningLookup → ℕ
positioning_lookup_row_count l = positioning_subtables_row_count l.subtables

-- GPOS: scripts, features and lookups
abbrev pub positioning_row_count : PositioningTable → ℕ
positioning_row_count t = list_row_count t.inner + total_row_count positioning_lookup_row_count t.lookups
