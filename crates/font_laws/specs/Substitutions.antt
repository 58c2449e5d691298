-- How many rows GSUB has (OpenType, GSUB lookup types 1 to 8).
use Rattle.std.specs.Prelude.{ℕ, ◌+◌, List, length}
use Rattle.layout_tables.specs.Layout.{LigatureTable, LigatureSetTable}
use Rattle.layout_tables.specs.declared.single_subst.SingleSubst.{SingleSubst}
use Rattle.layout_tables.specs.declared.sequence.SequenceRow.{SequenceRow}
use Rattle.layout_tables.specs.declared.sequence.MultipleSubst.{MultipleSubst}
use Rattle.layout_tables.specs.declared.sequence.AlternateSubst.{AlternateSubst}
use Rattle.layout_tables.specs.declared.reverse.ReverseChainSubst.{ReverseChainSubst}
use Rattle.layout_face.specs.declared.substitution.SubstLookup.{SubstLookup}
use Rattle.layout_face.specs.declared.substitution.SubstitutionSubtables.{SubstitutionSubtables}
use Rattle.layout_face.specs.declared.substitution.SubstitutionSubtables.TheVariants.{Single, Multiple, Alternate, Ligature, Context, ChainContext, ReverseChainSingle}
use Rattle.layout_face.specs.declared.substitution.SubstitutionTable.{SubstitutionTable}
use Rattle.font_laws.specs.RowCounts.{total_row_count}
use Rattle.font_laws.specs.Lists.{list_row_count}
use Rattle.font_laws.specs.Contexts.{context_row_count}

-- single substitution (type 1): glyphs with their substitutes
abbrev pub single_subst_row_count : SingleSubst → ℕ
single_subst_row_count s = length s.rows

-- the glyphs of a sequence table or of an alternate set
abbrev pub sequence_row_count : SequenceRow → ℕ
sequence_row_count r = length r.glyphs

-- multiple substitution (type 2): glyphs with their sequences
abbrev pub multiple_subst_row_count : MultipleSubst → ℕ
multiple_subst_row_count s = total_row_count sequence_row_count s.rows

-- alternate substitution (type 3): glyphs with their alternates
abbrev pub alternate_subst_row_count : AlternateSubst → ℕ
alternate_subst_row_count s = total_row_count sequence_row_count s.rows

-- the components of a ligature table
abbrev pub ligature_row_count : LigatureTable → ℕ
ligature_row_count l = length l.components

-- the ligatures of a ligature set table
abbrev pub ligature_set_row_count : LigatureSetTable → ℕ
ligature_set_row_count s = total_row_count ligature_row_count s.ligatures

-- ligature substitution (type 4): the sets of first glyphs
abbrev pub ligature_subst_row_count : List LigatureSetTable → ℕ
ligature_subst_row_count sets = total_row_count ligature_set_row_count sets

-- reverse chaining (type 8): the coverages around the glyph, and glyphs with their substitutes
abbrev pub reverse_subst_row_count : ReverseChainSubst → ℕ
reverse_subst_row_count s = total_row_count length s.backtrack + total_row_count length s.lookahead + length s.rows

-- the subtables of a lookup, by its type
abbrev pub substitution_subtables_row_count : SubstitutionSubtables → ℕ
substitution_subtables_row_count (Single s) = total_row_count single_subst_row_count s
substitution_subtables_row_count (Multiple s) = total_row_count multiple_subst_row_count s
substitution_subtables_row_count (Alternate s) = total_row_count alternate_subst_row_count s
substitution_subtables_row_count (Ligature s) = total_row_count ligature_subst_row_count s
substitution_subtables_row_count (Context s) = total_row_count context_row_count s
substitution_subtables_row_count (ChainContext s) = total_row_count context_row_count s
substitution_subtables_row_count (ReverseChainSingle s) = total_row_count reverse_subst_row_count s

-- a lookup: its subtables
abbrev pub subst_lookup_row_count : SubstLookup → ℕ
subst_lookup_row_count l = substitution_subtables_row_count l.subtables

-- GSUB: scripts, features and lookups
abbrev pub substitution_row_count : SubstitutionTable → ℕ
substitution_row_count t = list_row_count t.inner + total_row_count subst_lookup_row_count t.lookups
