-- The GSUB subtables other than contexts.
use Rattle.std.specs.Prelude.{List, [], ◌∷◌}
use Rattle.serde_json.specs.Data.{Data}
use Rattle.layout_tables.specs.Layout.{LigatureTable, LigatureSetTable}
use Rattle.layout_tables.specs.declared.single_subst.SingleSubst.{SingleSubst}
use Rattle.layout_tables.specs.declared.sequence.SequenceRow.{SequenceRow}
use Rattle.layout_tables.specs.declared.sequence.MultipleSubst.{MultipleSubst}
use Rattle.layout_tables.specs.declared.sequence.AlternateSubst.{AlternateSubst}
use Rattle.layout_tables.specs.declared.reverse.ReverseChainSubst.{ReverseChainSubst}
use Rattle.shell_print_json.specs.Values.{natural, row, list_of}
use Rattle.shell_face_print.specs.Rows.{glyph_row_json, coverage_json}

-- a single substitution subtable: rows of a glyph and its substitute (GSUB lookup type 1)
abbrev pub single_subst_json : SingleSubst → Data
single_subst_json s = list_of (glyph_row_json (λ glyph. natural glyph ∷ [])) s.rows

-- a glyph, and a list of glyphs
abbrev pub sequence_row_json : SequenceRow → Data
sequence_row_json r = row (natural r.glyph ∷ list_of natural r.glyphs ∷ [])

-- a multiple substitution subtable: rows of a glyph and its sequence (GSUB lookup type 2)
abbrev pub multiple_subst_json : MultipleSubst → Data
multiple_subst_json s = list_of sequence_row_json s.rows

-- an alternate substitution subtable: rows of a glyph and its alternates (GSUB lookup type 3)
abbrev pub alternate_subst_json : AlternateSubst → Data
alternate_subst_json s = list_of sequence_row_json s.rows

-- a ligature: the component glyphs after the first, and the ligature glyph
abbrev pub ligature_json : LigatureTable → Data
ligature_json l = row (list_of natural l.components ∷ natural l.glyph ∷ [])

-- a first glyph, and its ligatures
abbrev pub ligature_set_json : LigatureSetTable → Data
ligature_set_json s = row (natural s.first ∷ list_of ligature_json s.ligatures ∷ [])

-- a ligature substitution subtable (GSUB lookup type 4)
abbrev pub ligature_subst_json : List LigatureSetTable → Data
ligature_subst_json sets = list_of ligature_set_json sets

-- a reverse chaining subtable: backtrack coverages (the nearest first), lookahead coverages, and rows of a glyph and
-- its substitute (GSUB lookup type 8)
abbrev pub reverse_json : ReverseChainSubst → Data
reverse_json s = row (list_of coverage_json s.backtrack ∷ list_of coverage_json s.lookahead ∷ list_of (glyph_row_json (λ glyph. natural glyph ∷ [])) s.rows ∷ [])
