-- The GSUB subtables; glyph numbers are below the limit.
use Rattle.std.specs.Prelude.{ℕ, Bool, false, if◌then◌else◌, is_some, List, [], ◌∷◌, None, Result, Ok}
use Rattle.std.specs.Ordering.{nat_cmp}
use Rattle.serde_json.specs.Data.{Data, Items, no_items, item}
use Rattle.serde_json.specs.Find.{as_number}
use Rattle.shell_json.specs.declared.fault.JsonFault.{JsonFault}
use Rattle.shell_json.specs.Cell.{and_then}
use Rattle.shell_json.specs.Items.{list_of}
use Rattle.shell_face_json.specs.Lists.{number_below, items_of, value_list}
use Rattle.shell_face_json.specs.Row.{only, row_of_two, row_of_three}
use Rattle.shell_face_json.specs.Sorted.{rows_by_key}
use Rattle.shell_face_json.specs.Glyphs.{glyph_rows, glyph_row_list, coverage}
use Rattle.layout_tables.specs.Layout.{LigatureTable, LigatureSetTable}
use Rattle.layout_tables.specs.declared.single_subst.SingleSubst.{SingleSubst}
use Rattle.layout_tables.specs.declared.sequence.SequenceRow.{SequenceRow}
use Rattle.layout_tables.specs.declared.sequence.MultipleSubst.{MultipleSubst}
use Rattle.layout_tables.specs.declared.sequence.AlternateSubst.{AlternateSubst}
use Rattle.layout_tables.specs.declared.reverse.ReverseChainSubst.{ReverseChainSubst}

-- a single substitution subtable: rows of a glyph and its substitute (GSUB lookup type 1)
abbrev pub single : ℕ → Data → Result SingleSubst JsonFault
single limit d = and_then (and_then (list_of d) (glyph_rows (only (number_below limit)))) (λ rows. Ok (record { rows = rows }))

-- a glyph, and a list of glyphs
abbrev pub sequence_row : ℕ → Data → Result SequenceRow JsonFault
sequence_row limit d =
    and_then (row_of_two (number_below limit) (value_list (number_below limit)) d) (λ p. Ok (record { glyph = p.0; glyphs = p.1.0 }))

-- rows of a glyph and a list of glyphs, by rising glyphs
abbrev pub sequence_rows : ℕ → Data → Result (List SequenceRow) JsonFault
sequence_rows limit d = and_then (list_of d) (rows_by_key nat_cmp (λ r. r.glyph) (sequence_row limit) None)

-- a multiple substitution subtable: rows of a glyph and its sequence (GSUB lookup type 2)
abbrev pub multiple : ℕ → Data → Result MultipleSubst JsonFault
multiple limit d = and_then (sequence_rows limit d) (λ rows. Ok (record { rows = rows }))

-- an alternate substitution subtable: rows of a glyph and its alternates (GSUB lookup type 3)
abbrev pub alternate : ℕ → Data → Result AlternateSubst JsonFault
alternate limit d = and_then (sequence_rows limit d) (λ rows. Ok (record { rows = rows }))

-- ---- ligatures

-- a ligature: the component glyphs after the first, and the ligature glyph
abbrev pub ligature : ℕ → Data → Result LigatureTable JsonFault
ligature limit d =
    and_then (row_of_two (value_list (number_below limit)) (number_below limit) d) (λ p. Ok (record { components = p.0; glyph = p.1.0 }))

-- a list and a number are one ligature, and no list of ligatures
abbrev pub is_ligature : Items → Bool
is_ligature no_items = false
is_ligature (item a no_items) = false
is_ligature (item a (item b no_items)) = is_some (as_number b)
is_ligature (item a (item b (item c ds))) = false

-- one ligature, or a list of them
abbrev pub ligatures : ℕ → Data → Result (List LigatureTable) JsonFault
ligatures limit d = and_then (list_of d) (λ ds.
    if is_ligature ds then and_then (ligature limit d) (λ l. Ok (l ∷ [])) else items_of (ligature limit) ds)

-- a first glyph, and its ligatures
abbrev pub ligature_set : ℕ → Data → Result LigatureSetTable JsonFault
ligature_set limit d =
    and_then (row_of_two (number_below limit) (ligatures limit) d) (λ p. Ok (record { first = p.0; ligatures = p.1.0 }))

-- a ligature substitution subtable: ligature sets by rising first glyphs (GSUB lookup type 4)
abbrev pub ligature_subst : ℕ → Data → Result (List LigatureSetTable) JsonFault
ligature_subst limit d = and_then (list_of d) (rows_by_key nat_cmp (λ s. s.first) (ligature_set limit) None)

-- ---- reverse chaining

-- a reverse chaining subtable: backtrack coverages (the nearest first), lookahead coverages, and rows of a glyph and
-- its substitute (GSUB lookup type 8)
abbrev pub reverse : ℕ → Data → Result ReverseChainSubst JsonFault
reverse limit d =
    and_then (row_of_three (value_list (coverage limit)) (value_list (coverage limit)) (glyph_row_list (only (number_below limit))) d) (λ p.
    Ok (record { backtrack = p.0; lookahead = p.1.0; rows = p.1.1.0 }))
