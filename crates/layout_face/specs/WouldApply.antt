-- Whether a subtable would apply to glyphs that are all its input.
use Rattle.std.specs.Prelude.{ℕ, Bool, false, nat_eq, is_some, List, [], ◌∷◌, Option, Some, None}
use Rattle.std.specs.Cmp.Lexicographic.{pointwise}
use Rattle.std.specs.List.{list_any}
use Rattle.layout_common.specs.Rows.{value_of}
use Rattle.layout_common.specs.declared.glyph_row.GlyphRow.{GlyphRow}
use Rattle.layout_tables.specs.Layout.{LigatureSetTable, ligature_set_of}
use Rattle.layout_tables.specs.declared.sequence.SequenceRow.{SequenceRow}
use Rattle.layout_tables.specs.Substitutions.{glyphs_of}

-- single and reverse chaining substitution apply to one glyph that they cover
abbrev pub single_would : List (GlyphRow ℕ) → List ℕ → Bool
single_would rows [] = false
single_would rows (glyph ∷ []) = is_some (value_of glyph rows)
single_would rows (glyph ∷ next ∷ more) = false

-- multiple and alternate substitution apply to one glyph that they cover
abbrev pub sequence_would : List SequenceRow → List ℕ → Bool
sequence_would rows [] = false
sequence_would rows (glyph ∷ []) = is_some (glyphs_of glyph rows)
sequence_would rows (glyph ∷ next ∷ more) = false

-- whether one of a set's ligatures would apply
abbrev pub set_would : Option LigatureSetTable → List ℕ → Bool
set_would None rest = false
set_would (Some set) rest = list_any (λ l. pointwise nat_eq l.components rest) set.ligatures

-- ligature substitution applies to a glyph and a ligature's components after it, and no more
abbrev pub ligature_would : List LigatureSetTable → List ℕ → Bool
ligature_would sets [] = false
ligature_would sets (glyph ∷ rest) = set_would (ligature_set_of glyph sets) rest
