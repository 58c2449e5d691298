-- The glyphs at which a subtable can act: those that its coverage has (OpenType, chapter 2, coverage table).
use Rattle.std.specs.Prelude.{ℕ, ◌==◌, Bool, true, false, is_some, List, [], ◌∷◌, ◌++◌, drop, Option, Some, None, option_and_then}
use Rattle.std.specs.List.{list_any}
use Rattle.layout_common.specs.Coverage.{is_covered}
use Rattle.layout_common.specs.declared.neighbours.Side.{Side}
use Rattle.layout_common.specs.declared.neighbours.Side.TheVariants.{Before, After}
use Rattle.layout_common.specs.Rows.{value_of}
use Rattle.layout_common.specs.declared.glyph_row.GlyphRow.{GlyphRow}
use Rattle.layout_tables.specs.Layout.{LigatureSetTable, ligature_set_of}
use Rattle.layout_tables.specs.Substitutions.{glyphs_of}
use Rattle.layout_tables.specs.declared.sequence.SequenceRow.{SequenceRow}
use Rattle.layout_tables.specs.declared.cursive.EntryExit.{EntryExit}
use Rattle.layout_tables.specs.declared.pair.PairPos.{PairPos}
use Rattle.layout_tables.specs.declared.pair.PairPos.TheVariants as Pairs
use Rattle.layout_tables.specs.declared.context.SequenceRule.{SequenceRule}
use Rattle.layout_tables.specs.declared.context.ContextSubtable.{ContextSubtable}
use Rattle.layout_tables.specs.declared.context.ContextSubtable.TheVariants.{Glyphs, Classes, Coverage}

-- single and reverse chaining substitution (GSUB lookup types 1 and 8) and single adjustment (GPOS lookup type 1): the
-- glyphs that have a value; attachment of marks (GPOS lookup types 4 to 6): the marks of its mark coverage
abbrev pub covers_value : {V : Type 0} → List (GlyphRow V) → ℕ → Bool
covers_value rows g = is_some (value_of g rows)

-- multiple and alternate substitution (GSUB lookup types 2 and 3): the glyphs that have a sequence, or alternates
abbrev pub covers_sequence : List SequenceRow → ℕ → Bool
covers_sequence rows g = is_some (glyphs_of g rows)

-- ligature substitution (GSUB lookup type 4): the first components of its ligatures
abbrev pub covers_first_component : List LigatureSetTable → ℕ → Bool
covers_first_component sets g = is_some (ligature_set_of g sets)

-- pair adjustment (GPOS lookup type 2): the first glyphs of its pairs
abbrev pub covers_first_of_pair : PairPos → ℕ → Bool
covers_first_of_pair (Pairs.Glyphs p) g = list_any (λ r. r.first == g) p.rows
covers_first_of_pair (Pairs.Classes p) g = is_covered g p.coverage

-- cursive attachment (GPOS lookup type 3): the glyphs that have an entry anchor, at which they join the glyph before
abbrev pub covers_entry : List (GlyphRow EntryExit) → ℕ → Bool
covers_entry rows g = is_some (option_and_then (λ e. e.entry) (value_of g rows))

-- whether the first item of a rule's input passes a test; a rule without input begins with none, and never matches
abbrev pub begins_with : {I : Type 0} → (I → Bool) → List I → Bool
begins_with test [] = false
begins_with test (i ∷ input) = test i

-- contexts and chained contexts (GSUB lookup types 5 and 6, GPOS lookup types 7 and 8): by glyphs (format 1) the first
-- input glyphs of its rules; by classes (format 2) its coverage; by sets (format 3) the first input coverages of its
-- rules
abbrev pub covers_context : ContextSubtable → ℕ → Bool
covers_context (Glyphs rules) g = list_any (λ r. begins_with (λ first. g == first) r.input) rules
covers_context (Classes s) g = is_covered g s.first
covers_context (Coverage rules) g = list_any (λ r. begins_with (is_covered g) r.input) rules

-- the items that a rule requires on a side of the first one of its input, the nearest first: its backtrack sequence, or
-- the rest of its input and then its lookahead sequence
abbrev pub items_on : {I : Type 0} → Side → SequenceRule I → List I
items_on Before r = r.backtrack
items_on After r = drop 1 r.input ++ r.lookahead

-- whether the first of some items passes for a glyph; where none is required anything may stand there
abbrev pub first_admits : {I : Type 0} → (I → ℕ → Bool) → List I → Option ℕ → Bool
first_admits passes [] o = true
first_admits passes (i ∷ items) None = false
first_admits passes (i ∷ items) (Some g) = passes i g

-- whether a context may act where a glyph, or none, stands on a side, the nearest that the lookup's flag doesn't skip: by
-- glyphs and by sets one of its rules admits it; by classes nothing is said
abbrev pub admits_context : ContextSubtable → Side → Option ℕ → Bool
admits_context (Glyphs rules) side o = list_any (λ r. first_admits (λ glyph g. g == glyph) (items_on side r) o) rules
admits_context (Classes s) side o = true
admits_context (Coverage rules) side o = list_any (λ r. first_admits (λ set g. is_covered g set) (items_on side r) o) rules
