-- Rules of substitution that are local: what they do to a fragment of a text alone, they do in the text, or bind it to what is outside.
use Rattle.std.specs.Prelude.{ℕ, Bool, List}
use Rattle.layout_face.specs.declared.parts.GlyphDefinition.{GlyphDefinition}
use Rattle.layout_common.specs.declared.glyph_row.GlyphRow.{GlyphRow}
use Rattle.layout_tables.specs.declared.sequence.SequenceRow.{SequenceRow}
use Rattle.layout_tables.specs.Layout.{LigatureSetTable}
use Rattle.buffer_stages.specs.Actions.{Action, first_rule}
use Rattle.layout_match.specs.Applied.{ApplyContext}
use Rattle.layout_match.specs.Trying.{met_first}
use Rattle.layout_gsub.specs.Alternates.{alternate_subtable}
use Rattle.layout_gsub.specs.Ligating.{ligature_subst}
use Rattle.layout_gsub.specs.Multiples.{multiple_subtable}
use Rattle.layout_gsub.specs.Replacements.{single_subtable}
use Rattle.layout_laws.specs.Breaks.Local.{AnyPositions, IsLocal}

-- single substitution is local
abbrev pub SinglesAreLocal : Type 0
SinglesAreLocal = (gdef : GlyphDefinition) (rows : List (GlyphRow ℕ)) → IsLocal AnyPositions (single_subtable gdef rows)

-- multiple substitution is local
abbrev pub MultiplesAreLocal : Type 0
MultiplesAreLocal = (gdef : GlyphDefinition) (rows : List SequenceRow) → IsLocal AnyPositions (multiple_subtable gdef rows)

-- alternate substitution is local, at random too
abbrev pub AlternatesAreLocal : Type 0
AlternatesAreLocal = (gdef : GlyphDefinition) (random : Bool) (bits : ℕ) (rows : List SequenceRow) → IsLocal AnyPositions (alternate_subtable gdef random bits rows)

-- ligature substitution is local
abbrev pub LigaturesAreLocal : Type 0
LigaturesAreLocal = (a : ApplyContext) (sets : List LigatureSetTable) → IsLocal AnyPositions (ligature_subst a sets)

-- the first of some local rules is local
abbrev pub FirstRulesAreLocal : Type 0
FirstRulesAreLocal = (act : ℕ → Action) (rules : List ℕ) → ((i : ℕ) → IsLocal AnyPositions (act i)) → IsLocal AnyPositions (first_rule act rules)

-- a local rule is local where its lookup meets the item
abbrev pub MetRulesAreLocal : Type 0
MetRulesAreLocal = (a : ApplyContext) (act : Action) → IsLocal AnyPositions act → IsLocal AnyPositions (met_first a act)
