-- Whether a lookup would apply to glyphs that are all its input.
use Rattle.std.specs.Prelude.{ℕ, ◌==◌, ◌&&◌, ◌||◌, not, Bool, true, false, nat_eq, List, [], ◌∷◌, length}
use Rattle.std.specs.Cmp.Lexicographic.{pointwise}
use Rattle.std.specs.List.{list_any}
use Rattle.layout_common.specs.Classes.{class_of}
use Rattle.layout_common.specs.Coverage.{is_covered}
use Rattle.layout_tables.specs.declared.context.SequenceRule.{SequenceRule}
use Rattle.layout_tables.specs.declared.context.ClassRules.{ClassRules}
use Rattle.layout_tables.specs.declared.context.ContextSubtable.{ContextSubtable}
use Rattle.layout_tables.specs.declared.context.ContextSubtable.TheVariants.{Glyphs, Classes, Coverage}
use Rattle.layout_face.specs.WouldApply.{ligature_would, sequence_would, single_would}
use Rattle.layout_face.specs.declared.substitution.SubstitutionSubtables.{SubstitutionSubtables}
use Rattle.layout_face.specs.declared.substitution.SubstitutionSubtables.TheVariants.{Single, Multiple, Alternate, Ligature, Context, ChainContext, ReverseChainSingle}

-- whether a rule counts: without context around the glyphs, one that requires glyphs there doesn't
abbrev pub counts : {I : Type 0} → Bool → SequenceRule I → Bool
counts zero r = not zero || (length r.backtrack == 0 && length r.lookahead == 0)

-- there are as many glyphs as a rule requires, and each matches
abbrev pub fit : {I : Type 0} → (I → ℕ → Bool) → List I → List ℕ → Bool
fit fits [] [] = true
fit fits (item ∷ items) (glyph ∷ glyphs) = fits item glyph && fit fits items glyphs
fit fits _ _ = false

-- whether a rule by glyphs would apply (OpenType, chapter 2, sequence context format 1)
abbrev pub glyph_rule_would : Bool → List ℕ → SequenceRule ℕ → Bool
glyph_rule_would zero glyphs r = counts zero r && pointwise nat_eq r.input glyphs

-- whether a rule by classes would apply (sequence context format 2)
abbrev pub class_rule_would : ClassRules → Bool → List ℕ → SequenceRule ℕ → Bool
class_rule_would s zero glyphs r = counts zero r && fit (λ class glyph. class_of glyph s.input == class) r.input glyphs

-- whether a rule by sets of glyphs would apply (sequence context format 3)
abbrev pub coverage_rule_would : Bool → List ℕ → SequenceRule (List ℕ) → Bool
coverage_rule_would zero glyphs r = counts zero r && fit (λ set glyph. is_covered glyph set) r.input glyphs

-- whether the first glyph is covered, where rules by classes are tried
abbrev pub is_first_covered : List ℕ → List ℕ → Bool
is_first_covered set [] = false
is_first_covered set (glyph ∷ more) = is_covered glyph set

-- whether a rule of a context would apply
abbrev pub any_rule_would : ContextSubtable → List ℕ → Bool → Bool
any_rule_would (Glyphs rules) glyphs zero = list_any (glyph_rule_would zero glyphs) rules
any_rule_would (Classes s) glyphs zero = is_first_covered s.first glyphs && list_any (class_rule_would s zero glyphs) s.rules
any_rule_would (Coverage rules) glyphs zero = list_any (coverage_rule_would zero glyphs) rules

-- whether a context would apply to at least one glyph
abbrev pub context_would : ContextSubtable → List ℕ → Bool → Bool
context_would s glyphs zero = not (length glyphs == 0) && any_rule_would s glyphs zero

-- whether one of a lookup's subtables would apply
abbrev pub lookup_would : SubstitutionSubtables → List ℕ → Bool → Bool
lookup_would (Single subtables) glyphs zero = list_any (λ s. single_would s.rows glyphs) subtables
lookup_would (Multiple subtables) glyphs zero = list_any (λ s. sequence_would s.rows glyphs) subtables
lookup_would (Alternate subtables) glyphs zero = list_any (λ s. sequence_would s.rows glyphs) subtables
lookup_would (Ligature subtables) glyphs zero = list_any (λ s. ligature_would s glyphs) subtables
lookup_would (Context subtables) glyphs zero = list_any (λ s. context_would s glyphs zero) subtables
lookup_would (ChainContext subtables) glyphs zero = list_any (λ s. context_would s glyphs zero) subtables
lookup_would (ReverseChainSingle subtables) glyphs zero = list_any (λ s. single_would s.rows glyphs) subtables
