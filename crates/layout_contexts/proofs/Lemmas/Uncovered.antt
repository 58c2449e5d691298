-- A context passes at a glyph that it doesn't cover.
use Rattle.std.proofs.Common.{ℕ, ◌≡◌, ◌==◌, false, List, [], ◌∷◌, map, Option, refl, sym, ap, ◌∙◌}
use Rattle.std.proofs.lemmas.Bool.{and_right}
use Rattle.buffer_glyphs.specs.Items.{Item}
use Rattle.buffer_glyphs.specs.Parts.{first_of}
use Rattle.layout_common.specs.Coverage.{is_covered}
use Rattle.layout_tables.specs.Covers.{begins_with, covers_context}
use Rattle.layout_tables.specs.declared.context.ContextSubtable.{ContextSubtable}
use Rattle.layout_tables.specs.declared.context.ContextSubtable.TheVariants.{Glyphs, Classes, Coverage}
use Rattle.layout_match.specs.Applied.{ApplyContext}
use Rattle.layout_match.specs.Sequences.{is_covered_by, is_glyph, is_number}
use Rattle.layout_match.specs.Skipping.{PassesAt}
use Rattle.layout_match.specs.Lemmas.Passing.{first_passes, passes_at_item}
use Rattle.buffer_stages.specs.Actions.{Action}
use Rattle.layout_contexts.specs.Chains.{Chain, begins, chain_rule, class_rules, context_subtable, coverage_chain, glyph_chain}
use Rattle.layout_contexts.proofs.Fitted.{unbegun}

-- a rule passes at an item that doesn't begin its input
chain_passes : (nest : Option (ℕ → Action)) (a : ApplyContext) (r : Chain) (x : Item) → begins r.input x ≡ false → PassesAt (chain_rule nest a r) x
chain_passes nest a r x none c rest e = unbegun nest a r x c (ap first_of e) none

glyph_begins : (input : List ℕ) (x : Item) → begins_with (λ first. x.number == first) input ≡ begins (map is_glyph input) x
glyph_begins [] x = refl
glyph_begins (i ∷ input) x = refl

set_begins : (input : List (List ℕ)) (x : Item) → begins_with (is_covered x.number) input ≡ false → begins (map is_covered_by input) x ≡ false
set_begins [] x none = refl
set_begins (set ∷ input) x none = and_right (is_number x.number) (is_covered x.number set) none

pub context_uncovered : (nest : Option (ℕ → Action)) (a : ApplyContext) (subtable : ContextSubtable) (x : Item) → covers_context subtable x.number ≡ false → PassesAt (context_subtable nest a subtable) x
context_uncovered nest a (Glyphs rules) x none =
    first_passes (λ r. chain_rule nest a (glyph_chain r)) (λ r. begins_with (λ first. x.number == first) r.input) rules x (λ r out. chain_passes nest a (glyph_chain r) x (sym (glyph_begins r.input x) ∙ out)) none
context_uncovered nest a (Coverage rules) x none =
    first_passes (λ r. chain_rule nest a (coverage_chain r)) (λ r. begins_with (is_covered x.number) r.input) rules x (λ r out. chain_passes nest a (coverage_chain r) x (set_begins r.input x out)) none
context_uncovered nest a (Classes s) x none =
    passes_at_item (class_rules nest a s) x (λ c. let off = and_right (is_number x.number) (is_covered x.number s.first) none in rw off refl)
