-- A subtable by its rules.
use Rattle.std.proofs.Common.{ℕ, ◌≡◌, if◌then◌else◌, List, [], ◌∷◌, map, Option, Some, slice_get, refl, ap, ◌∙◌}
use Rattle.buffer_glyphs.specs.declared.info.hb_glyph_info_t.{hb_glyph_info_t}
use Rattle.buffer_glyphs.specs.Items.{item_of}
use Rattle.buffer_core.specs.Sides.{Sides}
use Rattle.layout_tables.specs.declared.context.ContextSubtable.{ContextSubtable}
use Rattle.layout_tables.specs.declared.context.ContextSubtable.TheVariants.{Glyphs, Classes, Coverage}
use Rattle.layout_match.specs.Applied.{ApplyContext}
use Rattle.layout_match.specs.Sequences.{is_covered_by}
use Rattle.buffer_stages.specs.Actions.{Cut, Action, Passes, at_first, first_rule, or_else}
use Rattle.buffer_stages.specs.Performing.{cut_with}
use Rattle.buffer_stages.proofs.Lemmas.Glyphs.{first_item}
use Rattle.layout_contexts.specs.Chains.{chain_rule, class_chain, class_rules, context_subtable, coverage_chain, glyph_chain}
use Rattle.layout_contexts.specs.Rules.{chains_of, is_tried_at}

first_of_map : {R S : Type 0} (act : S → Action) (f : R → S) (rules : List R) (c : Cut) → first_rule (λ r. act (f r)) rules c ≡ first_rule act (map f rules) c
first_of_map act f [] c = refl
first_of_map act f (r ∷ rules) c = ap (or_else (act (f r) c)) (first_of_map act f rules c)

-- at the glyph at the cursor a subtable does what the first of its rules does, where they are tried
pub subtable_rules : (nest : Option (ℕ → Action)) (a : ApplyContext) (subtable : ContextSubtable) (r : ℕ) (s : Sides) (g : hb_glyph_info_t) → slice_get s.ahead 0 ≡ Some g
    → context_subtable nest a subtable (cut_with r s) ≡ (if is_tried_at subtable (item_of g) then first_rule (chain_rule nest a) (chains_of subtable) (cut_with r s) else Passes [])
subtable_rules nest a (Glyphs rules) r s g at = first_of_map (chain_rule nest a) glyph_chain rules (cut_with r s)
subtable_rules nest a (Coverage rules) r s g at = first_of_map (chain_rule nest a) coverage_chain rules (cut_with r s)
subtable_rules nest a (Classes t) r s g at =
    ap (λ o. at_first (class_rules nest a t) o (cut_with r s)) (first_item s.ahead g at)
    ∙ ap (λ o. if is_covered_by t.first (item_of g) then o else Passes []) (first_of_map (chain_rule nest a) (class_chain t) t.rules (cut_with r s))
