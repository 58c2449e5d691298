-- Lookups only count the budget of nested lookups down.
use Rattle.std.proofs.Common.{ℕ, zero, suc, ℤ, ◌+◌, Bool, nat_le, List, [], ◌∷◌, Option, Some, None, length, refl}
use Rattle.std.specs.Prelude.{slice_get, ◌%◌}
use Rattle.buffer_common.specs.declared.direction.Direction.{Direction}
use Rattle.buffer_glyphs.specs.declared.cause.ShapeCause.TheVariants.{TooLong}
use Rattle.buffer_glyphs.specs.Events.{Event, Break, Replace}
use Rattle.buffer_core.specs.Readings.{View, Stage, always, with_events}
use Rattle.layout_face.specs.declared.parts.GlyphDefinition.{GlyphDefinition}
use Rattle.buffer_stages.specs.Actions.{Acts, Action, whole, uncut_with_positions}
use Rattle.buffer_stages.specs.Pauses.{with_own_random}
use Rattle.layout_match.specs.Applied.{own_search, next_random}
use Rattle.layout_match.specs.Matches.{input_indices}
use Rattle.layout_gsub.specs.Alternates.{drawn_alternate}
use Rattle.layout_gsub.specs.Ligating.{ligature_substitution}
use Rattle.layout_gsub.specs.Multiples.{multiple_substitution, cut_with_multiple}
use Rattle.layout_gsub.specs.Replacements.{single_substitution, cut_with_substitute}
use Rattle.layout_substitution.specs.Lookups.{cut_at_index, backward_trials, backward_pass}
use Rattle.layout_positioning.specs.Lookups.{positioning_pass}
use Rattle.buffer_parts.specs.Counting.{IsFair, with_budget_changed, CountsBudget}
use Rattle.buffer_parts.specs.Lemmas.Counting.{and_then_counts, same_counts, two_count_budget}
use Rattle.layout_laws.specs.Counting.{rebudgeted_cut, OutcomeCounts, RuleCounts, RuleCountsBudget, NestCountsBudget}
use Rattle.layout_laws.proofs.Lemmas.Counting.{limited_counts, later_counts, or_else_counts, after_counts, NextCounts, tried_counts, lookups_count_budget}
use Rattle.layout_laws.proofs.Lemmas.NestedCounting.{nested_count_budget}
use Rattle.layout_laws.specs.Lengths.{SubstitutionCountsBudget, PositioningCountsBudget}
use Rattle.layout_laws.proofs.Lemmas.Rules.{Limits, IsRelated, NestRelated, IsClosed}
use Rattle.layout_laws.proofs.Lemmas.Substitutions.{IsSubstituted, forward_related, backward_related}
use Rattle.layout_laws.proofs.Lemmas.Positionings.{IsPositioned, action_related}
use Rattle.layout_laws.proofs.Lemmas.Ligatures.{items_between_components, ligated_cut, ligated_events}
use Rattle.layout_laws.proofs.Lemmas.Stages.{IsOfStages, AreSubstituting, ArePositioning, substituted_has, positioned_has}

-- ---- rules

-- a change of budgets that is not felt
record Change : Type 0 where
  pub ample : ℤ → Bool
  pub change : ℤ → ℤ
  pub fair : IsFair ample change

-- the index is the change
abbrev by_budget : Limits
by_budget = record {
  Index = Change;
  Holds = λ i c o p. OutcomeCounts i.ample i.change c.max_ops o p;
  limit = λ i c. c.max_len;
  scratch_flags = λ i c. c.scratch_flags;
  budget = λ i c. i.change c.max_ops;
}

rule_counts : (act : Action) → ((i : Change) → IsRelated by_budget i act) → RuleCountsBudget act
rule_counts act k ample change fair c = k (record { ample = ample; change = change; fair = fair }) c

nest_counts : (nest : Option (ℕ → Action)) → NestRelated by_budget nest → NestCountsBudget nest
nest_counts None k = tt
nest_counts (Some act) k = λ n. rule_counts (act n) (k n)

closed_by_budget : IsClosed by_budget
closed_by_budget = record {
  passes = λ i c l. refl;
  attempts = λ i back ahead c l. refl;
  either = λ i c o p second third f g. or_else_counts i.ample i.change c.max_ops o p second third f g;
  breaks = λ i from to c o p f. later_counts i.ample i.change c.max_ops (Break from to ∷ []) o p f;
  nested = λ i nest records ps end c k. nested_count_budget nest records ps end (nest_counts nest k) i.ample i.change i.fair c;
}

one_counts : (ample : ℤ → Bool) (change : ℤ → ℤ) (gdef : GlyphDefinition) (o : Option ℕ) → RuleCounts ample change (single_substitution gdef o)
one_counts ample change gdef None c = λ l. refl
one_counts ample change gdef (Some glyph) c =
    limited_counts ample change c.max_ops (nat_le (length c.front + 1) c.max_len) (Acts (cut_with_substitute gdef glyph c) []) (Acts (cut_with_substitute gdef glyph (rebudgeted_cut change c)) []) TooLong TooLong (λ l. (l, refl))

drawn_counts : (ample : ℤ → Bool) (change : ℤ → ℤ) (gdef : GlyphDefinition) (glyphs : List ℕ) → RuleCounts ample change (drawn_alternate gdef glyphs)
drawn_counts ample change gdef glyphs c =
    let o : Option ℕ = slice_get glyphs (next_random c.random % length glyphs) in
    later_counts ample change c.max_ops (Break 0 (length (whole c)) ∷ []) (single_substitution gdef o (record c { random = next_random c.random })) (single_substitution gdef o (record (rebudgeted_cut change c) { random = next_random c.random }))
    (one_counts ample change gdef o (record c { random = next_random c.random }))

several_counts : (ample : ℤ → Bool) (change : ℤ → ℤ) (gdef : GlyphDefinition) (glyphs : List ℕ) → RuleCounts ample change (multiple_substitution gdef glyphs)
several_counts ample change gdef glyphs c =
    let es : List Event = Replace (length c.front) 1 (length glyphs) ∷ [] in
    limited_counts ample change c.max_ops (nat_le (length c.front + length glyphs) c.max_len) (Acts (cut_with_multiple gdef glyphs c) es) (Acts (cut_with_multiple gdef glyphs (rebudgeted_cut change c)) es) TooLong TooLong (λ l. (l, refl))

ligature_counts : (ample : ℤ → Bool) (change : ℤ → ℤ) (gdef : GlyphDefinition) (glyph end : ℕ) (places : List ℕ) → RuleCounts ample change (ligature_substitution gdef glyph places end)
ligature_counts ample change gdef glyph end places c =
    limited_counts ample change c.max_ops (nat_le (length c.front + (1 + length (items_between_components places c))) c.max_len) (Acts (ligated_cut gdef glyph places end c) (ligated_events places end c)) (Acts (ligated_cut gdef glyph places end (rebudgeted_cut change c)) (ligated_events places end c)) TooLong TooLong (λ l. (l, refl))

substituted_by_budget : IsSubstituted by_budget
substituted_by_budget = record {
  closed = closed_by_budget;
  one = λ i gdef glyph. one_counts i.ample i.change gdef (Some glyph);
  drawn = λ i gdef glyphs. drawn_counts i.ample i.change gdef glyphs;
  several = λ i gdef glyph next more x c there. several_counts i.ample i.change gdef (glyph ∷ next ∷ more) c;
  none = λ i x c there l. (l, refl);
  ligature = λ i a glyph end tests x c there found. ligature_counts i.ample i.change a.font.gdef glyph end (input_indices (own_search a c.rest) tests c.rest) c;
  there = λ i gdef glyph ahead back c l. (l, refl);
}

positioned_by_budget : IsPositioned by_budget
positioned_by_budget = record {
  closed = closed_by_budget;
  placed = λ i n ps c l. (l, refl);
  broken = λ i n back ahead ps c l. (l, refl);
  strictly_broken = λ i n ahead ps c l. (l, refl);
  attached = λ i near n back ahead ps c l. (l, refl);
}

-- ---- stages

tried_back_counts : (ample : ℤ → Bool) (change : ℤ → ℤ) (act : Action) (v : View) (n : ℕ) → RuleCounts ample change act → NextCounts ample change (backward_trials act v n) (backward_trials act (with_budget_changed change v) n)
tried_back_counts ample change act v zero k c = λ l. (l, refl)
tried_back_counts ample change act v (suc n) k c =
    after_counts ample change (act (cut_at_index n c)) (act (cut_at_index n (rebudgeted_cut change c))) (backward_trials act v n) (backward_trials act (with_budget_changed change v) n) v (cut_at_index n c) (k (cut_at_index n c)) (tried_back_counts ample change act v n k)

back_counts : (act : Action) → RuleCountsBudget act → CountsBudget (backward_pass act)
back_counts act k ample change fair v = tried_back_counts ample change act v (length v.items) (k ample change fair) (uncut_with_positions v)

over_counts : (act : Direction → Action) → ((d : Direction) → RuleCountsBudget (act d)) → CountsBudget (λ v. positioning_pass (act v.direction) v)
over_counts act k ample change fair v = tried_counts ample change (act v.direction) v (length v.items) (k v.direction ample change fair) (uncut_with_positions v)

own_counts : (stage : Stage) → CountsBudget stage → CountsBudget (with_own_random stage)
own_counts stage k ample change fair v =
    and_then_counts ample change v.max_ops (stage (record v { random = 1 })) (stage (record (with_budget_changed change v) { random = 1 })) (always (λ w. with_events [] (record w { random = v.random }))) (k ample change fair (record v { random = 1 })) (λ w l. (l, refl))

stages_count : IsOfStages CountsBudget RuleCountsBudget
stages_count = record { same = λ ample change fair. same_counts ample change; both = two_count_budget; up = lookups_count_budget; back = back_counts; over = over_counts; own = own_counts }

substituting_counts : AreSubstituting RuleCountsBudget
substituting_counts = record {
  up = λ table a lookup. rule_counts _ (λ i. forward_related by_budget i substituted_by_budget table a lookup);
  back = λ a lookup. rule_counts _ (λ i. backward_related by_budget i substituted_by_budget a lookup);
}

positioning_counts : ArePositioning RuleCountsBudget
positioning_counts = record { over = λ table d a lookup. rule_counts _ (λ i. action_related by_budget i positioned_by_budget table d a lookup) }

pub substitution_counts_budget : SubstitutionCountsBudget
substitution_counts_budget = substituted_has CountsBudget RuleCountsBudget stages_count substituting_counts

pub positioning_counts_budget : PositioningCountsBudget
positioning_counts_budget = positioned_has CountsBudget RuleCountsBudget stages_count positioning_counts
