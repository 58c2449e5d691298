-- Lookups keep the parts of a text.
use Rattle.std.proofs.Common.{ℕ, zero, suc, ◌≡◌, [], length, ap, subst}
use Rattle.std.proofs.lemmas.List.{take-append-drop}
use Rattle.buffer_common.specs.declared.direction.Direction.{Direction}
use Rattle.buffer_core.specs.Readings.{View, Stage, always, with_events}
use Rattle.buffer_stages.specs.Actions.{Cut, whole, view_at, uncut_with_positions, Action}
use Rattle.buffer_stages.specs.Pauses.{with_own_random}
use Rattle.layout_substitution.specs.Lookups.{cut_at_index, backward_trials, backward_pass}
use Rattle.layout_positioning.specs.Lookups.{positioning_pass}
use Rattle.buffer_parts.specs.Rules.{RuleKeepsParts}
use Rattle.buffer_parts.specs.Stages.{KeepsParts}
use Rattle.buffer_parts.specs.Lemmas.Stages.{ReadsParts, nothing_keeps, read_now, then_reads, stages_keep_parts, same_keeps}
use Rattle.layout_laws.proofs.Lemmas.Lookups.{after_keeps, tried_keeps, lookups_keep_parts}
use Rattle.layout_laws.specs.Parts.{SubstitutionKeepsParts, PositioningKeepsParts}
use Rattle.layout_laws.proofs.Lemmas.Substitutions.{forward_related, backward_related}
use Rattle.layout_laws.proofs.Lemmas.Positionings.{action_related}
use Rattle.layout_laws.proofs.Lemmas.KeptRules.{by_parts, substituted_by_parts, positioned_by_parts}
use Rattle.layout_laws.proofs.Lemmas.Stages.{IsOfStages, AreSubstituting, ArePositioning, substituted_has, positioned_has}
use Rattle.layout_laws.proofs.BreakLemmas.Backward.{trials_keep as back_keeps, backward_keeps as down_keeps}

-- ---- at all indices

cut_whole : (i : ℕ) (c : Cut) → whole (cut_at_index i c) ≡ whole c
cut_whole i c = take-append-drop i (whole c)

along_keeps : (act : Direction → Action) → ((d : Direction) → RuleKeepsParts (act d)) → KeepsParts (λ v. positioning_pass (act v.direction) v)
along_keeps act p v r level e = tried_keeps (act v.direction) v (length v.items) (uncut_with_positions v) (p v.direction) r level e

-- the stage that puts the random state back
abbrev restoration : ℕ → Stage
restoration n = always (λ w. with_events [] (record w { random = n }))

restored_keeps : (n : ℕ) → KeepsParts (restoration n)
restored_keeps n v = read_now (length v.items) [] (record v { random = n }) (λ level. nothing_keeps level (length v.items))

own_keeps : (stage : Stage) → KeepsParts stage → KeepsParts (with_own_random stage)
own_keeps stage p v r level e = then_reads (length v.items) (stage (record v { random = 1 })) (restoration v.random) (p (record v { random = 1 })) (restored_keeps v.random) r level e

-- ---- stages

stages_keep : IsOfStages KeepsParts RuleKeepsParts
stages_keep = record { same = same_keeps; both = stages_keep_parts; up = lookups_keep_parts; back = down_keeps; over = along_keeps; own = own_keeps }

substituting_keeps : AreSubstituting RuleKeepsParts
substituting_keeps = record {
  up = λ table a lookup. forward_related by_parts tt substituted_by_parts table a lookup;
  back = λ a lookup. backward_related by_parts tt substituted_by_parts a lookup;
}

positioning_keeps : ArePositioning RuleKeepsParts
positioning_keeps = record { over = λ table d a lookup. action_related by_parts tt positioned_by_parts table d a lookup }

pub substitution_keeps_parts : SubstitutionKeepsParts
substitution_keeps_parts = substituted_has KeepsParts RuleKeepsParts stages_keep substituting_keeps

pub positioning_keeps_parts : PositioningKeepsParts
positioning_keeps_parts = positioned_has KeepsParts RuleKeepsParts stages_keep positioning_keeps
