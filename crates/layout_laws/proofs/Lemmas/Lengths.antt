-- Lookups depend on no limit of length.
use Rattle.std.proofs.Common.{ℕ, zero, suc, ◌≡◌, ◌+◌, Bool, true, false, nat_le, List, [], ◌∷◌, Option, Some, None, length, drop, refl, sym, ◌∙◌}
use Rattle.std.specs.Prelude.{slice_get, ◌%◌}
use Rattle.std.proofs.lemmas.Nat.{and_or_self}
use Rattle.buffer_common.specs.declared.direction.Direction.{Direction}
use Rattle.buffer_glyphs.specs.declared.cause.ShapeCause.TheVariants.{TooLong}
use Rattle.buffer_glyphs.specs.Events.{Event, Break, Replace}
use Rattle.buffer_core.specs.Readings.{View, Stage, always, with_events}
use Rattle.layout_face.specs.declared.parts.GlyphDefinition.{GlyphDefinition}
use Rattle.buffer_stages.specs.Actions.{Cut, Acts, Action, whole, uncut_with_positions}
use Rattle.buffer_stages.specs.Pauses.{with_own_random}
use Rattle.layout_match.specs.Applied.{own_search, next_random}
use Rattle.layout_match.specs.Matches.{input_indices}
use Rattle.layout_gsub.specs.Alternates.{drawn_alternate}
use Rattle.layout_gsub.specs.Ligating.{ligature_substitution}
use Rattle.layout_gsub.specs.Multiples.{multiple_substitution, cut_with_multiple}
use Rattle.layout_gsub.specs.Replacements.{single_substitution, cut_with_substitute}
use Rattle.layout_gsub.specs.Reverses.{cut_with_substitute_kept}
use Rattle.layout_gpos.specs.Anchors.{with_attachment_flag}
use Rattle.layout_gpos.specs.Moving.{cut_with_positions}
use Rattle.layout_substitution.specs.Lookups.{cut_at_index, backward_trials, backward_pass}
use Rattle.layout_positioning.specs.Lookups.{positioning_pass}
use Rattle.buffer_parts.specs.Alike.{attachment_bit, with_limit_and_flags, ReadingsAlike, DependsOnNoLength}
use Rattle.buffer_parts.specs.Lemmas.Alike.{at_alike, and_then_alike, same_depends, two_depend_on_no_length}
use Rattle.layout_laws.specs.Alike.{cut_as, CutsAlike, OutcomesAlike, RuleDependsOnNoLength, NestDependsOnNoLength}
use Rattle.layout_laws.proofs.Lemmas.Alike.{at_alike_cut, cuts_alike, limited_outcomes, later_alike, or_else_alike, here_alike, after_alike, NextAlike, tried_alike, lookups_depend_on_no_length}
use Rattle.layout_laws.proofs.Lemmas.NestedAlike.{nested_depend_on_no_length}
use Rattle.layout_laws.specs.Lengths.{SubstitutionDependsOnNoLength, PositioningDependsOnNoLength}
use Rattle.layout_laws.proofs.Lemmas.Rules.{Limits, IsRelated, NestRelated, IsClosed}
use Rattle.layout_laws.proofs.Lemmas.Substitutions.{IsSubstituted, forward_related, backward_related}
use Rattle.layout_laws.proofs.Lemmas.Positionings.{IsPositioned, action_related}
use Rattle.layout_laws.proofs.Lemmas.Ligatures.{items_between_components, ligated_cut, ligated_events}
use Rattle.layout_laws.proofs.Lemmas.Stages.{IsOfStages, AreSubstituting, ArePositioning, substituted_has, positioned_has}

-- ---- rules

-- the index is the other limit of length, and the other scratch flags
abbrev by_length : Limits
by_length = record {
  Index = ℕ × ℕ;
  Holds = λ i c o p. attachment_bit c.scratch_flags ≡ attachment_bit i.1 → OutcomesAlike o p;
  limit = λ i c. i.0;
  scratch_flags = λ i c. i.1;
  budget = λ i c. c.max_ops;
}

rule_depends : (act : Action) → ((i : ℕ × ℕ) → IsRelated by_length i act) → RuleDependsOnNoLength act
rule_depends act k c d s = at_alike_cut c d (λ d. OutcomesAlike (act c) (act d)) s (λ limit scratch_flags e. k (limit, scratch_flags) c e)

nest_depends : (nest : Option (ℕ → Action)) → NestRelated by_length nest → NestDependsOnNoLength nest
nest_depends None k = tt
nest_depends (Some act) k = λ n. rule_depends (act n) (k n)

closed_by_length : IsClosed by_length
closed_by_length = record {
  passes = λ i c e. refl;
  attempts = λ i back ahead c e. refl;
  either = λ i c o p second third f g e. or_else_alike o p second third (f e) (g e);
  breaks = λ i from to c o p f e. later_alike (Break from to ∷ []) (Break from to ∷ []) o p refl (f e);
  nested = λ i nest records ps end c k e. nested_depend_on_no_length nest records ps end (nest_depends nest k) c (cut_as i.0 i.1 c) (cuts_alike c i.0 i.1 e);
}

one_alike : (gdef : GlyphDefinition) (o : Option ℕ) (c : Cut) (limit scratch_flags : ℕ) → attachment_bit c.scratch_flags ≡ attachment_bit scratch_flags → OutcomesAlike (single_substitution gdef o c) (single_substitution gdef o (cut_as limit scratch_flags c))
one_alike gdef None c limit scratch_flags e = refl
one_alike gdef (Some glyph) c limit scratch_flags e =
    limited_outcomes (nat_le (length c.front + 1) c.max_len) (nat_le (length c.front + 1) limit) (Acts (cut_with_substitute gdef glyph c) []) (Acts (cut_with_substitute gdef glyph (cut_as limit scratch_flags c)) []) TooLong TooLong (cuts_alike (cut_with_substitute gdef glyph c) limit scratch_flags e, refl)

drawn_alike : (gdef : GlyphDefinition) (glyphs : List ℕ) (c : Cut) (limit scratch_flags : ℕ) → attachment_bit c.scratch_flags ≡ attachment_bit scratch_flags → OutcomesAlike (drawn_alternate gdef glyphs c) (drawn_alternate gdef glyphs (cut_as limit scratch_flags c))
drawn_alike gdef glyphs c limit scratch_flags e =
    let o : Option ℕ = slice_get glyphs (next_random c.random % length glyphs) in
    later_alike (Break 0 (length (whole c)) ∷ []) (Break 0 (length (whole c)) ∷ []) (single_substitution gdef o (record c { random = next_random c.random })) (single_substitution gdef o (record (cut_as limit scratch_flags c) { random = next_random c.random })) refl
    (one_alike gdef o (record c { random = next_random c.random }) limit scratch_flags e)

several_alike : (gdef : GlyphDefinition) (glyphs : List ℕ) (c : Cut) (limit scratch_flags : ℕ) → attachment_bit c.scratch_flags ≡ attachment_bit scratch_flags → OutcomesAlike (multiple_substitution gdef glyphs c) (multiple_substitution gdef glyphs (cut_as limit scratch_flags c))
several_alike gdef glyphs c limit scratch_flags e =
    let es : List Event = Replace (length c.front) 1 (length glyphs) ∷ [] in
    limited_outcomes (nat_le (length c.front + length glyphs) c.max_len) (nat_le (length c.front + length glyphs) limit) (Acts (cut_with_multiple gdef glyphs c) es) (Acts (cut_with_multiple gdef glyphs (cut_as limit scratch_flags c)) es) TooLong TooLong (cuts_alike (cut_with_multiple gdef glyphs c) limit scratch_flags e, refl)

ligature_alike : (gdef : GlyphDefinition) (glyph end : ℕ) (places : List ℕ) (c : Cut) (limit scratch_flags : ℕ) → attachment_bit c.scratch_flags ≡ attachment_bit scratch_flags → OutcomesAlike (ligature_substitution gdef glyph places end c) (ligature_substitution gdef glyph places end (cut_as limit scratch_flags c))
ligature_alike gdef glyph end places c limit scratch_flags e =
    let n : ℕ = length c.front + (1 + length (items_between_components places c)) in
    limited_outcomes (nat_le n c.max_len) (nat_le n limit) (Acts (ligated_cut gdef glyph places end c) (ligated_events places end c)) (Acts (ligated_cut gdef glyph places end (cut_as limit scratch_flags c)) (ligated_events places end c)) TooLong TooLong
    (cuts_alike (ligated_cut gdef glyph places end c) limit scratch_flags e, refl)

substituted_by_length : IsSubstituted by_length
substituted_by_length = record {
  closed = closed_by_length;
  one = λ i gdef glyph c e. one_alike gdef (Some glyph) c i.0 i.1 e;
  drawn = λ i gdef glyphs c e. drawn_alike gdef glyphs c i.0 i.1 e;
  several = λ i gdef glyph next more x c there e. several_alike gdef (glyph ∷ next ∷ more) c i.0 i.1 e;
  none = λ i x c there e. (cuts_alike (record c { rest = drop 1 c.rest }) i.0 i.1 e, refl);
  ligature = λ i a glyph end tests x c there found e. ligature_alike a.font.gdef glyph end (input_indices (own_search a c.rest) tests c.rest) c i.0 i.1 e;
  there = λ i gdef glyph ahead back c e. (cuts_alike (cut_with_substitute_kept gdef glyph c) i.0 i.1 e, refl);
}

attachment_alike : (near : Bool) (m n : ℕ) → attachment_bit m ≡ attachment_bit n → attachment_bit (with_attachment_flag near m) ≡ attachment_bit (with_attachment_flag near n)
attachment_alike true m n e = and_or_self 8 m ∙ sym (and_or_self 8 n)
attachment_alike false m n e = e

positioned_by_length : IsPositioned by_length
positioned_by_length = record {
  closed = closed_by_length;
  placed = λ i n ps c e. (cuts_alike (cut_with_positions n ps c) i.0 i.1 e, refl);
  broken = λ i n back ahead ps c e. (cuts_alike (cut_with_positions n ps c) i.0 i.1 e, refl);
  strictly_broken = λ i n ahead ps c e. (cuts_alike (cut_with_positions n ps c) i.0 i.1 e, refl);
  attached = λ i near n back ahead ps c e. (record { scratch_flags = attachment_alike near c.scratch_flags i.1 e; same = refl }, refl);
}

-- ---- stages

back_alike : (n : ℕ) (c d : Cut) → CutsAlike c d → CutsAlike (cut_at_index n c) (cut_at_index n d)
back_alike n c d s = at_alike_cut c d (λ d. CutsAlike (cut_at_index n c) (cut_at_index n d)) s (λ limit scratch_flags e. cuts_alike (cut_at_index n c) limit scratch_flags e)

tried_back_alike : (act : Action) (v w : View) (n : ℕ) → v.direction ≡ w.direction → RuleDependsOnNoLength act → NextAlike (backward_trials act v n) (backward_trials act w n)
tried_back_alike act v w zero way k c d s = here_alike v w c d way s
tried_back_alike act v w (suc n) way k c d s =
    after_alike (act (cut_at_index n c)) (act (cut_at_index n d)) (backward_trials act v n) (backward_trials act w n) v w (cut_at_index n c) (cut_at_index n d) (back_alike n c d s) (k (cut_at_index n c) (cut_at_index n d) (back_alike n c d s)) (tried_back_alike act v w n way k)

back_depends : (act : Action) → RuleDependsOnNoLength act → DependsOnNoLength (backward_pass act)
back_depends act k a b s = at_alike a b (λ b. ReadingsAlike (backward_pass act a) (backward_pass act b)) s (λ limit scratch_flags e.
    tried_back_alike act a (with_limit_and_flags limit scratch_flags a) (length a.items) refl k (uncut_with_positions a) (uncut_with_positions (with_limit_and_flags limit scratch_flags a)) (record { scratch_flags = e; same = refl }))

over_depends : (act : Direction → Action) → ((d : Direction) → RuleDependsOnNoLength (act d)) → DependsOnNoLength (λ v. positioning_pass (act v.direction) v)
over_depends act k a b s = at_alike a b (λ b. ReadingsAlike (positioning_pass (act a.direction) a) (positioning_pass (act b.direction) b)) s (λ limit scratch_flags e.
    tried_alike (act a.direction) a (with_limit_and_flags limit scratch_flags a) (length a.items) refl (k a.direction) (uncut_with_positions a) (uncut_with_positions (with_limit_and_flags limit scratch_flags a)) (record { scratch_flags = e; same = refl }))

-- the stage that puts the random state back
abbrev restoration : ℕ → Stage
restoration n = always (λ w. with_events [] (record w { random = n }))

restored_depends : (n : ℕ) → DependsOnNoLength (restoration n)
restored_depends n a b s = at_alike a b (λ b. ReadingsAlike (restoration n a) (restoration n b)) s (λ limit scratch_flags e. record { view = record { scratch_flags = e; same = refl }; events = λ level. refl })

own_depends : (stage : Stage) → DependsOnNoLength stage → DependsOnNoLength (with_own_random stage)
own_depends stage k a b s = at_alike a b (λ b. ReadingsAlike (with_own_random stage a) (with_own_random stage b)) s (λ limit scratch_flags e.
    and_then_alike (stage (record a { random = 1 })) (stage (record (with_limit_and_flags limit scratch_flags a) { random = 1 })) (restoration a.random) (k (record a { random = 1 }) (record (with_limit_and_flags limit scratch_flags a) { random = 1 }) (record { scratch_flags = e; same = refl })) (restored_depends a.random))

stages_depend : IsOfStages DependsOnNoLength RuleDependsOnNoLength
stages_depend = record { same = same_depends; both = two_depend_on_no_length; up = lookups_depend_on_no_length; back = back_depends; over = over_depends; own = own_depends }

substituting_depends : AreSubstituting RuleDependsOnNoLength
substituting_depends = record {
  up = λ table a lookup. rule_depends _ (λ i. forward_related by_length i substituted_by_length table a lookup);
  back = λ a lookup. rule_depends _ (λ i. backward_related by_length i substituted_by_length a lookup);
}

positioning_depends : ArePositioning RuleDependsOnNoLength
positioning_depends = record { over = λ table d a lookup. rule_depends _ (λ i. action_related by_length i positioned_by_length table d a lookup) }

pub substitution_depends_on_no_length : SubstitutionDependsOnNoLength
substitution_depends_on_no_length = substituted_has DependsOnNoLength RuleDependsOnNoLength stages_depend substituting_depends

pub positioning_depends_on_no_length : PositioningDependsOnNoLength
positioning_depends_on_no_length = positioned_has DependsOnNoLength RuleDependsOnNoLength stages_depend positioning_depends
