-- Lookups of substitution are divisible.
use Rattle.std.proofs.Common.{ℕ, zero, suc, ◌≡◌, ◌≤◌, ◌+◌, false, List, [], ◌∷◌, ◌++◌, Ok, length, arith, refl, ap, sym, subst, ◌∙◌}
use Rattle.buffer_glyphs.specs.declared.level.BufferClusterLevel.{BufferClusterLevel}
use Rattle.buffer_glyphs.specs.Items.{Item, Position}
use Rattle.buffer_glyphs.specs.Events.{Event}
use Rattle.buffer_core.specs.Readings.{View, Read, Reading, with_events, then_read}
use Rattle.buffer_stages.specs.Actions.{Cut, view_at, uncut, Outcome, Passes, Acts, Refuses, Action}
use Rattle.layout_match.specs.Trying.{after_outcome, outcome_past_item, trial_at, trials, forward_pass}
use Rattle.layout_substitution.specs.Lookups.{lookup_action}
use Rattle.buffer_parts.specs.Counting.{is_left}
use Rattle.layout_laws.proofs.Lemmas.Substitutions.{forward_related}
use Rattle.layout_laws.proofs.Lemmas.KeptRules.{by_parts, substituted_by_parts}
use Rattle.layout_laws.proofs.Lemmas.Lookups.{lookups_keep_parts}
use Rattle.buffer_parts.specs.Breaks.Concat.{without_concats}
use Rattle.buffer_parts.specs.Breaks.Divisible.{merges, OnlySpends, KeepsPositions}
use Rattle.buffer_parts.proofs.BreakLemmas.Beside.{beside_is_divisible}
use Rattle.layout_laws.specs.Breaks.Local.{Steps, IsSteady}
use Rattle.layout_laws.specs.Breaks.LookupsBeside.{LookupsAreDivisible}
use Rattle.layout_laws.proofs.BreakLemmas.Walks.{trials_spend, then_parts, steps_past}
use Rattle.layout_laws.proofs.BreakLemmas.Passes.{IsPass, pass_read, pass_events, zero_long}
use Rattle.layout_laws.proofs.BreakLemmas.Divided.{pass_positions}
use Rattle.layout_laws.proofs.BreakLemmas.Steady.{lookups_are_steady}
use Rattle.layout_laws.proofs.BreakLemmas.Lossless.{passes_lose_none, by_losing, losing_substituted, lookups_read_beside}
use Rattle.buffer_parts.proofs.BreakLemmas.Division.{without_both, merges_both}
use Rattle.buffer_parts.specs.Lemmas.Stages.{same_read as read_same}

-- at most one ligature number is given for each merge
abbrev pub Gives : BufferClusterLevel → ℕ → Read → Type 0
Gives level last r = last + merges (without_concats (r.events level)) ≤ 7 → r.view.lig_id ≤ last + merges (without_concats (r.events level))

abbrev pub IsGiving : BufferClusterLevel → (Cut → Reading) → Type 0
IsGiving level next = (d : Cut) (r : Read) → next d ≡ Ok r → Gives level d.lig_id r

then_gives : (level : BufferClusterLevel) (c d : Cut) (es : List Event) (v : View) (r : Read) → (c.lig_id + merges (without_concats es) ≤ 7 → d.lig_id ≤ c.lig_id + merges (without_concats es)) → Gives level d.lig_id r → Gives level c.lig_id (then_read (with_events es v) r)
then_gives level c d es v r h k = λ few.
    let both : merges (without_concats (es ++ r.events level)) ≡ merges (without_concats es) + merges (without_concats (r.events level)) = ap merges (without_both es (r.events level)) ∙ merges_both (without_concats es) (without_concats (r.events level)) in
    let first = h (omega (arith, few, both)) in
    let second = k (omega (arith, few, both, first)) in
    omega (arith, both, first, second)

after_gives : (level : BufferClusterLevel) (q : Outcome) (next : Cut → Reading) (v : View) (c : Cut) (r : Read) → Steps c q → IsGiving level next → after_outcome q next v c ≡ Ok r → Gives level c.lig_id r
after_gives level (Passes es) next v c r h k e =
    let p = then_parts (with_events es (view_at v c)) (next c) r e in
    subst (Gives level c.lig_id) p.both (then_gives level c c es (view_at v c) p.rest (λ few. omega arith) (k c p.rest p.rest_is))
after_gives level (Acts d es) next v c r h k e =
    let p = then_parts (with_events es (view_at v d)) (next d) r e in
    subst (Gives level c.lig_id) p.both (then_gives level c d es (view_at v d) p.rest h.gives (k d p.rest p.rest_is))
after_gives level (Refuses x) next v c r h k e = cc

ended_gives : (level : BufferClusterLevel) (v : View) (c : Cut) (r : Read) → ◌≡◌ {A = Reading} (Ok (with_events [] (view_at v c))) (Ok r) → Gives level c.lig_id r
ended_gives level v c r e = subst (Gives level c.lig_id) (read_same (with_events [] (view_at v c)) r e) (λ few. omega arith)

pub trials_give : (act : Action) → IsSteady act → (level : BufferClusterLevel) (v : View) (n : ℕ) → IsGiving level (trials act v n)
trials_give act steady level v zero c r e = ended_gives level v c r e
trials_give act steady level v (suc n) c r e = by_rest c.rest refl (trials_give act steady level v n)
  where
    by_rest : (ys : List Item) → c.rest ≡ ys → IsGiving level (trials act v n) → Gives level c.lig_id r
    by_rest [] g k = ended_gives level v c r (sym (ap (λ (zs : List Item). trial_at act (trials act v n) v zs c) g) ∙ e)
    by_rest (x ∷ xs) g k =
        let d : Cut = record c { rest = x ∷ xs } in
        let same : c ≡ d = ap (λ (zs : List Item). record c { rest = zs }) g in
        after_gives level (outcome_past_item (act d) d) (trials act v n) v d r (steps_past c x xs (act d) (steady d (omega arith))) k (sym (ap (λ (z : Cut). trials act v (suc n) z) same) ∙ e)

pass_spends : (act : Action) → IsSteady act → OnlySpends (forward_pass act)
pass_spends act steady level v r e =
    let p = pass_read act v r e in
    record {
      budget = λ left. trials_spend act steady v (length v.items) (uncut v) p.walk p.walk_is (ap (λ (x : Read). is_left x.view.max_ops) p.read ∙ left);
      numbers = λ few.
          let same : merges (without_concats (p.walk.events level)) ≡ merges (without_concats (r.events level)) = ap (λ (es : List Event). merges (without_concats es)) (pass_events act v r p level) in
          let number : p.walk.view.lig_id ≡ r.view.lig_id = ap (λ (x : Read). x.view.lig_id) p.read in
          let up : p.walk.view.lig_id ≤ v.lig_id + merges (without_concats (p.walk.events level)) = walk_gives p (omega (arith, same, few)) in
          omega (arith, same, number, up);
    }
  where
    walk_gives : (p : IsPass act v r) → Gives level v.lig_id p.walk
    walk_gives p = trials_give act steady level v (length v.items) (uncut v) p.walk p.walk_is

pass_keeps_positions : (act : Action) → KeepsPositions (forward_pass act)
pass_keeps_positions act v r e long = ap (λ (ps : List Position). length ps) (pass_positions act v r (pass_read act v r e)) ∙ zero_long (length r.view.items)

pub lookups_are_divisible : LookupsAreDivisible
lookups_are_divisible falls table a lookup =
    let act = lookup_action table a lookup in
    let spends = pass_spends act (lookups_are_steady table a lookup) in
    beside_is_divisible false falls (forward_pass act) (forward_pass act) (forward_pass act) (lookups_keep_parts act (forward_related by_parts tt substituted_by_parts table a lookup)) (passes_lose_none act (forward_related by_losing tt losing_substituted table a lookup))
    (pass_keeps_positions act) spends spends spends (lookups_read_beside falls table a lookup)
