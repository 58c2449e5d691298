-- The stages of substitution are divisible.
use Rattle.std.proofs.Common.{ℕ, ◌≡◌, ◌+◌, ◌≤◌, inl, inr, Bool, List, [], ◌∷◌, ◌++◌, Option, Some, None, Ok, arith, ap, sym, subst, ◌∙◌}
use Rattle.std.proofs.lemmas.List.{append-nil}
use Rattle.buffer_glyphs.specs.declared.level.BufferClusterLevel.{BufferClusterLevel}
use Rattle.buffer_glyphs.specs.Events.{Event, origins_after}
use Rattle.buffer_core.specs.Readings.{View, Read, Stage, always, with_events, BufferState, state_after}
use Rattle.buffer_parts.specs.Counting.{is_left}
use Rattle.buffer_parts.specs.Lemmas.Stages.{same_read, both_read}
use Rattle.buffer_stages.specs.Pauses.{Pauses, pause_stage, with_own_random}
use Rattle.buffer_parts.specs.Breaks.Unsafe.{IsUnsafeAt}
use Rattle.buffer_parts.specs.Breaks.Concat.{without_concats}
use Rattle.buffer_parts.specs.Breaks.Fragments.{AreFragments}
use Rattle.buffer_parts.specs.Breaks.Divisible.{merges, IsBreakable, IsSpared, OnlySpends, StaysDivided, IsDivisible}
use Rattle.buffer_parts.proofs.BreakLemmas.Division.{divisible_in_turn}
use Rattle.layout_map.specs.Compiled.{lookups_of_stage}
use Rattle.layout_substitution.specs.Lookups.{lookups_stage}
use Rattle.layout_substitution.specs.Substituting.{table_stage, table_stages, substitution_lookups}
use Rattle.layout_laws.specs.Breaks.Stages.{IsPauseDivisible, OwnRandomIsDivisible, TableStagesAreDivisible, SubstitutionIsDivisible}
use Rattle.layout_laws.proofs.BreakLemmas.InOrder.{nothing_divisible, lookups_in_order_are_divisible}
use Rattle.layout_laws.proofs.BreakLemmas.PositionStages.{own_spends}

-- ---- a random state of its own

-- a state with another random state
abbrev with_random : ℕ → BufferState → BufferState
with_random n s = record s { view = record s.view { random = n } }

-- what a stage read with a random state of its own is what it read at 1, with the random state that was there
record IsOwnRead (stage : Stage) (v : View) (r : Read) : Type 0 where
  inner : Read
  inner_is : stage (record v { random = 1 }) ≡ Ok inner
  view : record inner.view { random = v.random } ≡ r.view
  events : (level : BufferClusterLevel) → inner.events level ≡ r.events level

own_read : (stage : Stage) (v : View) (r : Read) → with_own_random stage v ≡ Ok r → IsOwnRead stage v r
own_read stage v r e =
    let p = both_read (stage (record v { random = 1 })) (always (λ w. with_events [] (record w { random = v.random }))) r e in
    let last = same_read (with_events [] (record p.first.view { random = v.random })) p.second p.second_is in
    record {
      inner = p.first;
      inner_is = p.first_is;
      view = ap (λ (x : Read). x.view) last ∙ ap (λ (x : Read). x.view) p.both;
      events = λ level. sym (append-nil (p.first.events level)) ∙ ap (λ (x : Read). p.first.events level ++ x.events level) last ∙ ap (λ (x : Read). x.events level) p.both;
    }

own_state : (stage : Stage) (s : BufferState) (r : Read) (p : IsOwnRead stage s.view r) → with_random s.view.random (state_after p.inner (with_random 1 s)) ≡ state_after r s
own_state stage s r p =
    ap (λ (v : View). record s { view = v; origins = origins_after s.asks s.level (p.inner.events s.level) s.origins }) p.view
    ∙ ap (λ (es : List Event). record s { view = r.view; origins = origins_after s.asks s.level es s.origins }) (p.events s.level)

redrawn_breakable : (n : ℕ) (s : BufferState) → IsBreakable s → IsBreakable (with_random n s)
redrawn_breakable n s b = record { breaks = b.breaks; whole = record { positions = b.whole.positions; origins = b.whole.origins } }

redrawn_fragments : (falls : Bool) (c m n k : ℕ) (whole earlier later : BufferState) → AreFragments falls c whole earlier later → AreFragments falls c (with_random m whole) (with_random n earlier) (with_random k later)
redrawn_fragments falls c m n k whole earlier later f = record {
  early_name = f.early_name;
  late_name = f.late_name;
  names = record { early = f.names.early; late = f.names.late; apart = f.names.apart; early_given = f.names.early_given; late_given = f.names.late_given };
  items = f.items;
  positions = f.positions;
  origins = f.origins;
  below = f.below;
  above = f.above;
  early_some = f.early_some;
  late_some = f.late_some;
  early_whole = record { positions = f.early_whole.positions; origins = f.early_whole.origins };
  late_whole = record { positions = f.late_whole.positions; origins = f.late_whole.origins };
  early_of = record { direction = f.early_of.direction; level = f.early_of.level; requests = f.early_of.requests };
  late_of = record { direction = f.late_of.direction; level = f.late_of.level; requests = f.late_of.requests };
}

redrawn_divided : (falls : Bool) (c m n k : ℕ) (whole earlier later : BufferState) → StaysDivided falls c whole earlier later → StaysDivided falls c (with_random m whole) (with_random n earlier) (with_random k later)
redrawn_divided falls c m n k whole earlier later (inl unsafe) = inl unsafe
redrawn_divided falls c m n k whole earlier later (inr f) = inr (redrawn_fragments falls c m n k whole earlier later f)

own_spared : (stage : Stage) (level : BufferClusterLevel) (v : View) (r : Read) (p : IsOwnRead stage v r) → IsSpared level v r → IsSpared level (record v { random = 1 }) p.inner
own_spared stage level v r p h = record {
  budget = ap (λ (w : View). is_left w.max_ops) p.view ∙ h.budget;
  numbers = subst (λ (es : List Event). v.lig_id + merges (without_concats es) ≤ 7) (sym (p.events level)) h.numbers;
}

pub own_random_is_divisible : OwnRandomIsDivisible
own_random_is_divisible falls turned stage early late d = record {
  divides = λ c whole earlier later r e l ready fragments is_r is_e is_l spared_r spared_e spared_l.
      let pr = own_read stage whole.view r is_r in
      let pe = own_read early earlier.view e is_e in
      let pl = own_read late later.view l is_l in
      let sr = own_state stage whole r pr in
      let se = own_state early earlier e pe in
      let sl = own_state late later l pl in
      let inner = d.divides c (with_random 1 whole) (with_random 1 earlier) (with_random 1 later) pr.inner pe.inner pl.inner (redrawn_breakable 1 whole ready) (redrawn_fragments falls c 1 1 1 whole earlier later fragments) pr.inner_is pe.inner_is pl.inner_is
      (own_spared stage whole.level whole.view r pr spared_r) (own_spared early earlier.level earlier.view e pe spared_e) (own_spared late later.level later.view l pl spared_l) in
      let again = redrawn_divided turned c whole.view.random earlier.view.random later.view.random (state_after pr.inner (with_random 1 whole)) (state_after pe.inner (with_random 1 earlier)) (state_after pl.inner (with_random 1 later)) inner in
      subst (λ (x : BufferState). StaysDivided turned c x (state_after e earlier) (state_after l later)) sr
      (subst (λ (x : BufferState). StaysDivided turned c (with_random whole.view.random (state_after pr.inner (with_random 1 whole))) x (state_after l later)) se
      (subst (λ (x : BufferState). StaysDivided turned c (with_random whole.view.random (state_after pr.inner (with_random 1 whole))) (with_random earlier.view.random (state_after pe.inner (with_random 1 earlier))) x) sl again));
  breakable = λ s r is b.
      let p = own_read stage s.view r is in
      subst IsBreakable (own_state stage s r p) (redrawn_breakable s.view.random (state_after p.inner (with_random 1 s)) (d.breakable (with_random 1 s) p.inner p.inner_is (redrawn_breakable 1 s b)));
  unsafe = λ s r c is b u.
      let p = own_read stage s.view r is in
      subst (λ (x : BufferState). IsUnsafeAt c x.origins) (own_state stage s r p) (d.unsafe (with_random 1 s) p.inner c p.inner_is (redrawn_breakable 1 s b) u);
  spends = own_spends stage d.spends;
  early_spends = own_spends early d.early_spends;
  late_spends = own_spends late d.late_spends;
}

-- ---- the stages of a table

pause_divisible : (falls : Bool) (pauses early late : Pauses) → (o : Option ℕ) → IsPauseDivisible falls pauses early late o → IsDivisible falls falls (pause_stage pauses o) (pause_stage early o) (pause_stage late o)
pause_divisible falls pauses early late None k = nothing_divisible falls
pause_divisible falls pauses early late (Some n) k = own_random_is_divisible falls falls (pauses n) (early n) (late n) k

pub table_stages_are_divisible : TableStagesAreDivisible
table_stages_are_divisible falls font table t pauses early late i [] k = nothing_divisible falls
table_stages_are_divisible falls font table t pauses early late i (s ∷ stages) k =
    let lookups : Stage = lookups_stage font table (lookups_of_stage t i) in
    divisible_in_turn falls falls falls (table_stage font table t pauses i s.pause) (table_stage font table t early i s.pause) (table_stage font table t late i s.pause)
    (table_stages font table t pauses (i + 1) stages) (table_stages font table t early (i + 1) stages) (table_stages font table t late (i + 1) stages)
    (divisible_in_turn falls falls falls lookups lookups lookups (pause_stage pauses s.pause) (pause_stage early s.pause) (pause_stage late s.pause) (lookups_in_order_are_divisible falls font table (lookups_of_stage t i)) (pause_divisible falls pauses early late s.pause k.0))
    (table_stages_are_divisible falls font table t pauses early late (i + 1) stages k.1)

pub substitution_is_divisible : SubstitutionIsDivisible
substitution_is_divisible falls font m pauses early late k =
    own_random_is_divisible falls falls (table_stages font (substitution_lookups font) m.tables.gsub pauses 0 m.tables.gsub.stages) (table_stages font (substitution_lookups font) m.tables.gsub early 0 m.tables.gsub.stages) (table_stages font (substitution_lookups font) m.tables.gsub late 0 m.tables.gsub.stages)
    (table_stages_are_divisible falls font (substitution_lookups font) m.tables.gsub pauses early late 0 m.tables.gsub.stages k)
