-- Lookups that a rule applies at the indices of its match, in a text and in its fragment.
use Rattle.std.proofs.Common.{ℕ, pos, ◌≡◌, ◌≤◌, ◌<◌, ◌+◌, ◌-ℤ◌, ◌&&◌, ◌⊎◌, inl, inr, Bool, true, false, nat_lt, min, if◌then◌else◌, List, [], ◌∷◌, ◌++◌, Option, Some, None, length, map, take, drop, arith, refl, ap, sym, subst, ◌∙◌}
use Rattle.std.specs.Prelude.{slice_get}
use Rattle.std.proofs.lemmas.Bool.{cases_lt}
use Rattle.std.proofs.lemmas.Grind.{common_steps}
use Rattle.std.proofs.lemmas.Bool.Decides.{nat_tests}
use Rattle.std.proofs.lemmas.List.{map-append, length-take-le, length-drop, length-map, take-append-drop, take-map, drop-map, take-append-le, drop-append-le}
use Rattle.std.proofs.Math.Seq.{take-append-add, drop-append-add}
use Rattle.buffer_glyphs.specs.declared.cause.ShapeCause.{ShapeCause}
use Rattle.buffer_glyphs.specs.declared.cause.ShapeCause.TheVariants.{TooLong}
use Rattle.buffer_glyphs.specs.declared.level.BufferClusterLevel.TheVariants.{MonotoneGraphemes}
use Rattle.buffer_glyphs.specs.Items.{Item}
use Rattle.buffer_glyphs.specs.Events.{Event}
use Rattle.buffer_glyphs.specs.Rewriting.{shifted_event}
use Rattle.buffer_parts.specs.Counts.{count_after}
use Rattle.layout_tables.specs.declared.context.SequenceLookupRecord.{SequenceLookupRecord}
use Rattle.buffer_stages.specs.Actions.{Cut, whole, past_item, Outcome, Passes, Acts, Refuses, Action}
use Rattle.buffer_parts.specs.Counting.{is_left}
use Rattle.buffer_parts.specs.Rules.{OutcomeKeepsParts, RuleKeepsParts}
use Rattle.layout_contexts.specs.MatchIndices.{AreRising}
use Rattle.layout_contexts.specs.Shifts.{indices_after_resize, moved_end}
use Rattle.layout_contexts.specs.Nested.{RecordsOutcome, Walks, Stops, cut_at, holds, has_budget, with_budget_spent, nested_outcome, nested_outcome_at, outcome_at_index, one_record, walked_later, then_walk, each_record, each_nested, cut_after_match}
use Rattle.buffer_parts.specs.Breaks.Concat.{without_concats}
use Rattle.buffer_parts.specs.Breaks.Divisible.{merges}
use Rattle.buffer_parts.specs.Breaks.Sides.{AreBounded}
use Rattle.buffer_parts.specs.Breaks.Fragments.{with_ligature_renamed}
use Rattle.layout_laws.specs.Breaks.Frames.{Outside, Inside, named_items, framed_cut, IsFramed, IsExtended}
use Rattle.layout_laws.specs.Breaks.Binding.{BindOutside}
use Rattle.layout_laws.specs.Breaks.Local.{Placing, Binds, IsAmple, IsMadeInside, IsBeside, IsIdle, IsBesideOrIdle, IsLocalOrIdle, IsOfWhole}
use Rattle.layout_laws.proofs.BreakLemmas.Frames.{whole_framed, whole_long, given_both, extended_twice}
use Rattle.layout_laws.proofs.BreakLemmas.Outcomes.{refused_beside}
use Rattle.layout_laws.proofs.BreakLemmas.Walks.{bounded_both, count_both, binds_more, binds_after}
use Rattle.layout_laws.proofs.BreakLemmas.Passes.{count_without}
use Rattle.layout_laws.proofs.BreakLemmas.Indices.{farther, index_farther, none_farther, resized, resized_few, resized_farther, unresized, end_farther, end_stays, rising_at}
use Rattle.layout_gpos.proofs.Lemmas.Left.{past_left as items_stay}
use Rattle.layout_positioning.proofs.Left.{cut_whole}
use Rattle.buffer_parts.proofs.BreakLemmas.Division.{given_take, given_drop, without_both, merges_both}
use Rattle.buffer_facts.proofs.Numbers.{test_of_less as less_test, test_of_not_less as more_test}

-- ---- what a rule spends

-- a rule gives no budget back, and at most one ligature number for each merge
abbrev pub SpendsAt : Cut → Outcome → Type 0
SpendsAt c (Passes es) = Unit {0}
SpendsAt c (Acts d es) = (is_left d.max_ops ≡ true → is_left c.max_ops ≡ true) × (c.lig_id + merges (without_concats es) ≤ 7 → d.lig_id ≤ c.lig_id + merges (without_concats es))
SpendsAt c (Refuses x) = Unit {0}

abbrev pub IsSpending : Action → Type 0
IsSpending act = (c : Cut) → SpendsAt c (act c)

abbrev pub RecordsSpend : Cut → RecordsOutcome → Type 0
RecordsSpend c (Walks d ps end es) = (is_left d.max_ops ≡ true → is_left c.max_ops ≡ true) × (c.lig_id + merges (without_concats es) ≤ 7 → d.lig_id ≤ c.lig_id + merges (without_concats es))
RecordsSpend c (Stops x) = Unit {0}

nested_spends : (i p : ℕ) (c d : Cut) (ps : List ℕ) (end : ℕ) (q : Outcome) → is_left c.max_ops ≡ true → d.lig_id ≡ c.lig_id → SpendsAt d q → RecordsSpend c (nested_outcome i p d ps end q)
nested_spends i p c d ps end (Passes es) left same h = (λ e. left, λ e. omega (arith, same))
nested_spends i p c d ps end (Acts b es) left same h = (λ e. left, λ e. subst (λ (n : ℕ). b.lig_id ≤ n + merges (without_concats es)) same (h.1 (subst (λ (n : ℕ). n + merges (without_concats es) ≤ 7) (sym same) e)))
nested_spends i p c d ps end (Refuses x) left same h = tt

at_index_spends : (act : ℕ → Action) → ((i : ℕ) → IsSpending (act i)) → (r : SequenceLookupRecord) (o : Option ℕ) (c : Cut) (ps : List ℕ) (end : ℕ) → RecordsSpend c (outcome_at_index act r o c ps end)
at_index_spends act k r None c ps end = (λ e. e, λ e. omega arith)
at_index_spends act k r (Some p) c ps end = by_tests (nat_lt p (length (whole c))) (has_budget c) refl (holds p (with_budget_spent c))
  where
    by_tests : (t u : Bool) → has_budget c ≡ u → (v : Bool) → RecordsSpend c (if t && u then (if v then nested_outcome r.sequence_index p (cut_at p (with_budget_spent c)) ps end (act r.lookup_index (cut_at p (with_budget_spent c))) else Stops TooLong) else Walks c ps end [])
    by_tests false u e v = (λ f. f, λ f. omega arith)
    by_tests true false e v = (λ f. f, λ f. omega arith)
    by_tests true true e false = tt
    by_tests true true e true = nested_spends r.sequence_index p c (cut_at p (with_budget_spent c)) ps end (act r.lookup_index (cut_at p (with_budget_spent c))) e refl (k r.lookup_index (cut_at p (with_budget_spent c)))

then_spends : (c : Cut) (a : RecordsOutcome) (next : Cut → List ℕ → ℕ → RecordsOutcome) → RecordsSpend c a → ((d : Cut) (ps : List ℕ) (end : ℕ) → RecordsSpend d (next d ps end)) → RecordsSpend c (then_walk a next)
then_spends c (Walks d ps end es) next h k = by_next (next d ps end) (k d ps end)
  where
    by_next : (b : RecordsOutcome) → RecordsSpend d b → RecordsSpend c (walked_later es b)
    by_next (Walks e qs to fs) g = (
      λ left. h.0 (g.0 left),
      λ few.
          let both : merges (without_concats (es ++ fs)) ≡ merges (without_concats es) + merges (without_concats fs) = ap merges (without_both es fs) ∙ merges_both (without_concats es) (without_concats fs) in
          let first = h.1 (omega (arith, few, both)) in
          let second = g.1 (omega (arith, few, both, first)) in
          omega (arith, both, first, second),
    )
    by_next (Stops x) g = tt
then_spends c (Stops x) next h k = tt

pub each_spends : (act : ℕ → Action) → ((i : ℕ) → IsSpending (act i)) → (records : List SequenceLookupRecord) (c : Cut) (ps : List ℕ) (end : ℕ) → RecordsSpend c (each_record act records c ps end)
each_spends act k [] c ps end = (λ e. e, λ e. omega arith)
each_spends act k (r ∷ records) c ps end = then_spends c (one_record act r c ps end) (each_record act records) (at_index_spends act k r (slice_get ps r.sequence_index) c ps end) (λ d qs to. each_spends act k records d qs to)

-- ---- cuts at an index

pub cut_framed : (o : Outside) (s : Inside) (p : ℕ) (c : Cut) → p ≤ length (whole c) → cut_at (length o.before + p) (framed_cut o s c) ≡ framed_cut o s (cut_at p c)
cut_framed o s p c le =
    let g = with_ligature_renamed s.name in
    let all = whole c in
    let w : Cut = framed_cut o s c in
    let short : p ≤ length (map g all) = omega (arith, le, length-map all g) in
    let front : take (length o.before + p) (whole w) ≡ o.before ++ named_items s (take p all) =
    ap (take (length o.before + p)) (whole_framed o s c) ∙ take-append-add o.before (named_items s all ++ o.after) p ∙ ap (λ (xs : List Item). o.before ++ xs) (take-append-le p (named_items s all) o.after short ∙ take-map g p all) in
    let rest : drop (length o.before + p) (whole w) ≡ named_items s (drop p all) ++ o.after =
    ap (drop (length o.before + p)) (whole_framed o s c) ∙ drop-append-add o.before (named_items s all ++ o.after) p ∙ drop-append-le p (named_items s all) o.after short ∙ ap (λ (xs : List Item). xs ++ o.after) (drop-map g p all) in
    ap (λ (xs : List Item). record w { front = xs; rest = drop (length o.before + p) (whole w) }) front ∙ ap (λ (xs : List Item). record w { front = o.before ++ named_items s (take p all); rest = xs }) rest

pub cut_frames : (o : Outside) (s : Inside) (p : ℕ) (c : Cut) → IsFramed o s c → IsFramed o s (cut_at p c)
cut_frames o s p c h =
    let all = given_both c.lig_id c.front c.rest h.front h.rest in
    record { names = h.names; front = given_take c.lig_id p (whole c) all; rest = given_drop c.lig_id p (whole c) all; before = h.before; after = h.after; foreign_before = h.foreign_before; foreign_after = h.foreign_after; some = h.some }

-- a cut with a unit of the budget fewer
abbrev pub with_unit_spent : Inside → Inside
with_unit_spent s = record s { max_ops = s.max_ops -ℤ pos 1 }

spent_frames : (o : Outside) (s : Inside) (c : Cut) → IsFramed o s c → IsFramed o (with_unit_spent s) (with_budget_spent c)
spent_frames o s c h = record { names = h.names; front = h.front; rest = h.rest; before = h.before; after = h.after; foreign_before = h.foreign_before; foreign_after = h.foreign_after; some = h.some }

-- two cuts of one list in one state: the next record cuts it anew
abbrev IsRecut : Cut → Cut → Type 0
IsRecut w v = cut_at 0 w ≡ cut_at 0 v

-- ---- records under way

-- a fragment is framed by a text, on the way over the records of a rule that was tried at the index `low` of the fragment: the indices of
-- the match rise, 64 at most, and none is past the match's end; where items follow the fragment, none is past its last item, nor is the
-- match's end past it
pub record IsUnderway (P : Placing) (o : Outside) (s : Inside) (low : ℕ) (c : Cut) (ps : List ℕ) (end : ℕ) : Type 0 where
  pub frames : IsFramed o s c
  pub placed : P o c
  pub some : 0 < length (whole c)
  pub reach : 0 < length o.after → low < length (whole c)
  pub high : ℕ
  pub rises : AreRising low high ps
  pub few : length ps ≤ 64
  pub near : high ≤ end + 1
  pub below : 0 < length o.after → high ≤ length (whole c)
  pub within : 0 < length o.after → end ≤ length (whole c)

-- records applied in a text did what they did in its fragment
pub record IsWalkInside (P : Placing) (o : Outside) (s : Inside) (low : ℕ) (c w : Cut) (theirs : List ℕ) (to : ℕ) (es : List Event) (d : Cut) (ours : List ℕ) (end : ℕ) (fs : List Event) : Type 0 where
  pub inside : Inside
  pub cut_is : IsRecut w (framed_cut o inside d)
  pub underway : IsUnderway P o inside low d ours end
  pub extended : IsExtended s c inside d
  pub events : without_concats es ≡ map (shifted_event (length o.before)) (without_concats fs)
  pub bounded : AreBounded (without_concats fs) (length (whole c))
  pub counted : count_after (without_concats fs) (length (whole c)) ≡ length (whole d)
  pub indices : theirs ≡ farther (length o.before) ours
  pub ends : to ≡ length o.before + end

-- the ways over records in a text and in its fragment
abbrev pub RecordsBeside : Placing → Outside → Inside → ℕ → Cut → RecordsOutcome → RecordsOutcome → Type 0
RecordsBeside P o s low c (Walks w qs to es) (Walks d ps end fs) = IsAmple s.lig_id w es → IsAmple c.lig_id d fs → Binds o c es ⊎ IsWalkInside P o s low c w qs to es d ps end fs
RecordsBeside P o s low c (Walks w qs to es) (Stops y) = Unit {0}
RecordsBeside P o s low c (Stops x) b = Unit {0}

stopped_beside : (P : Placing) (o : Outside) (s : Inside) (low : ℕ) (c : Cut) (a : RecordsOutcome) → RecordsBeside P o s low c a (Stops TooLong)
stopped_beside P o s low c (Walks w qs to es) = tt
stopped_beside P o s low c (Stops x) = tt

-- where no budget was left nothing is claimed
unspared_left : (P : Placing) (o : Outside) (s : Inside) (low : ℕ) (c w : Cut) (qs : List ℕ) (to : ℕ) (es : List Event) (b : RecordsOutcome) → is_left w.max_ops ≡ false → RecordsBeside P o s low c (Walks w qs to es) b
unspared_left P o s low c w qs to es (Walks d ps end fs) e = λ x y. let no_budget : true ≡ false = sym x.0 ∙ e in cc
unspared_left P o s low c w qs to es (Stops y) e = tt

unspared_right : (P : Placing) (o : Outside) (s : Inside) (low : ℕ) (c d : Cut) (ps : List ℕ) (end : ℕ) (fs : List Event) (a : RecordsOutcome) → is_left d.max_ops ≡ false → RecordsBeside P o s low c a (Walks d ps end fs)
unspared_right P o s low c d ps end fs (Walks w qs to es) e = λ x y. let no_budget : true ≡ false = sym y.0 ∙ e in cc
unspared_right P o s low c d ps end fs (Stops y) e = tt

-- nothing is done
unmoved : (P : Placing) (o : Outside) (s : Inside) (low : ℕ) (c w : Cut) (ps : List ℕ) (end : ℕ) → IsRecut w (framed_cut o s c) → IsUnderway P o s low c ps end → RecordsBeside P o s low c (Walks w (farther (length o.before) ps) (length o.before + end) []) (Walks c ps end [])
unmoved P o s low c w ps end same h = λ a b. inr (record {
  inside = s;
  cut_is = same;
  underway = h;
  extended = record { up = omega arith; names = λ n le. inl (le, refl) };
  events = refl;
  bounded = tt;
  counted = refl;
  indices = refl;
  ends = refl;
})

-- ---- one record

abbrev NestedLocal : Placing → (ℕ → Action) → Type 0
NestedLocal P act = (i : ℕ) → IsLocalOrIdle P (act i)

-- on the way, the list cut at an index with a unit of the budget fewer
cut_underway : (P : Placing) → IsOfWhole P → (o : Outside) (t : Inside) (low p : ℕ) (d : Cut) (ps : List ℕ) (end : ℕ) → IsUnderway P o t low d ps end → IsUnderway P o (with_unit_spent t) low (cut_at p (with_budget_spent d)) ps end
cut_underway P over o t low p d ps end u =
    let long : length (whole (cut_at p (with_budget_spent d))) ≡ length (whole d) = ap (λ (xs : List Item). length xs) (cut_whole p (with_budget_spent d)) in
    record {
      frames = cut_frames o (with_unit_spent t) p (with_budget_spent d) (spent_frames o t d u.frames);
      placed = over o d (cut_at p (with_budget_spent d)) (cut_whole p (with_budget_spent d)) refl u.placed;
      some = omega (arith, long, u.some);
      reach = λ r. let k = u.reach r in omega (arith, long, k);
      high = u.high;
      rises = u.rises;
      few = u.few;
      near = u.near;
      below = λ r. let k = u.below r in omega (arith, long, k);
      within = λ r. let k = u.within r in omega (arith, long, k);
    }

outcome_beside : (P : Placing) → IsOfWhole P → (o : Outside) (t : Inside) (low i p : ℕ) (d : Cut) (ps : List ℕ) (end : ℕ) → IsUnderway P o t low d ps end → slice_get ps i ≡ Some p → p < length (whole d) → (q b : Outcome)
    → IsBeside P o (with_unit_spent t) (cut_at p (with_budget_spent d)) q b → OutcomeKeepsParts b (length (whole (cut_at p (with_budget_spent d))))
    → RecordsBeside P o t low d (nested_outcome i (length o.before + p) (framed_cut o (with_unit_spent t) (cut_at p (with_budget_spent d))) (farther (length o.before) ps) (length o.before + end) q) (nested_outcome i p (cut_at p (with_budget_spent d)) ps end b)
outcome_beside P over o t low i p d ps end u index lt (Passes es) (Passes fs) h k = λ x y. inr (record {
  inside = with_unit_spent t;
  cut_is = refl;
  underway = cut_underway P over o t low p d ps end u;
  extended = record { up = omega arith; names = λ n le. inl (le, refl) };
  events = h.0 ∙ ap (map (shifted_event (length o.before))) (sym h.1);
  bounded = subst (λ (gs : List Event). AreBounded gs (length (whole d))) (sym h.1) tt;
  counted = ap (λ (gs : List Event). count_after gs (length (whole d))) h.1 ∙ ap (λ (xs : List Item). length xs) (sym (cut_whole p (with_budget_spent d)));
  indices = refl;
  ends = refl;
})
outcome_beside P over o t low i p d ps end u index lt (Passes es) (Acts b fs) h k = absurd h
outcome_beside P over o t low i p d ps end u index lt (Passes es) (Refuses y) h k = tt
outcome_beside P over o t low i p d ps end u index lt (Acts w es) (Passes fs) h k =
    λ x y. inl (subst (λ (n : ℕ). BindOutside (length o.before) n (length o.after) (without_concats es)) (ap (λ (xs : List Item). length xs) (cut_whole p (with_budget_spent d))) h)
outcome_beside P over o t low i p d ps end u index lt (Acts w es) (Acts b fs) h k =
    let e : Cut = cut_at p (with_budget_spent d) in
    let left = length o.before in
    let right = length o.after in
    let long : length (whole e) ≡ length (whole d) = ap (λ (xs : List Item). length xs) (cut_whole p (with_budget_spent d)) in
    let front : length e.front ≡ p = length-take-le p (whole d) (omega (arith, lt)) in
    let at = rising_at low u.high i p ps u.rises index in
    λ x y. elim (h x y) [
      | inl binds ↦ inl (subst (λ (n : ℕ). BindOutside left n right (without_concats es)) long binds)
      | inr made ↦
          let theirs : length (whole w) ≡ left + length (whole b) + right = ap (λ (z : Cut). length (whole z)) made.cut_is ∙ whole_long o made.inside b in
          let whole_before : length (whole (framed_cut o (with_unit_spent t) e)) ≡ left + length (whole e) + right = whole_long o (with_unit_spent t) e in
          let size = resized low u.high i (length (whole e)) (length (whole b)) p ps u.rises index in
          let past : 0 < right → p < length (whole b) = λ r. let m = made.reach r in omega (arith, m, front) in
          inr (record {
            inside = made.inside;
            cut_is = ap (cut_at 0) made.cut_is;
            underway = record {
              frames = made.frames;
              placed = made.placed;
              some = made.some;
              reach = λ r. let m = past r in omega (arith, m, at.0);
              high = size.top;
              rises = size.rises;
              few = resized_few i (length (whole e)) (length (whole b)) ps;
              near = size.near end u.near;
              below = λ r. let m = past r in let n = u.below r in size.below (length (whole b)) (omega (arith, n, long)) m (omega arith);
              within = λ r. let m = past r in let n = u.within r in omega (arith, n, m, long);
            };
            extended = record { up = made.extended.up; names = made.extended.names };
            events = made.events;
            bounded = subst (AreBounded (without_concats fs)) long made.bounded;
            counted = ap (count_after (without_concats fs)) (sym long) ∙ count_without fs (length (whole e)) ∙ (k MonotoneGraphemes).counted;
            indices = ap (λ (n : ℕ). indices_after_resize i n (length (whole w)) (farther left ps)) whole_before ∙ ap (λ (n : ℕ). indices_after_resize i (left + length (whole e) + right) n (farther left ps)) theirs
                ∙ resized_farther left right low u.high i (length (whole e)) (length (whole b)) p ps u.rises index;
            ends = ap (λ (n : ℕ). moved_end (left + p) n (length (whole w)) (left + end)) whole_before ∙ ap (λ (n : ℕ). moved_end (left + p) (left + length (whole e) + right) n (left + end)) theirs ∙ end_farther left right p (length (whole e)) (length (whole b)) end;
          })
    ]
outcome_beside P over o t low i p d ps end u index lt (Acts w es) (Refuses y) h k = tt
outcome_beside P over o t low i p d ps end u index lt (Refuses x) b h k = tt

-- a lookup that is idle leaves the list, the indices and the end of the match as they are
outcome_idle : (P : Placing) → IsOfWhole P → (o : Outside) (t : Inside) (low i p : ℕ) (d : Cut) (ps : List ℕ) (end : ℕ) → IsUnderway P o t low d ps end → slice_get ps i ≡ Some p → (q b : Outcome)
    → IsIdle o (with_unit_spent t) (cut_at p (with_budget_spent d)) q b
    → RecordsBeside P o t low d (nested_outcome i (length o.before + p) (framed_cut o (with_unit_spent t) (cut_at p (with_budget_spent d))) (farther (length o.before) ps) (length o.before + end) q) (nested_outcome i p (cut_at p (with_budget_spent d)) ps end b)
outcome_idle P over o t low i p d ps end u index q b h =
    let left = length o.before in
    let e : Cut = cut_at p (with_budget_spent d) in
    let w : Cut = framed_cut o (with_unit_spent t) e in
    let stays : whole (past_item w) ≡ whole w = items_stay 1 w in
    let long : length (whole (past_item w)) ≡ length (whole w) = ap (λ (xs : List Item). length xs) stays in
    let n = length (whole w) in
    let before = rising_at low u.high i p ps u.rises index in
    let walked : RecordsBeside P o t low d (nested_outcome i (left + p) w (farther left ps) (left + end) (Acts (past_item w) h.theirs)) (nested_outcome i p e ps end (Passes h.ours)) = λ x y. inr (record {
      inside = with_unit_spent t;
      cut_is = ap (λ (xs : List Item). record w { front = []; rest = xs }) stays;
      underway = cut_underway P over o t low p d ps end u;
      extended = record { up = omega arith; names = λ m le. inl (le, refl) };
      events = h.none_there ∙ ap (map (shifted_event left)) (sym h.none_here);
      bounded = subst (λ (gs : List Event). AreBounded gs (length (whole d))) (sym h.none_here) tt;
      counted = ap (λ (gs : List Event). count_after gs (length (whole d))) h.none_here ∙ ap (λ (xs : List Item). length xs) (sym (cut_whole p (with_budget_spent d)));
      indices = ap (λ (m : ℕ). indices_after_resize i n m (farther left ps)) long ∙ unresized i n (farther left ps) (omega (arith, length-map ps (λ (k : ℕ). left + k), u.few));
      ends = ap (λ (m : ℕ). moved_end (left + p) n m (left + end)) long ∙ end_stays (left + p) n (left + end) (omega (arith, before.1, u.near));
    }) in
    subst (λ (z : Outcome). RecordsBeside P o t low d (nested_outcome i (left + p) w (farther left ps) (left + end) z) (nested_outcome i p e ps end b)) (sym h.acts)
    (subst (λ (z : Outcome). RecordsBeside P o t low d (nested_outcome i (left + p) w (farther left ps) (left + end) (Acts (past_item w) h.theirs)) (nested_outcome i p e ps end z)) (sym h.passes) walked)

outcome_either : (P : Placing) → IsOfWhole P → (o : Outside) (t : Inside) (low i p : ℕ) (d : Cut) (ps : List ℕ) (end : ℕ) → IsUnderway P o t low d ps end → slice_get ps i ≡ Some p → p < length (whole d) → (q b : Outcome)
    → IsBesideOrIdle P o (with_unit_spent t) (cut_at p (with_budget_spent d)) q b → OutcomeKeepsParts b (length (whole (cut_at p (with_budget_spent d))))
    → RecordsBeside P o t low d (nested_outcome i (length o.before + p) (framed_cut o (with_unit_spent t) (cut_at p (with_budget_spent d))) (farther (length o.before) ps) (length o.before + end) q) (nested_outcome i p (cut_at p (with_budget_spent d)) ps end b)
outcome_either P over o t low i p d ps end u index lt q b h k = elim h [ inl beside ↦ outcome_beside P over o t low i p d ps end u index lt q b beside k | inr idle ↦ outcome_idle P over o t low i p d ps end u index q b idle ]

-- where a side of the list can't hold its items nothing is claimed
held_beside : (P : Placing) (o : Outside) (s : Inside) (low : ℕ) (c : Cut) (theirs ours : RecordsOutcome) (a b : Bool) → RecordsBeside P o s low c theirs ours → RecordsBeside P o s low c (if a then theirs else Stops TooLong) (if b then ours else Stops TooLong)
held_beside P o s low c theirs ours true true k = k
held_beside P o s low c theirs ours true false k = stopped_beside P o s low c theirs
held_beside P o s low c theirs ours false b k = tt

nested_at_beside : (P : Placing) → IsOfWhole P → (act : ℕ → Action) → NestedLocal P act → ((i : ℕ) → RuleKeepsParts (act i)) → (r : SequenceLookupRecord) (o : Outside) (t : Inside) (low p : ℕ) (d w : Cut) (ps : List ℕ) (end : ℕ) → IsRecut w (framed_cut o t d) → IsUnderway P o t low d ps end → slice_get ps r.sequence_index ≡ Some p
    → p < length (whole d) → RecordsBeside P o t low d (nested_outcome_at act r (length o.before + p) (with_budget_spent w) (farther (length o.before) ps) (length o.before + end)) (nested_outcome_at act r p (with_budget_spent d) ps end)
nested_at_beside P over act local keeps r o t low p d w ps end same u index lt =
    let e : Cut = cut_at p (with_budget_spent d) in
    let here = cut_underway P over o t low p d ps end u in
    let there : 0 < length e.rest = omega (arith, lt, length-drop p (whole d)) in
    let cut : cut_at (length o.before + p) (with_budget_spent w) ≡ framed_cut o (with_unit_spent t) e = ap (λ (z : Cut). cut_at (length o.before + p) (with_budget_spent z)) same ∙ cut_framed o (with_unit_spent t) p (with_budget_spent d) (omega (arith, lt)) in
    held_beside P o t low d (nested_outcome r.sequence_index (length o.before + p) (cut_at (length o.before + p) (with_budget_spent w)) (farther (length o.before) ps) (length o.before + end) (act r.lookup_index (cut_at (length o.before + p) (with_budget_spent w))))
    (nested_outcome r.sequence_index p e ps end (act r.lookup_index e)) (holds (length o.before + p) (with_budget_spent w)) (holds p (with_budget_spent d))
    (subst (λ (z : Cut). RecordsBeside P o t low d (nested_outcome r.sequence_index (length o.before + p) z (farther (length o.before) ps) (length o.before + end) (act r.lookup_index z)) (nested_outcome r.sequence_index p e ps end (act r.lookup_index e)))
    (sym cut)
    (outcome_either P over o t low r.sequence_index p d ps end u index lt (act r.lookup_index (framed_cut o (with_unit_spent t) e)) (act r.lookup_index e) (local r.lookup_index o (with_unit_spent t) e here.frames here.placed there) (keeps r.lookup_index e)))

-- a record at an index of the match
index_beside : (P : Placing) → IsOfWhole P → (act : ℕ → Action) → NestedLocal P act → ((i : ℕ) → RuleKeepsParts (act i)) → (r : SequenceLookupRecord) (o : Outside) (t : Inside) (low p : ℕ) (d w : Cut) (ps : List ℕ) (end : ℕ) → IsRecut w (framed_cut o t d) → IsUnderway P o t low d ps end → slice_get ps r.sequence_index ≡ Some p
    → RecordsBeside P o t low d (outcome_at_index act r (Some (length o.before + p)) w (farther (length o.before) ps) (length o.before + end)) (outcome_at_index act r (Some p) d ps end)
index_beside P over act local keeps r o t low p d w ps end same u index = by_index (cases_lt p (length (whole d)))
  where
    long : length (whole w) ≡ length o.before + length (whole d) + length o.after
    long = ap (λ (z : Cut). length (whole z)) same ∙ whole_long o t d

    tested : (a b x y : Bool) → a ≡ b → is_left w.max_ops ≡ x → is_left d.max_ops ≡ y → (b ≡ true → RecordsBeside P o t low d (nested_outcome_at act r (length o.before + p) (with_budget_spent w) (farther (length o.before) ps) (length o.before + end)) (nested_outcome_at act r p (with_budget_spent d) ps end))
        → RecordsBeside P o t low d (if a && x then nested_outcome_at act r (length o.before + p) (with_budget_spent w) (farther (length o.before) ps) (length o.before + end) else Walks w (farther (length o.before) ps) (length o.before + end) [])
        (if b && y then nested_outcome_at act r p (with_budget_spent d) ps end else Walks d ps end [])
    tested true true true true e l m k = k refl
    tested true true false y e l m k = unspared_left P o t low d w (farther (length o.before) ps) (length o.before + end) [] (if y then nested_outcome_at act r p (with_budget_spent d) ps end else Walks d ps end []) l
    tested true true true false e l m k = unspared_right P o t low d d ps end [] (nested_outcome_at act r (length o.before + p) (with_budget_spent w) (farther (length o.before) ps) (length o.before + end)) m
    tested false false x y e l m k = unmoved P o t low d w ps end same u
    tested true false x y e l m k = cc
    tested false true x y e l m k = cc

    by_index : (p < length (whole d)) ⊎ (length (whole d) ≤ p) → RecordsBeside P o t low d (outcome_at_index act r (Some (length o.before + p)) w (farther (length o.before) ps) (length o.before + end)) (outcome_at_index act r (Some p) d ps end)
    by_index (inl lt) = tested (nat_lt (length o.before + p) (length (whole w))) (nat_lt p (length (whole d))) (is_left w.max_ops) (is_left d.max_ops)
        (less_test (length o.before + p) (length (whole w)) (omega (arith, lt, long)) ∙ sym (less_test p (length (whole d)) lt)) refl refl (λ e. nested_at_beside P over act local keeps r o t low p d w ps end same u index lt)
    by_index (inr le) =
        let at = rising_at low u.high r.sequence_index p ps u.rises index in
        let none : length o.after ≤ 0 = elim (cases_lt 0 (length o.after)) [ inl some ↦ let b = u.below some in absurd (omega (arith, b, at.1, le)) | inr few ↦ few ] in
        let no : nat_lt p (length (whole d)) ≡ false = more_test p (length (whole d)) le in
        tested (nat_lt (length o.before + p) (length (whole w))) (nat_lt p (length (whole d))) (is_left w.max_ops) (is_left d.max_ops)
        (more_test (length o.before + p) (length (whole w)) (omega (arith, le, none, long)) ∙ sym no) refl refl (λ e. let both : true ≡ false = sym e ∙ no in cc)

one_beside : (P : Placing) → IsOfWhole P → (act : ℕ → Action) → NestedLocal P act → ((i : ℕ) → RuleKeepsParts (act i)) → (r : SequenceLookupRecord) (o : Outside) (t : Inside) (low : ℕ) (d w : Cut) (ps : List ℕ) (end : ℕ) → IsRecut w (framed_cut o t d) → IsUnderway P o t low d ps end
    → RecordsBeside P o t low d (one_record act r w (farther (length o.before) ps) (length o.before + end)) (one_record act r d ps end)
one_beside P over act local keeps r o t low d w ps end same u = by_index (slice_get ps r.sequence_index) refl
  where
    by_index : (i : Option ℕ) → slice_get ps r.sequence_index ≡ i → RecordsBeside P o t low d (one_record act r w (farther (length o.before) ps) (length o.before + end)) (outcome_at_index act r i d ps end)
    by_index None e = subst (λ (i : Option ℕ). RecordsBeside P o t low d (outcome_at_index act r i w (farther (length o.before) ps) (length o.before + end)) (Walks d ps end [])) (sym (none_farther (length o.before) ps r.sequence_index e)) (unmoved P o t low d w ps end same u)
    by_index (Some p) e = subst (λ (i : Option ℕ). RecordsBeside P o t low d (outcome_at_index act r i w (farther (length o.before) ps) (length o.before + end)) (outcome_at_index act r (Some p) d ps end)) (sym (index_farther (length o.before) ps r.sequence_index p e)) (index_beside P over act local keeps r o t low p d w ps end same u e)

-- ---- records in turn

stopped_any : (P : Placing) (o : Outside) (s : Inside) (low : ℕ) (c : Cut) (a : RecordsOutcome) (y : ShapeCause) → RecordsBeside P o s low c a (Stops y)
stopped_any P o s low c (Walks w qs to es) y = tt
stopped_any P o s low c (Stops x) y = tt

abbrev IsNext : Placing → Outside → ℕ → (Cut → List ℕ → ℕ → RecordsOutcome) → Type 0
IsNext P o low next = (s : Inside) (e w : Cut) (ps : List ℕ) (end : ℕ) → IsRecut w (framed_cut o s e) → IsUnderway P o s low e ps end → RecordsBeside P o s low e (next w (farther (length o.before) ps) (length o.before + end)) (next e ps end)

then_beside : (P : Placing) (o : Outside) (t : Inside) (low : ℕ) (d w : Cut) (a b : RecordsOutcome) (next : Cut → List ℕ → ℕ → RecordsOutcome) → w.lig_id ≡ t.lig_id → RecordsBeside P o t low d a b → RecordsSpend w a → RecordsSpend d b → ((c : Cut) (ps : List ℕ) (end : ℕ) → RecordsSpend c (next c ps end)) → IsNext P o low next
    → RecordsBeside P o t low d (then_walk a next) (then_walk b next)
then_beside P o t low d w (Stops x) b next given h ha hb spends walk = tt
then_beside P o t low d w (Walks w1 qs to es) (Stops y) next given h ha hb spends walk = stopped_any P o t low d (walked_later es (next w1 qs to)) y
then_beside P o t low d w (Walks w1 qs to es) (Walks d1 ps end fs) next given h ha hb spends walk = by_next (next w1 qs to) (next d1 ps end) (spends w1 qs to) (spends d1 ps end) after_step
  where
    after_step : (step : IsWalkInside P o t low d w1 qs to es d1 ps end fs) → RecordsBeside P o step.inside low d1 (next w1 qs to) (next d1 ps end)
    after_step step =
        let same : next w1 qs to ≡ next w1 (farther (length o.before) ps) (length o.before + end) = ap (λ (z : List ℕ). next w1 z to) step.indices ∙ ap (λ (z : ℕ). next w1 (farther (length o.before) ps) z) step.ends in
        subst (λ (z : RecordsOutcome). RecordsBeside P o step.inside low d1 z (next d1 ps end)) (sym same) (walk step.inside d1 w1 ps end step.cut_is step.underway)

    two_merges : (gs hs : List Event) → merges (without_concats (gs ++ hs)) ≡ merges (without_concats gs) + merges (without_concats hs)
    two_merges gs hs = ap merges (without_both gs hs) ∙ merges_both (without_concats gs) (without_concats hs)

    joined : (w2 : Cut) (qs2 : List ℕ) (to2 : ℕ) (es2 : List Event) (d2 : Cut) (ps2 : List ℕ) (end2 : ℕ) (fs2 : List Event) (step : IsWalkInside P o t low d w1 qs to es d1 ps end fs)
        → Binds o d1 es2 ⊎ IsWalkInside P o step.inside low d1 w2 qs2 to2 es2 d2 ps2 end2 fs2 → Binds o d (es ++ es2) ⊎ IsWalkInside P o t low d w2 qs2 to2 (es ++ es2) d2 ps2 end2 (fs ++ fs2)
    joined w2 qs2 to2 es2 d2 ps2 end2 fs2 step (inl binds) =
        let left = length o.before in
        let size = length (whole d) in
        let right = length o.after in
        let gs = without_concats es2 in
        let k : BindOutside left (count_after (without_concats fs) size) right gs = subst (λ (i : ℕ). BindOutside left i right gs) (sym step.counted) binds in
        inl (subst (BindOutside left size right) (sym (without_both es es2 ∙ ap (λ (xs : List Event). xs ++ gs) step.events)) (binds_after left size right (without_concats fs) gs step.bounded k))
    joined w2 qs2 to2 es2 d2 ps2 end2 fs2 step (inr rest) =
        let size = length (whole d) in
        let g = shifted_event (length o.before) in
        let ours = without_both fs fs2 in
        inr (record {
          inside = rest.inside;
          cut_is = rest.cut_is;
          underway = rest.underway;
          extended = extended_twice t step.inside rest.inside d d1 d2 step.extended rest.extended;
          events = without_both es es2 ∙ ap (λ (xs : List Event). xs ++ without_concats es2) step.events ∙ ap (λ (xs : List Event). map g (without_concats fs) ++ xs) rest.events ∙ sym (ap (map g) ours ∙ map-append g (without_concats fs) (without_concats fs2));
          bounded = subst (λ (xs : List Event). AreBounded xs size) (sym ours) (bounded_both (without_concats fs) (without_concats fs2) size step.bounded (subst (AreBounded (without_concats fs2)) (sym step.counted) rest.bounded));
          counted = ap (λ (xs : List Event). count_after xs size) ours ∙ count_both (without_concats fs) (without_concats fs2) size ∙ ap (count_after (without_concats fs2)) step.counted ∙ rest.counted;
          indices = rest.indices;
          ends = rest.ends;
        })

    by_next : (x y : RecordsOutcome) → RecordsSpend w1 x → RecordsSpend d1 y → ((step : IsWalkInside P o t low d w1 qs to es d1 ps end fs) → RecordsBeside P o step.inside low d1 x y) → RecordsBeside P o t low d (walked_later es x) (walked_later fs y)
    by_next (Walks w2 qs2 to2 es2) (Walks d2 ps2 end2 fs2) sx sy k = λ x y.
        let mx = two_merges es es2 in
        let my = two_merges fs fs2 in
        let few_x : t.lig_id + merges (without_concats es) ≤ 7 = omega (arith, mx, x.1) in
        let few_y : d.lig_id + merges (without_concats fs) ≤ 7 = omega (arith, my, y.1) in
        let up_x : w1.lig_id ≤ t.lig_id + merges (without_concats es) = subst (λ (n : ℕ). w1.lig_id ≤ n + merges (without_concats es)) given (ha.1 (omega (arith, few_x, given))) in
        let up_y : d1.lig_id ≤ d.lig_id + merges (without_concats fs) = hb.1 few_y in
        elim (h (sx.0 x.0, few_x) (sy.0 y.0, few_y)) [
          | inl binds ↦ inl (subst (BindOutside (length o.before) (length (whole d)) (length o.after)) (sym (without_both es es2)) (binds_more (length o.before) (length (whole d)) (length o.after) (without_concats es) (without_concats es2) binds))
          | inr step ↦
              let number : w1.lig_id ≡ step.inside.lig_id = ap (λ (z : Cut). z.lig_id) step.cut_is in
              joined w2 qs2 to2 es2 d2 ps2 end2 fs2 step (k step (x.0, omega (arith, mx, x.1, up_x, number)) (y.0, omega (arith, my, y.1, up_y)))
        ]
    by_next (Walks w2 qs2 to2 es2) (Stops y) sx sy k = tt
    by_next (Stops x) y sx sy k = tt

each_beside : (P : Placing) → IsOfWhole P → (act : ℕ → Action) → NestedLocal P act → ((i : ℕ) → RuleKeepsParts (act i)) → ((i : ℕ) → IsSpending (act i)) → (records : List SequenceLookupRecord) (o : Outside) (low : ℕ) → IsNext P o low (each_record act records)
each_beside P over act local keeps spends [] o low = λ s e w ps end same u. unmoved P o s low e w ps end same u
each_beside P over act local keeps spends (r ∷ records) o low = λ s e w ps end same u.
    then_beside P o s low e w (one_record act r w (farther (length o.before) ps) (length o.before + end)) (one_record act r e ps end) (each_record act records) (ap (λ (z : Cut). z.lig_id) same) (one_beside P over act local keeps r o s low e w ps end same u)
    (at_index_spends act spends r (slice_get (farther (length o.before) ps) r.sequence_index) w (farther (length o.before) ps) (length o.before + end)) (at_index_spends act spends r (slice_get ps r.sequence_index) e ps end) (λ c qs to. each_spends act spends records c qs to)
    (each_beside P over act local keeps spends records o low)

-- what must hold of lookups that may be nested in a rule
abbrev pub NestLocal : Placing → Option (ℕ → Action) → Type 0
NestLocal P None = Unit {0}
NestLocal P (Some act) = ((i : ℕ) → IsLocalOrIdle P (act i)) × ((i : ℕ) → RuleKeepsParts (act i)) × ((i : ℕ) → IsSpending (act i))

nest_beside : (P : Placing) → IsOfWhole P → (nest : Option (ℕ → Action)) → NestLocal P nest → (records : List SequenceLookupRecord) (o : Outside) (low : ℕ) → IsNext P o low (each_nested nest records)
nest_beside P over None k records o low = λ s e w ps end same u. unmoved P o s low e w ps end same u
nest_beside P over (Some act) k records o low = each_beside P over act k.0 k.1 k.2 records o low

-- ---- after the match

min_farther : (left right n end : ℕ) → (0 < right → end ≤ n) → min (left + end) (left + n + right) ≡ left + min end n
min_farther left right n end within = elim (cases_lt 0 right) [ inl some ↦ let le = within some in omega (arith, le) | inr none ↦ omega (arith, none) ]

after_match : (P : Placing) → IsOfWhole P → (o : Outside) (s : Inside) (c : Cut) (a b : RecordsOutcome) → RecordsBeside P o s (length c.front) c a b → IsBeside P o s c (cut_after_match a) (cut_after_match b)
after_match P over o s c (Stops x) b h = tt
after_match P over o s c (Walks w qs to es) (Stops y) h = refused_beside P o s c (cut_after_match (Walks w qs to es)) y
after_match P over o s c (Walks w qs to es) (Walks d ps end fs) h = by_tests (holds (min to (length (whole w))) w) (holds (min end (length (whole d))) d)
  where
    made : IsWalkInside P o s (length c.front) c w qs to es d ps end fs → IsMadeInside P o s c (cut_at (min to (length (whole w))) w) (cut_at (min end (length (whole d))) d) es fs
    made k =
        let m = min end (length (whole d)) in
        let long : length (whole w) ≡ length o.before + length (whole d) + length o.after = ap (λ (z : Cut). length (whole z)) k.cut_is ∙ whole_long o k.inside d in
        let at : min to (length (whole w)) ≡ length o.before + m = ap (λ (n : ℕ). min n (length (whole w))) k.ends ∙ ap (λ (n : ℕ). min (length o.before + end) n) long ∙ min_farther (length o.before) (length o.after) (length (whole d)) end k.underway.within in
        let same : length (whole (cut_at m d)) ≡ length (whole d) = ap (λ (xs : List Item). length xs) (cut_whole m d) in
        record {
          inside = k.inside;
          cut_is = ap (λ (n : ℕ). cut_at n w) at ∙ ap (λ (z : Cut). cut_at (length o.before + m) z) k.cut_is ∙ cut_framed o k.inside m d (omega arith);
          frames = cut_frames o k.inside m d k.underway.frames;
          extended = record { up = k.extended.up; names = k.extended.names };
          some = omega (arith, same, k.underway.some);
          reach = λ r. let n = k.underway.reach r in omega (arith, same, n);
          placed = over o d (cut_at m d) (cut_whole m d) refl k.underway.placed;
          events = k.events;
          bounded = k.bounded;
        }

    by_tests : (t u : Bool) → IsBeside P o s c (if t then Acts (cut_at (min to (length (whole w))) w) es else Refuses TooLong) (if u then Acts (cut_at (min end (length (whole d))) d) fs else Refuses TooLong)
    by_tests true true = λ x y. elim (h x y) [ inl binds ↦ inl binds | inr k ↦ inr (made k) ]
    by_tests true false = tt
    by_tests false u = tt

-- law: the lookups of a rule's records, applied at the indices of a match of a fragment, are those of the text, or bind the fragment
pub nested_beside : (P : Placing) → IsOfWhole P → (nest : Option (ℕ → Action)) → NestLocal P nest → (records : List SequenceLookupRecord) (o : Outside) (s : Inside) (c : Cut) (ps : List ℕ) (end : ℕ) → IsUnderway P o s (length c.front) c ps end
    → IsBeside P o s c (cut_after_match (each_nested nest records (framed_cut o s c) (farther (length o.before) ps) (length o.before + end))) (cut_after_match (each_nested nest records c ps end))
nested_beside P over nest k records o s c ps end u =
    after_match P over o s c (each_nested nest records (framed_cut o s c) (farther (length o.before) ps) (length o.before + end)) (each_nested nest records c ps end) (nest_beside P over nest k records o (length c.front) s c (framed_cut o s c) ps end refl u)
