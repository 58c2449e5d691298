-- A local rule over a fragment.
use Rattle.std.proofs.Common.{ℕ, zero, suc, ◌≡◌, ◌≤◌, ◌<◌, ◌+◌, inl, inr, Bool, true, false, nat_le, if◌then◌else◌, List, [], ◌∷◌, ◌++◌, Ok, Err, length, map, arith, refl, ap, sym, subst, ◌∙◌, append_assoc}
use Rattle.std.proofs.lemmas.List.{map-append, length-append}
use Rattle.buffer_glyphs.specs.declared.level.BufferClusterLevel.{BufferClusterLevel}
use Rattle.buffer_glyphs.specs.declared.cause.ShapeCause.TheVariants.{TooLong}
use Rattle.buffer_glyphs.specs.Items.{Item}
use Rattle.buffer_glyphs.specs.Events.{Event, Merge, MergeGrapheme, Replace, Circle, Delete, Move, Arrange, Sort, Reverse, Break, Concat, Tatweel, StrictBreak, Spread, Reset}
use Rattle.buffer_glyphs.specs.Rewriting.{shifted_event}
use Rattle.buffer_parts.specs.Counts.{count_after, count_after_event}
use Rattle.buffer_core.specs.Readings.{View, Read, Reading, with_events, then_read, then_reading}
use Rattle.buffer_stages.specs.Actions.{Cut, whole, view_at, past_item, Outcome, Passes, Acts, Refuses, Action}
use Rattle.buffer_parts.specs.Counting.{is_left}
use Rattle.buffer_parts.specs.Breaks.Concat.{without_concats}
use Rattle.buffer_parts.specs.Breaks.Divisible.{merges}
use Rattle.buffer_parts.specs.Breaks.Sides.{AreBounded}
use Rattle.buffer_parts.specs.Breaks.Fragments.{with_ligature_renamed}
use Rattle.layout_match.specs.Trying.{after_outcome, outcome_past_item, trial_at, trials}
use Rattle.layout_laws.specs.Breaks.Frames.{Outside, Inside, named_items, framed_cut, IsFramed}
use Rattle.layout_laws.specs.Breaks.Binding.{BindOutside}
use Rattle.layout_laws.specs.Breaks.Local.{Placing, Binds, IsMadeInside, IsBeside, IsIdle, IsBesideOrIdle, IsLocalOrIdle, IsStep, Steps, IsSteady, IsOfWhole}
use Rattle.layout_laws.proofs.BreakLemmas.PassWalks.{Reads, Walked, IsEnough, IsTriedAfter, WalksAreLocal}
use Rattle.layout_laws.proofs.BreakLemmas.Frames.{front_joined, given_both, still_framed, same_extended, extended_twice}
use Rattle.layout_laws.proofs.BreakLemmas.Outcomes.{refused_beside, limited_beside, binds_beside}
use Rattle.buffer_parts.proofs.BreakLemmas.Division.{merges_both, without_both}
use Rattle.buffer_parts.specs.Lemmas.Stages.{same_read as read_same}
use Rattle.layout_match.proofs.Lemmas.Steps.{ended as trials_end}

-- ---- events in turn

pub bounded_both : (es fs : List Event) (n : ℕ) → AreBounded es n → AreBounded fs (count_after es n) → AreBounded (es ++ fs) n
bounded_both [] fs n h k = k
bounded_both (e ∷ es) fs n h k = (h.0, bounded_both es fs (count_after_event n e) h.1 k)

pub count_both : (es fs : List Event) (n : ℕ) → count_after (es ++ fs) n ≡ count_after fs (count_after es n)
count_both [] fs n = refl
count_both (e ∷ es) fs n = count_both es fs (count_after_event n e)

-- what binds does so with more events after it, or with events of the fragment before it
pub binds_more : (left n right : ℕ) (es fs : List Event) → BindOutside left n right es → BindOutside left n right (es ++ fs)
binds_more left n right [] fs h = absurd h
binds_more left n right (e ∷ es) fs (inl here) = inl here
binds_more left n right (e ∷ es) fs (inr later) = inr (later.0, later.1, later.2, binds_more left (count_after_event n later.0) right es fs later.3)

pub binds_after : (left n right : ℕ) (bs es : List Event) → AreBounded bs n → BindOutside left (count_after bs n) right es → BindOutside left n right (map (shifted_event left) bs ++ es)
binds_after left n right [] es b h = h
binds_after left n right (b ∷ bs) es k h = inr (b, refl, k.0, binds_after left (count_after_event n b) right bs es k.1 h)

-- ---- one item is passed

past_framed : (o : Outside) (s : Inside) (c : Cut) (x : Item) (xs : List Item) → past_item (framed_cut o s (record c { rest = x ∷ xs })) ≡ framed_cut o s (past_item (record c { rest = x ∷ xs }))
past_framed o s c x xs = ap (λ (ys : List Item). record (framed_cut o s (past_item (record c { rest = x ∷ xs }))) { front = ys }) (front_joined o s c.front (x ∷ []))

-- an item passed in the text and alone
past_made : (P : Placing) → IsOfWhole P → (o : Outside) (s : Inside) (c : Cut) (x : Item) (xs : List Item) (es fs : List Event) → IsFramed o s (record c { rest = x ∷ xs }) → P o (record c { rest = x ∷ xs }) → without_concats es ≡ [] → without_concats fs ≡ []
    → IsMadeInside P o s (record c { rest = x ∷ xs }) (past_item (framed_cut o s (record c { rest = x ∷ xs }))) (past_item (record c { rest = x ∷ xs })) es fs
past_made P over o s c x xs es fs f k none_there none_here =
    let d : Cut = record c { rest = x ∷ xs } in
    record {
      inside = s;
      cut_is = past_framed o s c x xs;
      frames = still_framed o s d (past_item d) refl (given_both c.lig_id c.front (x ∷ []) f.front (f.rest.0, tt)) f.rest.1 f;
      extended = same_extended s d (past_item d) refl;
      some = omega (arith, length-append (c.front ++ x ∷ []) xs, length-append c.front (x ∷ []));
      reach = λ there. omega (arith, length-append (c.front ++ x ∷ []) xs, length-append c.front (x ∷ []));
      placed = over o d (past_item d) (append_assoc c.front (x ∷ []) xs) refl k;
      events = none_there ∙ ap (map (shifted_event (length o.before))) (sym none_here);
      bounded = subst (λ (es : List Event). AreBounded es (length (whole d))) (sym none_here) tt;
    }

past_beside : (P : Placing) → IsOfWhole P → (o : Outside) (s : Inside) (c : Cut) (x : Item) (xs : List Item) (q p : Outcome) → IsFramed o s (record c { rest = x ∷ xs }) → P o (record c { rest = x ∷ xs }) → IsBeside P o s (record c { rest = x ∷ xs }) q p
    → IsBeside P o s (record c { rest = x ∷ xs }) (outcome_past_item q (framed_cut o s (record c { rest = x ∷ xs }))) (outcome_past_item p (record c { rest = x ∷ xs }))
past_beside P over o s c x xs (Passes es) (Passes fs) f k h =
    let d : Cut = record c { rest = x ∷ xs } in
    limited_beside P o s d 1 (framed_cut o s d) d (Acts (past_item (framed_cut o s d)) es) (Acts (past_item d) fs) (λ a b. inr (past_made P over o s c x xs es fs f k h.0 h.1))
past_beside P over o s c x xs (Passes es) (Acts d fs) f k h = absurd h
past_beside P over o s c x xs (Passes es) (Refuses y) f k h = refused_beside P o s (record c { rest = x ∷ xs }) (outcome_past_item (Passes es) (framed_cut o s (record c { rest = x ∷ xs }))) y
past_beside P over o s c x xs (Acts w es) (Passes fs) f k h = binds_beside P o s (record c { rest = x ∷ xs }) w es (outcome_past_item (Passes fs) (record c { rest = x ∷ xs })) h
past_beside P over o s c x xs (Acts w es) (Acts d fs) f k h = h
past_beside P over o s c x xs (Acts w es) (Refuses y) f k h = tt
past_beside P over o s c x xs (Refuses y) p f k h = tt

-- a rule that is idle passes the item
past_idle : (P : Placing) → IsOfWhole P → (o : Outside) (s : Inside) (c : Cut) (x : Item) (xs : List Item) (q p : Outcome) → IsFramed o s (record c { rest = x ∷ xs }) → P o (record c { rest = x ∷ xs }) → IsIdle o s (record c { rest = x ∷ xs }) q p
    → IsBeside P o s (record c { rest = x ∷ xs }) (outcome_past_item q (framed_cut o s (record c { rest = x ∷ xs }))) (outcome_past_item p (record c { rest = x ∷ xs }))
past_idle P over o s c x xs q p f k h =
    let d : Cut = record c { rest = x ∷ xs } in
    let w : Cut = framed_cut o s d in
    subst (λ (z : Outcome). IsBeside P o s d (outcome_past_item z w) (outcome_past_item p d)) (sym h.acts)
    (subst (λ (z : Outcome). IsBeside P o s d (Acts (past_item w) h.theirs) (outcome_past_item z d)) (sym h.passes) (by_limit (nat_le (length d.front + 1) d.max_len)))
  where
    by_limit : (t : Bool) → IsBeside P o s (record c { rest = x ∷ xs }) (Acts (past_item (framed_cut o s (record c { rest = x ∷ xs }))) h.theirs) (if t then Acts (past_item (record c { rest = x ∷ xs })) h.ours else Refuses TooLong)
    by_limit true = λ a b. inr (past_made P over o s c x xs h.theirs h.ours f k h.none_there h.none_here)
    by_limit false = tt

past_either : (P : Placing) → IsOfWhole P → (o : Outside) (s : Inside) (c : Cut) (x : Item) (xs : List Item) (q p : Outcome) → IsFramed o s (record c { rest = x ∷ xs }) → P o (record c { rest = x ∷ xs }) → IsBesideOrIdle P o s (record c { rest = x ∷ xs }) q p
    → IsBeside P o s (record c { rest = x ∷ xs }) (outcome_past_item q (framed_cut o s (record c { rest = x ∷ xs }))) (outcome_past_item p (record c { rest = x ∷ xs }))
past_either P over o s c x xs q p f k h = elim h [ inl beside ↦ past_beside P over o s c x xs q p f k beside | inr idle ↦ past_idle P over o s c x xs q p f k idle ]

-- ---- what is read

-- a reading after another
pub record AreRead (a : Read) (next : Reading) (r : Read) : Type 0 where
  pub rest : Read
  pub rest_is : next ≡ Ok rest
  pub both : then_read a rest ≡ r

pub then_parts : (a : Read) (next : Reading) (r : Read) → then_reading a next ≡ Ok r → AreRead a next r
then_parts a (Ok s) r e = record { rest = s; rest_is = refl; both = cc }
then_parts a (Err x) r e = cc

-- ---- steps

abbrev Never : Outcome → Type 0
Never (Passes es) = ⊥
Never (Acts d es) = Unit {0}
Never (Refuses x) = Unit {0}

never_passes : (q : Outcome) (c : Cut) → Never (outcome_past_item q c)
never_passes (Passes es) c = by_test (nat_le (length c.front + 1) c.max_len)
  where
    by_test : (t : Bool) → Never (if t then Acts (past_item c) es else Refuses TooLong)
    by_test true = tt
    by_test false = tt
never_passes (Acts d es) c = tt
never_passes (Refuses x) c = tt

pub steps_past : (c : Cut) (x : Item) (xs : List Item) (q : Outcome) → Steps (record c { rest = x ∷ xs }) q → Steps (record c { rest = x ∷ xs }) (outcome_past_item q (record c { rest = x ∷ xs }))
steps_past c x xs (Passes es) h = by_test (nat_le (length c.front + 1) c.max_len)
  where
    step : IsStep (record c { rest = x ∷ xs }) (past_item (record c { rest = x ∷ xs })) es
    step = record {
      fewer = omega arith;
      spends = λ e. e;
      gives = λ e. omega arith;
      counted = ap (λ (fs : List Event). count_after fs (length (whole (record c { rest = x ∷ xs })))) h ∙ ap (λ (ys : List Item). length ys) (sym (append_assoc c.front (x ∷ []) xs));
    }

    by_test : (t : Bool) → Steps (record c { rest = x ∷ xs }) (if t then Acts (past_item (record c { rest = x ∷ xs })) es else Refuses TooLong)
    by_test true = step
    by_test false = tt
steps_past c x xs (Acts d es) h = h
steps_past c x xs (Refuses y) h = tt

-- the budget at the end was there before
abbrev IsSpending : (Cut → Reading) → Type 0
IsSpending next = (d : Cut) (r : Read) → next d ≡ Ok r → is_left r.view.max_ops ≡ true → is_left d.max_ops ≡ true

after_spends : (q : Outcome) (next : Cut → Reading) (v : View) (c : Cut) (r : Read) → Steps c q → IsSpending next → after_outcome q next v c ≡ Ok r → is_left r.view.max_ops ≡ true → is_left c.max_ops ≡ true
after_spends (Passes es) next v c r h k e l = let p = then_parts (with_events es (view_at v c)) (next c) r e in k c p.rest p.rest_is (ap (λ (z : Read). is_left z.view.max_ops) p.both ∙ l)
after_spends (Acts d es) next v c r h k e l = let p = then_parts (with_events es (view_at v d)) (next d) r e in h.spends (k d p.rest p.rest_is (ap (λ (z : Read). is_left z.view.max_ops) p.both ∙ l))
after_spends (Refuses x) next v c r h k e l = cc

ended_spends : (v : View) (c : Cut) (r : Read) → ◌≡◌ {A = Reading} (Ok (with_events [] (view_at v c))) (Ok r) → is_left r.view.max_ops ≡ true → is_left c.max_ops ≡ true
ended_spends v c r e l = ap (λ (z : Read). is_left z.view.max_ops) (read_same (with_events [] (view_at v c)) r e) ∙ l

pub trials_spend : (act : Action) → IsSteady act → (v : View) (n : ℕ) → IsSpending (trials act v n)
trials_spend act steady v zero c r e l = ended_spends v c r e l
trials_spend act steady v (suc n) c r e l = by_rest c.rest refl (trials_spend act steady v n)
  where
    by_rest : (ys : List Item) → c.rest ≡ ys → IsSpending (trials act v n) → is_left c.max_ops ≡ true
    by_rest [] g k = ended_spends v c r (sym (ap (λ (zs : List Item). trial_at act (trials act v n) v zs c) g) ∙ e) l
    by_rest (x ∷ xs) g k =
        let d : Cut = record c { rest = x ∷ xs } in
        let same : c ≡ d = ap (λ (zs : List Item). record c { rest = zs }) g in
        after_spends (outcome_past_item (act d) d) (trials act v n) v d r (steps_past c x xs (act d) (steady d (omega arith))) k (sym (ap (λ (z : Cut). trials act v (suc n) z) same) ∙ e) l

-- ---- a step of the walk

abbrev Walks : Placing → Action → BufferClusterLevel → View → View → Outside → Inside → Cut → Read → Read → Type 0
Walks P act level v u o s c r e = Walked P (IsTriedAfter act level v) level u o s c r e

abbrev IsWalkable : Placing → Action → BufferClusterLevel → View → View → ℕ → Type 0
IsWalkable P act level v u n = (steps : ℕ) (o : Outside) (s : Inside) (c : Cut) (r e : Read) → IsFramed o s c → P o c → 0 < length (whole c) → length c.rest ≤ n → n + length o.after ≤ steps
    → trials act v steps (framed_cut o s c) ≡ Ok r → trials act u n c ≡ Ok e → IsEnough level s.lig_id r → IsEnough level c.lig_id e → Walks P act level v u o s c r e

-- the numbers that suffice for all events suffice for the first
enough_first : (level : BufferClusterLevel) (last : ℕ) (es : List Event) (v : View) (r : Read) → IsEnough level last (then_read (with_events es v) r) → last + merges (without_concats es) + merges (without_concats (r.events level)) ≤ 7
enough_first level last es v r h =
    let both : merges (without_concats (es ++ r.events level)) ≡ merges (without_concats es) + merges (without_concats (r.events level)) = ap merges (without_both es (r.events level)) ∙ merges_both (without_concats es) (without_concats (r.events level)) in
    omega (arith, both, h.numbers)

-- what binds does so with more events after it
pub bound_first : (level : BufferClusterLevel) (o : Outside) (c : Cut) (es : List Event) (v : View) (r : Read) → Binds o c es → Binds o c ((then_read (with_events es v) r).events level)
bound_first level o c es v r binds =
    subst (BindOutside (length o.before) (length (whole c)) (length o.after)) (sym (without_both es (r.events level))) (binds_more (length o.before) (length (whole c)) (length o.after) (without_concats es) (without_concats (r.events level)) binds)

-- a rule acted inside, and was then tried on
pub inside_walked : (P : Placing) (Leads : Reads) (level : BufferClusterLevel) (v u : View) (o : Outside) (s : Inside) (c w d : Cut) (es fs : List Event) (r e : Read) → (m : IsMadeInside P o s c w d es fs) → count_after (without_concats fs) (length (whole c)) ≡ length (whole d)
    → Walked P Leads level u o m.inside d r e → Walked P Leads level u o s c (then_read (with_events es (view_at v w)) r) (then_read (with_events fs (view_at u d)) e)
inside_walked P Leads level v u o s c w d es fs r e m counted (inl binds) =
    let left = length o.before in
    let size = length (whole c) in
    let right = length o.after in
    let gs = without_concats (r.events level) in
    let k : BindOutside left (count_after (without_concats fs) size) right gs = subst (λ (i : ℕ). BindOutside left i right gs) (sym counted) binds in
    inl (subst (BindOutside left size right) (sym (without_both es (r.events level) ∙ ap (λ (xs : List Event). xs ++ gs) m.events)) (binds_after left size right (without_concats fs) gs m.bounded k))
inside_walked P Leads level v u o s c w d es fs r e m counted (inr walk) =
    let size = length (whole c) in
    let g = shifted_event (length o.before) in
    let ours = without_both fs (e.events level) in
    let more = count_both (without_concats fs) (without_concats (e.events level)) size in
    inr (record {
      end = walk.end;
      inside = walk.inside;
      last = walk.last;
      frames = walk.frames;
      extended = extended_twice s m.inside walk.inside c d walk.end m.extended walk.extended;
      some = walk.some;
      placed = walk.placed;
      view = walk.view;
      leads = walk.leads;
      view_is = walk.view_is;
      events = without_both es (r.events level) ∙ ap (λ (xs : List Event). xs ++ without_concats (r.events level)) m.events ∙ ap (λ (xs : List Event). map g (without_concats fs) ++ xs) walk.events
          ∙ sym (append_assoc (map g (without_concats fs)) (map g (without_concats (e.events level))) (without_concats (walk.last.events level)))
          ∙ ap (λ (xs : List Event). xs ++ without_concats (walk.last.events level)) (sym (ap (map g) ours ∙ map-append g (without_concats fs) (without_concats (e.events level))));
      bounded = subst (λ (xs : List Event). AreBounded xs size) (sym ours) (bounded_both (without_concats fs) (without_concats (e.events level)) size m.bounded (subst (AreBounded (without_concats (e.events level))) (sym counted) walk.bounded));
      counted = ap (λ (xs : List Event). count_after xs size) ours ∙ more ∙ ap (count_after (without_concats (e.events level))) counted ∙ walk.counted;
    })

acted_walks : (P : Placing) (act : Action) → IsSteady act → (level : BufferClusterLevel) (v u : View) (steps n : ℕ) (o : Outside) → n + length o.after ≤ steps → IsWalkable P act level v u n → (s : Inside) (c w1 d : Cut) (es fs : List Event) → length c.rest ≤ suc n
    → IsBeside P o s c (Acts w1 es) (Acts d fs) → IsStep (framed_cut o s c) w1 es → IsStep c d fs → (r e : Read) → trials act v steps w1 ≡ Ok r → trials act u n d ≡ Ok e
    → IsEnough level s.lig_id (then_read (with_events es (view_at v w1)) r) → IsEnough level c.lig_id (then_read (with_events fs (view_at u d)) e)
    → Walks P act level v u o s c (then_read (with_events es (view_at v w1)) r) (then_read (with_events fs (view_at u d)) e)
acted_walks P act steady level v u steps n o le walk s c w1 d es fs long h step half r e rs is ar ae =
    let theirs = enough_first level s.lig_id es (view_at v w1) r ar in
    let ours = enough_first level c.lig_id fs (view_at u d) e ae in
    let few_theirs : s.lig_id + merges (without_concats es) ≤ 7 = omega (arith, theirs) in
    let few_ours : c.lig_id + merges (without_concats fs) ≤ 7 = omega (arith, ours) in
    let up_theirs = step.gives few_theirs in
    let up_ours = half.gives few_ours in
    elim (h (trials_spend act steady v steps w1 r rs ar.budget, few_theirs) (trials_spend act steady u n d e is ae.budget, few_ours)) [
      | inl binds ↦ inl (bound_first level o c es (view_at v w1) r binds)
      | inr made ↦
          let number : w1.lig_id ≡ made.inside.lig_id = ap (λ (z : Cut). z.lig_id) made.cut_is in
          inside_walked P (IsTriedAfter act level v) level v u o s c w1 d es fs r e made half.counted
          (walk steps o made.inside d r e made.frames made.placed made.some (omega (arith, long, half.fewer)) le (ap (λ (z : Cut). trials act v steps z) (sym made.cut_is) ∙ rs) is
          (record { budget = ar.budget; numbers = omega (arith, theirs, up_theirs, number) }) (record { budget = ae.budget; numbers = omega (arith, ours, up_ours) }))
    ]

-- the readings of two outcomes, none of which passes
outcomes_walk : (P : Placing) (act : Action) → IsSteady act → (level : BufferClusterLevel) (v u : View) (steps n : ℕ) (o : Outside) → n + length o.after ≤ steps → IsWalkable P act level v u n → (s : Inside) (c : Cut) (q p : Outcome) → length c.rest ≤ suc n
    → Never q → Never p → IsBeside P o s c q p → Steps (framed_cut o s c) q → Steps c p → (r e : Read) → after_outcome q (trials act v steps) v (framed_cut o s c) ≡ Ok r → after_outcome p (trials act u n) u c ≡ Ok e
    → IsEnough level s.lig_id r → IsEnough level c.lig_id e → Walks P act level v u o s c r e
outcomes_walk P act steady level v u steps n o le walk s c (Passes es) p long a b h step half r e rs is ar ae = absurd a
outcomes_walk P act steady level v u steps n o le walk s c (Refuses x) p long a b h step half r e rs is ar ae = cc
outcomes_walk P act steady level v u steps n o le walk s c (Acts w1 es) (Passes fs) long a b h step half r e rs is ar ae = absurd b
outcomes_walk P act steady level v u steps n o le walk s c (Acts w1 es) (Refuses y) long a b h step half r e rs is ar ae = cc
outcomes_walk P act steady level v u steps n o le walk s c (Acts w1 es) (Acts d fs) long a b h step half r e rs is ar ae =
    let theirs = then_parts (with_events es (view_at v w1)) (trials act v steps w1) r rs in
    let ours = then_parts (with_events fs (view_at u d)) (trials act u n d) e is in
    subst (λ (x : Read). Walks P act level v u o s c x e) theirs.both
    (subst (λ (y : Read). Walks P act level v u o s c (then_read (with_events es (view_at v w1)) theirs.rest) y) ours.both
    (acted_walks P act steady level v u steps n o le walk s c w1 d es fs long h step half theirs.rest ours.rest theirs.rest_is ours.rest_is
    (subst (IsEnough level s.lig_id) (sym theirs.both) ar) (subst (IsEnough level c.lig_id) (sym ours.both) ae)))

item_walks : (P : Placing) (act : Action) → IsOfWhole P → IsLocalOrIdle P act → IsSteady act → (level : BufferClusterLevel) (v u : View) (steps n : ℕ) (o : Outside) → n + length o.after ≤ steps → IsWalkable P act level v u n → (s : Inside) (c : Cut) (x : Item) (xs : List Item)
    → IsFramed o s (record c { rest = x ∷ xs }) → P o (record c { rest = x ∷ xs }) → length {A = Item} (x ∷ xs) ≤ suc n → (r e : Read) → trials act v (suc steps) (framed_cut o s (record c { rest = x ∷ xs })) ≡ Ok r → trials act u (suc n) (record c { rest = x ∷ xs }) ≡ Ok e
    → IsEnough level s.lig_id r → IsEnough level c.lig_id e → Walks P act level v u o s (record c { rest = x ∷ xs }) r e
item_walks P act over local steady level v u steps n o le walk s c x xs f k long r e rs is ar ae =
    let d : Cut = record c { rest = x ∷ xs } in
    let w : Cut = framed_cut o s d in
    let q = act w in
    let p = act d in
    outcomes_walk P act steady level v u steps n o le walk s d (outcome_past_item q w) (outcome_past_item p d) long (never_passes q w) (never_passes p d) (past_either P over o s c x xs q p f k (local o s d f k (omega arith)))
    (steps_past w (with_ligature_renamed s.name x) (named_items s xs ++ o.after) q (steady w (omega arith))) (steps_past c x xs p (steady d (omega arith))) r e rs is ar ae

ended_walks : (P : Placing) (act : Action) (level : BufferClusterLevel) (v u : View) (steps n : ℕ) (o : Outside) (s : Inside) (c : Cut) (r e : Read) → IsFramed o s c → P o c → 0 < length (whole c) → c.rest ≡ [] → length o.after ≤ steps → trials act v steps (framed_cut o s c) ≡ Ok r → trials act u n c ≡ Ok e → IsEnough level s.lig_id r
    → Walks P act level v u o s c r e
ended_walks P act level v u steps n o s c r e f k some none le rs is ar =
    subst (λ (y : Read). Walks P act level v u o s c r y) (read_same (with_events [] (view_at u c)) e (sym (trials_end act u n c none) ∙ is)) (inr (record {
      end = c;
      inside = s;
      last = r;
      frames = f;
      extended = same_extended s c c refl;
      some = some;
      placed = k;
      view = refl;
      leads = (none, record { steps = steps; many = omega (arith, le, ap (λ (xs : List Item). length xs) none); read = rs; enough = ar });
      view_is = refl;
      events = refl;
      bounded = tt;
      counted = refl;
    }))

rest_walks : (P : Placing) (act : Action) → IsOfWhole P → IsLocalOrIdle P act → IsSteady act → (level : BufferClusterLevel) (v u : View) (n : ℕ) → IsWalkable P act level v u n → (steps : ℕ) (o : Outside) (s : Inside) (c : Cut) (r e : Read) (ys : List Item) → c.rest ≡ ys → IsFramed o s c → P o c → 0 < length (whole c) → length c.rest ≤ suc n
    → suc n + length o.after ≤ steps → trials act v steps (framed_cut o s c) ≡ Ok r → trials act u (suc n) c ≡ Ok e → IsEnough level s.lig_id r → IsEnough level c.lig_id e → Walks P act level v u o s c r e
rest_walks P act over local steady level v u n walk steps o s c r e [] g f k some long le rs is ar ae = ended_walks P act level v u steps (suc n) o s c r e f k some g (omega (arith, le)) rs is ar
rest_walks P act over local steady level v u n walk zero o s c r e (x ∷ xs) g f k some long le rs is ar ae = absurd (omega (arith, le))
rest_walks P act over local steady level v u n walk (suc steps) o s c r e (x ∷ xs) g f k some long le rs is ar ae =
    let Q : Cut → Type 0 = λ d. IsFramed o s d → P o d → length d.rest ≤ suc n → trials act v (suc steps) (framed_cut o s d) ≡ Ok r → trials act u (suc n) d ≡ Ok e → IsEnough level d.lig_id e → Walks P act level v u o s d r e in
    subst Q (ap (λ (zs : List Item). record c { rest = zs }) (sym g))
    (λ f k long rs is ae. item_walks P act over local steady level v u steps n o (omega (arith, le)) walk s c x xs f k long r e rs is ar ae) f k long rs is ae

walks_from : (P : Placing) (act : Action) → IsOfWhole P → IsLocalOrIdle P act → IsSteady act → (level : BufferClusterLevel) (v u : View) (n : ℕ) → IsWalkable P act level v u n
walks_from P act over local steady level v u zero steps o s c r e f k some long le rs is ar ae = by_rest c.rest refl
  where
    by_rest : (ys : List Item) → c.rest ≡ ys → Walks P act level v u o s c r e
    by_rest [] g = ended_walks P act level v u steps zero o s c r e f k some g (omega (arith, le)) rs is ar
    by_rest (x ∷ xs) g = let more : length {A = Item} (x ∷ xs) ≤ 0 = subst (λ (ys : List Item). length ys ≤ 0) g long in absurd (omega (arith, more))
walks_from P act over local steady level v u (suc n) steps o s c r e f k some long le rs is ar ae =
    rest_walks P act over local steady level v u n (walks_from P act over local steady level v u n) steps o s c r e c.rest refl f k some long le rs is ar ae

pub walks_are_local : WalksAreLocal
walks_are_local P act over local steady level v u o s c r e f k some t is ae = walks_from P act over local steady level v u (length c.rest) t.steps o s c r e f k some (omega arith) t.many t.read is t.enough ae
