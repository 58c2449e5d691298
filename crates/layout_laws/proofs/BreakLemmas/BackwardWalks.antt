-- A local rule that acts one for one, tried at the indices of a fragment from the right, in the text and alone.
use Rattle.std.proofs.Common.{ℕ, zero, suc, ℤ, ◌≡◌, ◌≤◌, ◌<◌, ◌+◌, inl, inr, true, List, [], ◌++◌, Ok, length, map, take, drop, arith, refl, ap, sym, subst, ◌∙◌}
use Rattle.std.proofs.lemmas.List.{length-append, length-drop, take-append-drop}
use Rattle.buffer_glyphs.specs.declared.level.BufferClusterLevel.{BufferClusterLevel}
use Rattle.buffer_glyphs.specs.Items.{Item}
use Rattle.buffer_glyphs.specs.Events.{Event}
use Rattle.buffer_glyphs.specs.Rewriting.{shifted_event}
use Rattle.buffer_parts.specs.Counts.{count_after}
use Rattle.buffer_parts.specs.Counting.{is_left}
use Rattle.buffer_core.specs.Readings.{View, Read, Reading, with_events, then_read}
use Rattle.buffer_stages.specs.Actions.{Cut, whole, view_at, Outcome, Passes, Acts, Refuses, Action}
use Rattle.layout_match.specs.Trying.{after_outcome}
use Rattle.layout_substitution.specs.Lookups.{cut_at_index, backward_trials}
use Rattle.buffer_parts.specs.Breaks.Concat.{without_concats}
use Rattle.buffer_parts.specs.Breaks.Divisible.{merges}
use Rattle.buffer_parts.specs.Breaks.Sides.{AreBounded}
use Rattle.layout_laws.specs.Breaks.Frames.{Outside, Inside, framed_cut, IsFramed}
use Rattle.layout_laws.specs.Breaks.Binding.{BindOutside}
use Rattle.layout_laws.specs.Breaks.Local.{AnyPositions, IsMadeInside, IsBeside, IsLocal}
use Rattle.layout_laws.specs.Breaks.Backward.{IsOneForOne, ReplacesOneForOne, ActsOneForOne}
use Rattle.layout_laws.proofs.BreakLemmas.PassWalks.{Reads, Walked}
use Rattle.layout_laws.proofs.BreakLemmas.Frames.{same_extended}
use Rattle.layout_laws.proofs.BreakLemmas.Walks.{then_parts, bound_first, inside_walked}
use Rattle.layout_laws.proofs.BreakLemmas.Records.{cut_framed, cut_frames}
use Rattle.buffer_parts.proofs.BreakLemmas.Division.{without_both, merges_both}
use Rattle.buffer_parts.specs.Lemmas.Stages.{same_read as read_same}

-- some of a budget of nested lookups is left, and a last ligature number is not past the greatest
abbrev pub IsReady : ℤ → ℕ → Type 0
IsReady budget last = (is_left budget ≡ true) × (last ≤ 7)

-- ---- what is read one for one

-- what was read from a cut on is one for one
pub record IsReadOneForOne (level : BufferClusterLevel) (c : Cut) (r : Read) : Type 0 where
  pub long : length r.view.items ≡ length (whole c)
  pub positions : r.view.positions ≡ c.positions
  pub number : r.view.lig_id ≡ c.lig_id
  pub budget : r.view.max_ops ≡ c.max_ops
  pub merged : merges (without_concats (r.events level)) ≡ 0

-- a rule that passes leaves all one for one
pub passed_one_for_one : (c : Cut) (es : List Event) → without_concats es ≡ [] → IsOneForOne c c es
passed_one_for_one c es h = record { long = refl; positions = refl; number = refl; budget = refl; merged = ap merges h; counted = λ n. ap (λ (fs : List Event). count_after fs n) h }

then_one_for_one : (level : BufferClusterLevel) (c d : Cut) (es : List Event) (v : View) (r : Read) → IsOneForOne c d es → IsReadOneForOne level d r → IsReadOneForOne level c (then_read (with_events es v) r)
then_one_for_one level c d es v r h k =
    let both : merges (without_concats (es ++ r.events level)) ≡ merges (without_concats es) + merges (without_concats (r.events level)) = ap merges (without_both es (r.events level)) ∙ merges_both (without_concats es) (without_concats (r.events level)) in
    record { long = k.long ∙ h.long; positions = k.positions ∙ h.positions; number = k.number ∙ h.number; budget = k.budget ∙ h.budget; merged = omega (arith, both, h.merged, k.merged) }

after_one_for_one : (level : BufferClusterLevel) (o : Outcome) (next : Cut → Reading) (v : View) (c : Cut) (r : Read) → ReplacesOneForOne c o → ((d : Cut) (q : Read) → next d ≡ Ok q → IsReadOneForOne level d q) → after_outcome o next v c ≡ Ok r → IsReadOneForOne level c r
after_one_for_one level (Passes es) next v c r h k e =
    let p = then_parts (with_events es (view_at v c)) (next c) r e in
    subst (IsReadOneForOne level c) p.both (then_one_for_one level c c es (view_at v c) p.rest (passed_one_for_one c es h) (k c p.rest p.rest_is))
after_one_for_one level (Acts d es) next v c r h k e =
    let p = then_parts (with_events es (view_at v d)) (next d) r e in
    subst (IsReadOneForOne level c) p.both (then_one_for_one level c d es (view_at v d) p.rest h (k d p.rest p.rest_is))
after_one_for_one level (Refuses x) next v c r h k e = cc

cut_whole : (n : ℕ) (c : Cut) → length (whole (cut_at_index n c)) ≡ length (whole c)
cut_whole n c = ap (λ (xs : List Item). length xs) (take-append-drop n (whole c))

pub trials_one_for_one : (act : Action) → ActsOneForOne act → (level : BufferClusterLevel) (v : View) (n : ℕ) (c : Cut) (r : Read) → backward_trials act v n c ≡ Ok r → IsReadOneForOne level c r
trials_one_for_one act still level v zero c r e = subst (IsReadOneForOne level c) (read_same (with_events [] (view_at v c)) r e) (record { long = refl; positions = refl; number = refl; budget = refl; merged = refl })
trials_one_for_one act still level v (suc n) c r e =
    let d : Cut = cut_at_index n c in
    let h = after_one_for_one level (act d) (backward_trials act v n) v d r (still d) (trials_one_for_one act still level v n) e in
    record { long = h.long ∙ cut_whole n c; positions = h.positions; number = h.number; budget = h.budget; merged = h.merged }

-- where a list is cut is no matter
pub recut : (act : Action) (v : View) (n : ℕ) (c : Cut) (xs ys : List Item) → xs ++ ys ≡ whole c → backward_trials act v n (record c { front = xs; rest = ys }) ≡ backward_trials act v n c
recut act v zero c xs ys e =
    let read : List Item → Reading = λ zs. Ok (with_events [] (record (view_at v c) { items = zs })) in
    ap read e
recut act v (suc n) c xs ys e =
    let cut : List Item → Cut = λ zs. record c { front = take n zs; rest = drop n zs } in
    ap (λ (zs : List Item). after_outcome (act (cut zs)) (backward_trials act v n) v (cut zs)) e

-- ---- a fragment

-- a rule is tried in a text, from a cut on, at the indices of its fragment and of what stands before it
abbrev pub IsTriedBack : Action → View → Reads
IsTriedBack act v o s c r = IsReady s.max_ops s.lig_id × (backward_trials act v (length o.before + length (whole c)) (framed_cut o s c) ≡ Ok r)

-- it is tried at the indices before the fragment
abbrev pub IsTriedBefore : Action → View → Reads
IsTriedBefore act v o s c r = IsReady s.max_ops s.lig_id × (backward_trials act v (length o.before) (framed_cut o s c) ≡ Ok r)

abbrev WalksBack : Action → BufferClusterLevel → View → View → Outside → Inside → Cut → Read → Read → Type 0
WalksBack act level v u o s c r e = Walked AnyPositions (IsTriedBefore act v) level u o s c r e

-- the same of the fragment, cut elsewhere
elsewhere : (act : Action) (level : BufferClusterLevel) (v u : View) (o : Outside) (s : Inside) (c : Cut) (n : ℕ) (r e : Read) → WalksBack act level v u o s (cut_at_index n c) r e → WalksBack act level v u o s c r e
elsewhere act level v u o s c n r e (inl binds) = inl (subst (λ (k : ℕ). BindOutside (length o.before) k (length o.after) (without_concats (r.events level))) (cut_whole n c) binds)
elsewhere act level v u o s c n r e (inr w) = inr (record {
  end = w.end;
  inside = w.inside;
  last = w.last;
  frames = w.frames;
  extended = record { up = w.extended.up; names = w.extended.names };
  some = w.some;
  placed = tt;
  view = w.view;
  leads = w.leads;
  view_is = w.view_is;
  events = w.events;
  bounded = subst (AreBounded (without_concats (e.events level))) (cut_whole n c) w.bounded;
  counted = ap (count_after (without_concats (e.events level))) (sym (cut_whole n c)) ∙ w.counted;
})

abbrev IsWalkable : Action → BufferClusterLevel → View → View → ℕ → Type 0
IsWalkable act level v u n = (o : Outside) (s : Inside) (c : Cut) (r e : Read) → IsFramed o s c → 0 < length (whole c) → n ≤ length (whole c) → IsReady s.max_ops s.lig_id → IsReady c.max_ops c.lig_id
    → backward_trials act v (length o.before + n) (framed_cut o s c) ≡ Ok r → backward_trials act u n c ≡ Ok e → WalksBack act level v u o s c r e

acted_walks : (act : Action) (level : BufferClusterLevel) (v u : View) (n : ℕ) → IsWalkable act level v u n → (o : Outside) (s : Inside) (c w d : Cut) (es fs : List Event) (r e : Read) → IsMadeInside AnyPositions o s c w d es fs → IsOneForOne (framed_cut o s c) w es → IsOneForOne c d fs → n ≤ length (whole c)
    → IsReady s.max_ops s.lig_id → IsReady c.max_ops c.lig_id → backward_trials act v (length o.before + n) w ≡ Ok r → backward_trials act u n d ≡ Ok e
    → WalksBack act level v u o s c (then_read (with_events es (view_at v w)) r) (then_read (with_events fs (view_at u d)) e)
acted_walks act level v u n walk o s c w d es fs r e m theirs ours le rs rc read alone =
    let budget : m.inside.max_ops ≡ s.max_ops = ap (λ (z : Cut). z.max_ops) (sym m.cut_is) ∙ theirs.budget in
    let number : m.inside.lig_id ≡ s.lig_id = ap (λ (z : Cut). z.lig_id) (sym m.cut_is) ∙ theirs.number in
    inside_walked AnyPositions (IsTriedBefore act v) level v u o s c w d es fs r e m (ours.counted (length (whole c)) ∙ sym ours.long)
    (walk o m.inside d r e m.frames m.some (omega (arith, le, ours.long)) (ap is_left budget ∙ rs.0, omega (arith, rs.1, number)) (ap is_left ours.budget ∙ rc.0, omega (arith, rc.1, ours.number))
    (ap (λ (z : Cut). backward_trials act v (length o.before + n) z) (sym m.cut_is) ∙ read) alone)

-- where both pass, nothing is made
still_made : (o : Outside) (s : Inside) (c : Cut) (es fs : List Event) → IsFramed o s c → 0 < length c.rest → without_concats es ≡ [] → without_concats fs ≡ [] → IsMadeInside AnyPositions o s c (framed_cut o s c) c es fs
still_made o s c es fs f some theirs ours = record {
  inside = s;
  cut_is = refl;
  frames = f;
  extended = same_extended s c c refl;
  some = omega (arith, some, length-append c.front c.rest);
  reach = λ there. omega (arith, some, length-append c.front c.rest);
  placed = tt;
  events = theirs ∙ ap (map (shifted_event (length o.before))) (sym ours);
  bounded = subst (λ (gs : List Event). AreBounded gs (length (whole c))) (sym ours) tt;
}

outcomes_walk : (act : Action) (level : BufferClusterLevel) (v u : View) (n : ℕ) → IsWalkable act level v u n → (o : Outside) (s : Inside) (c : Cut) (q p : Outcome) → IsFramed o s c → 0 < length c.rest → n ≤ length (whole c) → IsReady s.max_ops s.lig_id → IsReady c.max_ops c.lig_id
    → IsBeside AnyPositions o s c q p → ReplacesOneForOne (framed_cut o s c) q → ReplacesOneForOne c p → (r e : Read) → after_outcome q (backward_trials act v (length o.before + n)) v (framed_cut o s c) ≡ Ok r → after_outcome p (backward_trials act u n) u c ≡ Ok e → WalksBack act level v u o s c r e
outcomes_walk act level v u n walk o s c (Passes es) (Passes fs) f some le rs rc h theirs ours r e read alone =
    let w : Cut = framed_cut o s c in
    let a = then_parts (with_events es (view_at v w)) (backward_trials act v (length o.before + n) w) r read in
    let b = then_parts (with_events fs (view_at u c)) (backward_trials act u n c) e alone in
    subst (λ (x : Read). WalksBack act level v u o s c x e) a.both
    (subst (λ (y : Read). WalksBack act level v u o s c (then_read (with_events es (view_at v w)) a.rest) y) b.both
    (acted_walks act level v u n walk o s c w c es fs a.rest b.rest (still_made o s c es fs f some theirs ours) (passed_one_for_one w es theirs) (passed_one_for_one c fs ours) le rs rc a.rest_is b.rest_is))
outcomes_walk act level v u n walk o s c (Passes es) (Acts d fs) f some le rs rc h theirs ours r e read alone = absurd h
outcomes_walk act level v u n walk o s c (Passes es) (Refuses y) f some le rs rc h theirs ours r e read alone = cc
outcomes_walk act level v u n walk o s c (Acts w es) (Passes fs) f some le rs rc h theirs ours r e read alone =
    let a = then_parts (with_events es (view_at v w)) (backward_trials act v (length o.before + n) w) r read in
    subst (λ (x : Read). WalksBack act level v u o s c x e) a.both (inl (bound_first level o c es (view_at v w) a.rest h))
outcomes_walk act level v u n walk o s c (Acts w es) (Refuses y) f some le rs rc h theirs ours r e read alone = cc
outcomes_walk act level v u n walk o s c (Refuses x) p f some le rs rc h theirs ours r e read alone = cc
outcomes_walk act level v u n walk o s c (Acts w es) (Acts d fs) f some le rs rc h theirs ours r e read alone =
    let a = then_parts (with_events es (view_at v w)) (backward_trials act v (length o.before + n) w) r read in
    let b = then_parts (with_events fs (view_at u d)) (backward_trials act u n d) e alone in
    subst (λ (x : Read). WalksBack act level v u o s c x e) a.both
    (subst (λ (y : Read). WalksBack act level v u o s c (then_read (with_events es (view_at v w)) a.rest) y) b.both
    (elim (h (ap is_left theirs.budget ∙ rs.0, omega (arith, theirs.merged, rs.1)) (ap is_left ours.budget ∙ rc.0, omega (arith, ours.merged, rc.1))) [
      | inl binds ↦ inl (bound_first level o c es (view_at v w) a.rest binds)
      | inr made ↦ acted_walks act level v u n walk o s c w d es fs a.rest b.rest made theirs ours le rs rc a.rest_is b.rest_is
    ]))

walks_from : (act : Action) → IsLocal AnyPositions act → ActsOneForOne act → (level : BufferClusterLevel) (v u : View) (n : ℕ) → IsWalkable act level v u n
walks_from act local still level v u zero o s c r e f there le rs rc read alone =
    let none : length o.before + 0 ≡ length o.before = omega arith in
    subst (λ (y : Read). WalksBack act level v u o s c r y) (read_same (with_events [] (view_at u c)) e alone) (inr (record {
      end = c;
      inside = s;
      last = r;
      frames = f;
      extended = same_extended s c c refl;
      some = there;
      placed = tt;
      view = refl;
      leads = (rs, subst (λ (m : ℕ). backward_trials act v m (framed_cut o s c) ≡ Ok r) none read);
      view_is = refl;
      events = refl;
      bounded = tt;
      counted = refl;
    }))
walks_from act local still level v u (suc n) o s c r e f there le rs rc read alone =
    let d : Cut = cut_at_index n c in
    let w : Cut = framed_cut o s d in
    let at : length o.before + suc n ≡ suc (length o.before + n) = omega arith in
    let low : n ≤ length (whole c) = omega (arith, le) in
    let some : 0 < length d.rest = omega (arith, le, length-drop n (whole c)) in
    let frames = cut_frames o s n c f in
    let here : backward_trials act v (suc (length o.before + n)) (framed_cut o s c) ≡ Ok r = subst (λ (m : ℕ). backward_trials act v m (framed_cut o s c) ≡ Ok r) at read in
    let cut : after_outcome (act w) (backward_trials act v (length o.before + n)) v w ≡ Ok r = ap (λ (z : Cut). after_outcome (act z) (backward_trials act v (length o.before + n)) v z) (sym (cut_framed o s n c low)) ∙ here in
    elsewhere act level v u o s c n r e
    (outcomes_walk act level v u n (walks_from act local still level v u n) o s d (act w) (act d) frames some (omega (arith, low, cut_whole n c)) rs rc (local o s d frames tt some) (still w) (still d) r e cut alone)

-- a local rule that acts one for one, tried over a fragment from the right, in the text and alone, does alone what it does in the text, or
-- binds the fragment to what is outside
pub walks_back : (act : Action) → IsLocal AnyPositions act → ActsOneForOne act → (level : BufferClusterLevel) (v u : View) (o : Outside) (s : Inside) (c : Cut) (r e : Read) → IsFramed o s c → 0 < length (whole c) → IsTriedBack act v o s c r → IsReady c.max_ops c.lig_id
    → backward_trials act u (length (whole c)) c ≡ Ok e → Walked AnyPositions (IsTriedBefore act v) level u o s c r e
walks_back act local still level v u o s c r e f some t ready alone = walks_from act local still level v u (length (whole c)) o s c r e f some (omega arith) t.0 ready t.1 alone
