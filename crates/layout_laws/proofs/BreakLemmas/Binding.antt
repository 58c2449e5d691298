-- Where events bind a fragment of a text to what is outside, it is unsafe to break there.
use Rattle.std.proofs.Common.{ℕ, ◌≡◌, ◌+◌, ◌⊎◌, inl, inr, Bool, List, [], ◌∷◌, ◌++◌, Some, length, map, arith, refl, ap, sym, subst, ◌∙◌, append_assoc}
use Rattle.std.proofs.lemmas.List.{length-append}
use Rattle.buffer_glyphs.specs.declared.level.BufferClusterLevel.{BufferClusterLevel}
use Rattle.buffer_glyphs.specs.Levels.{InList, InOutput, Manner, Unites, Marks, Keeps, manner, IsUniting}
use Rattle.buffer_glyphs.specs.Origins.{Origin, Asks}
use Rattle.buffer_glyphs.specs.Events.{Event, Merge, MergeGrapheme, Replace, Circle, Delete, Move, Arrange, Sort, Reverse, Break, Concat, Tatweel, StrictBreak, Spread, Reset, origins_after_event, origins_after}
use Rattle.buffer_glyphs.specs.Lemmas.Numbers.{Has}
use Rattle.buffer_glyphs.specs.Lemmas.EventParts.{origins_keep_numbers}
use Rattle.buffer_glyphs.specs.Lemmas.Origins.{origins_after_both}
use Rattle.buffer_glyphs.specs.Rewriting.{shifted_event}
use Rattle.buffer_parts.specs.Orderly.{IsOrderly}
use Rattle.buffer_parts.specs.Counts.{count_after, count_after_event}
use Rattle.buffer_parts.specs.Lemmas.Counts.{counts_follow}
use Rattle.buffer_parts.specs.Lemmas.Orderly.{orderly_in_turn}
use Rattle.buffer_core.specs.Readings.{Read, BufferState, state_after}
use Rattle.buffer_parts.specs.Breaks.Unsafe.{IsUnsafeAt, HaveSafeBreaks}
use Rattle.buffer_parts.specs.Breaks.Lossless.{IsLossless, AreLossless}
use Rattle.buffer_parts.specs.Breaks.Bound.{merged_span, requested_span}
use Rattle.buffer_parts.specs.Breaks.Concat.{SameButConcat, without_concats}
use Rattle.buffer_parts.specs.Breaks.Sides.{AreBounded, AreCutAt}
use Rattle.buffer_parts.proofs.BreakLemmas.Bound.{bound_is_unsafe}
use Rattle.buffer_parts.proofs.BreakLemmas.Crossing.{ranges_cross}
use Rattle.buffer_parts.proofs.BreakLemmas.Events.{unsafe_stays, safe_breaks_stay, lossless_in_turn}
use Rattle.buffer_parts.proofs.BreakLemmas.Divided.{both_change_alone, both_change_backward}
use Rattle.buffer_parts.proofs.BreakLemmas.Concat.{same_numbers, same_any, concat_is_apart}
use Rattle.buffer_parts.proofs.BreakLemmas.Concats.{same_trans, concats_are_apart}
use Rattle.layout_laws.specs.Breaks.Binding.{BindsAt, BindsOutside, BindOutside}
use Rattle.buffer_stages.specs.Lemmas.Shifts.{shift_none as all_shifted_none}

-- ---- one event

merged_at : (m : Manner) (from to : ℕ) → IsUniting m → merged_span m from to ≡ Some (record { from = from; to = to })
merged_at Unites from to h = refl
merged_at Marks from to h = absurd h
merged_at Keeps from to h = absurd h

event_binds : (asks : Asks) (level : BufferClusterLevel) (e : Event) (os qs : List Origin) (c : ℕ) → HaveSafeBreaks asks level (os ++ qs) → IsLossless e (length (os ++ qs)) → AreCutAt c os qs → BindsAt (length os) (length (os ++ qs)) e → IsUnsafeAt c (origins_after_event asks level (os ++ qs) e)
event_binds asks level (Break from to) os qs c s l cut b = bound_is_unsafe asks level (Break from to) (record { from = from; to = to }) (os ++ qs) c s.requested s.ordered l refl (ranges_cross c from to os qs cut b.0 b.1 b.2)
event_binds asks level (StrictBreak from to) os qs c s l cut b = bound_is_unsafe asks level (StrictBreak from to) (record { from = from; to = to }) (os ++ qs) c s.requested s.ordered l (ap (λ (t : Bool). requested_span t from to) s.requested) (ranges_cross c from to os qs cut b.0 b.1 b.2)
event_binds asks level (Merge InList from to) os qs c s l cut b = bound_is_unsafe asks level (Merge InList from to) (record { from = from; to = to }) (os ++ qs) c s.requested s.ordered l (merged_at (manner InList level) from to s.monotone) (ranges_cross c from to os qs cut b.0 b.1 b.2)
event_binds asks level (Merge InOutput from to) os qs c s l cut b = absurd b
event_binds asks level (MergeGrapheme from to) os qs c s l cut b = absurd b
event_binds asks level (Replace at taken given) os qs c s l cut b = absurd b
event_binds asks level (Circle after beside like) os qs c s l cut b = absurd b
event_binds asks level (Delete at) os qs c s l cut b = absurd b
event_binds asks level (Move how from order) os qs c s l cut b = absurd b
event_binds asks level (Arrange from order) os qs c s l cut b = absurd b
event_binds asks level (Sort from order) os qs c s l cut b = absurd b
event_binds asks level Reverse os qs c s l cut b = absurd b
event_binds asks level (Concat from to) os qs c s l cut b = absurd b
event_binds asks level (Tatweel from to) os qs c s l cut b = absurd b
event_binds asks level Spread os qs c s l cut b = absurd b
event_binds asks level Reset os qs c s l cut b = absurd b

-- nothing is bound before the first item, nor after the last
pub none_before : (n : ℕ) (e : Event) → BindsAt 0 n e → ⊥
none_before n (Break from to) b = omega (arith, b.0)
none_before n (StrictBreak from to) b = omega (arith, b.0)
none_before n (Merge InList from to) b = omega (arith, b.0)
none_before n (Merge InOutput from to) b = b
none_before n (MergeGrapheme from to) b = b
none_before n (Replace at taken given) b = b
none_before n (Circle after beside like) b = b
none_before n (Delete at) b = b
none_before n (Move how from order) b = b
none_before n (Arrange from order) b = b
none_before n (Sort from order) b = b
none_before n Reverse b = b
none_before n (Concat from to) b = b
none_before n (Tatweel from to) b = b
none_before n Spread b = b
none_before n Reset b = b

pub none_after : (n m : ℕ) (e : Event) → n ≡ m → BindsAt n m e → ⊥
none_after n m (Break from to) s b = omega (arith, s, b.1, b.2)
none_after n m (StrictBreak from to) s b = omega (arith, s, b.1, b.2)
none_after n m (Merge InList from to) s b = omega (arith, s, b.1, b.2)
none_after n m (Merge InOutput from to) s b = b
none_after n m (MergeGrapheme from to) s b = b
none_after n m (Replace at taken given) s b = b
none_after n m (Circle after beside like) s b = b
none_after n m (Delete at) s b = b
none_after n m (Move how from order) s b = b
none_after n m (Arrange from order) s b = b
none_after n m (Sort from order) s b = b
none_after n m Reverse s b = b
none_after n m (Concat from to) s b = b
none_after n m (Tatweel from to) s b = b
none_after n m Spread s b = b
none_after n m Reset s b = b

-- ---- the event that binds, among others

pub record AreSplit (left n right : ℕ) (es : List Event) : Type 0 where
  pub inner : List Event
  pub binding : Event
  pub more : List Event
  pub events : es ≡ map (shifted_event left) inner ++ binding ∷ more
  pub bounded : AreBounded inner n
  pub binds : BindsOutside left (count_after inner n) right binding

pub split_at_binding : (left n right : ℕ) (es : List Event) → BindOutside left n right es → AreSplit left n right es
split_at_binding left n right [] h = absurd h
split_at_binding left n right (e ∷ es) (inl here) = record { inner = []; binding = e; more = es; events = refl; bounded = tt; binds = here }
split_at_binding left n right (e ∷ es) (inr later) =
    let rest = split_at_binding left (count_after_event n later.0) right es later.3 in
    record {
      inner = later.0 ∷ rest.inner;
      binding = rest.binding;
      more = rest.more;
      events = ap (λ (x : Event). x ∷ es) later.1 ∙ ap (λ (xs : List Event). shifted_event left later.0 ∷ xs) rest.events;
      bounded = (later.2, rest.bounded);
      binds = rest.binds;
    }

-- ---- lists of origins

pub kept_cut : (asks : Asks) (level : BufferClusterLevel) (es fs : List Event) (os qs : List Origin) (c : ℕ) → AreCutAt c os qs → AreCutAt c (origins_after asks level es os) (origins_after asks level fs qs)
kept_cut asks level es fs os qs c (inl both) = inl (λ n h. both.0 n (origins_keep_numbers asks level es os n h), λ n h. both.1 n (origins_keep_numbers asks level fs qs n h))
kept_cut asks level es fs os qs c (inr both) = inr (λ n h. both.0 n (origins_keep_numbers asks level es os n h), λ n h. both.1 n (origins_keep_numbers asks level fs qs n h))

-- after events it is unsafe to break, or there are two lists still that the next event binds
abbrev pub IsBound : Asks → BufferClusterLevel → ℕ → Event → List Origin → Type 0
IsBound asks level c e ws = IsUnsafeAt c ws ⊎ ((os : List Origin) × (qs : List Origin) × (ws ≡ os ++ qs) × AreCutAt c os qs × BindsAt (length os) (length (os ++ qs)) e)

pub bound_after_all : (asks : Asks) (level : BufferClusterLevel) (ps fs : List Event) (e : Event) (ws : List Origin) (c : ℕ) → HaveSafeBreaks asks level ws → IsOrderly asks level (ps ++ e ∷ fs) ws → AreLossless (ps ++ e ∷ fs) (length ws)
    → IsBound asks level c e (origins_after asks level ps ws) → IsUnsafeAt c (origins_after asks level (ps ++ e ∷ fs) ws)
bound_after_all asks level ps fs e ws c s h l bound =
    let mid = origins_after asks level ps ws in
    let orders = (orderly_in_turn asks level ps (e ∷ fs) ws).0 h in
    let flags = (lossless_in_turn ps (e ∷ fs) (length ws)).0 l in
    let safe = safe_breaks_stay asks level ps ws s orders.0 in
    let kept : AreLossless (e ∷ fs) (length mid) = subst (AreLossless (e ∷ fs)) (sym (counts_follow asks level ps ws)) flags.1 in
    let next = origins_after_event asks level mid e in
    let then_safe = safe_breaks_stay asks level (e ∷ []) mid safe (orders.1.0, tt) in
    let then_kept : AreLossless fs (length next) = subst (AreLossless fs) (sym (counts_follow asks level (e ∷ []) mid)) kept.1 in
    subst (IsUnsafeAt c) (sym (origins_after_both asks level ps (e ∷ fs) ws)) (elim bound [
      | inl unsafe ↦ unsafe_stays asks level (e ∷ fs) mid c safe orders.1 kept unsafe
      | inr two ↦
          let now : IsUnsafeAt c (origins_after_event asks level (two.0 ++ two.1) e) = event_binds asks level e two.0 two.1 c (subst (HaveSafeBreaks asks level) two.2 safe) (subst (λ (xs : List Origin). IsLossless e (length xs)) two.2 kept.0) two.3 two.4 in
          unsafe_stays asks level fs next c then_safe orders.1.1 then_kept (subst (λ (xs : List Origin). IsUnsafeAt c (origins_after_event asks level xs e)) (sym two.2) now)
    ])

-- events of the first of two lists, after some of the second, bind it to the second
pub first_binds : (asks : Asks) (level : BufferClusterLevel) (es fs : List Event) (os qs : List Origin) (c : ℕ) → HaveSafeBreaks asks level (os ++ qs) → IsOrderly asks level (map (shifted_event (length os)) fs ++ es) (os ++ qs) → AreLossless (map (shifted_event (length os)) fs ++ es) (length (os ++ qs))
    → AreCutAt c os qs → AreBounded fs (length qs) → BindOutside 0 (length os) (count_after fs (length qs)) es → IsUnsafeAt c (origins_after asks level (map (shifted_event (length os)) fs ++ es) (os ++ qs))
first_binds asks level es fs os qs c s h l cut bounded binds =
    let right = count_after fs (length qs) in
    let gs = map (shifted_event (length os)) fs in
    let k = split_at_binding 0 (length os) right es binds in
    let ps = gs ++ k.inner in
    let is : gs ++ es ≡ ps ++ k.binding ∷ k.more = ap (λ (xs : List Event). gs ++ xs) (k.events ∙ ap (λ (xs : List Event). xs ++ k.binding ∷ k.more) (all_shifted_none k.inner)) ∙ sym (append_assoc gs k.inner (k.binding ∷ k.more)) in
    let h1 : IsOrderly asks level (ps ++ k.binding ∷ k.more) (os ++ qs) = subst (λ (xs : List Event). IsOrderly asks level xs (os ++ qs)) is h in
    let l1 : AreLossless (ps ++ k.binding ∷ k.more) (length (os ++ qs)) = subst (λ (xs : List Event). AreLossless xs (length (os ++ qs))) is l in
    let first = origins_after asks level k.inner os in
    let second = origins_after asks level fs qs in
    let long : length first ≡ count_after k.inner (length os) = counts_follow asks level k.inner os in
    let more : length second ≡ right = counts_follow asks level fs qs in
    let both = length-append first second in
    subst (λ (xs : List Event). IsUnsafeAt c (origins_after asks level xs (os ++ qs))) (sym is)
    (bound_after_all asks level ps k.more k.binding (os ++ qs) c s h1 l1
    (elim (both_change_backward asks level k.inner fs os qs c s ((orderly_in_turn asks level ps (k.binding ∷ k.more) (os ++ qs)).0 h1).0 ((lossless_in_turn ps (k.binding ∷ k.more) (length (os ++ qs))).0 l1).0 k.bounded bounded cut) [
      | inl unsafe ↦ inl unsafe
      | inr alone ↦ inr (first, second, alone, kept_cut asks level k.inner fs os qs c cut, at_end (length first) (length (first ++ second)) (count_after k.inner (length os)) right k.binding long (both ∙ ap (λ (n : ℕ). length first + n) more) k.binds)
    ]))
  where
    at_end : (n all m right : ℕ) (e : Event) → n ≡ m → all ≡ n + right → BindsOutside 0 m right e → BindsAt n all e
    at_end n all m right e x y (inl b) = absurd (none_before (0 + m + right) e b)
    at_end n all m right e x y (inr b) =
        let at : 0 + m ≡ n = omega (arith, x) in
        let long : 0 + m + right ≡ all = omega (arith, x, y) in
        subst (λ (i : ℕ). BindsAt n i e) long (subst (λ (i : ℕ). BindsAt i (0 + m + right) e) at b)

-- events of the second of two lists, after some of the first, bind it to the first
pub second_binds : (asks : Asks) (level : BufferClusterLevel) (es fs : List Event) (os qs : List Origin) (c : ℕ) → HaveSafeBreaks asks level (os ++ qs) → IsOrderly asks level (es ++ fs) (os ++ qs) → AreLossless (es ++ fs) (length (os ++ qs)) → AreCutAt c os qs
    → AreBounded es (length os) → BindOutside (count_after es (length os)) (length qs) 0 fs → IsUnsafeAt c (origins_after asks level (es ++ fs) (os ++ qs))
second_binds asks level es fs os qs c s h l cut bounded binds =
    let left = count_after es (length os) in
    let k = split_at_binding left (length qs) 0 fs binds in
    let ps = es ++ map (shifted_event left) k.inner in
    let is : es ++ fs ≡ ps ++ k.binding ∷ k.more = ap (λ (xs : List Event). es ++ xs) k.events ∙ sym (append_assoc es (map (shifted_event left) k.inner) (k.binding ∷ k.more)) in
    let h1 : IsOrderly asks level (ps ++ k.binding ∷ k.more) (os ++ qs) = subst (λ (xs : List Event). IsOrderly asks level xs (os ++ qs)) is h in
    let l1 : AreLossless (ps ++ k.binding ∷ k.more) (length (os ++ qs)) = subst (λ (xs : List Event). AreLossless xs (length (os ++ qs))) is l in
    let first = origins_after asks level es os in
    let second = origins_after asks level k.inner qs in
    let long : length first ≡ left = counts_follow asks level es os in
    let more : length second ≡ count_after k.inner (length qs) = counts_follow asks level k.inner qs in
    let both = length-append first second in
    subst (λ (xs : List Event). IsUnsafeAt c (origins_after asks level xs (os ++ qs))) (sym is)
    (bound_after_all asks level ps k.more k.binding (os ++ qs) c s h1 l1
    (elim (both_change_alone asks level es k.inner os qs c s ((orderly_in_turn asks level ps (k.binding ∷ k.more) (os ++ qs)).0 h1).0 ((lossless_in_turn ps (k.binding ∷ k.more) (length (os ++ qs))).0 l1).0 bounded k.bounded cut) [
      | inl unsafe ↦ inl unsafe
      | inr alone ↦ inr (first, second, alone, kept_cut asks level es k.inner os qs c cut, at_start (length first) (length (first ++ second)) left (count_after k.inner (length qs)) k.binding long (both ∙ ap (λ (n : ℕ). length first + n) more) k.binds)
    ]))
  where
    at_start : (n all left m : ℕ) (e : Event) → n ≡ left → all ≡ n + m → BindsOutside left m 0 e → BindsAt n all e
    at_start n all left m e x y (inl b) =
        let long : left + m + 0 ≡ all = omega (arith, x, y) in
        subst (λ (i : ℕ). BindsAt n i e) long (subst (λ (i : ℕ). BindsAt i (left + m + 0) e) (sym x) b)
    at_start n all left m e x y (inr b) = absurd (none_after (left + m) (left + m + 0) e (omega arith) b)

-- ---- states

-- what makes it unsafe to break a text without UNSAFE_TO_CONCAT makes it so with it
pub unsafe_with_concats : (whole : BufferState) (r : Read) (line : List Origin) (c : ℕ) → SameButConcat whole.origins line → IsUnsafeAt c (origins_after whole.asks whole.level (without_concats (r.events whole.level)) line) → IsUnsafeAt c (state_after r whole).origins
unsafe_with_concats whole r line c same unsafe =
    let asks = whole.asks in
    let level = whole.level in
    let es = r.events level in
    let old = origins_after asks level es whole.origins in
    let new = origins_after asks level (without_concats es) line in
    let alike : SameButConcat old new = same_trans old (origins_after asks level es line) new (concat_is_apart asks asks.concat level es whole.origins line same) (concats_are_apart asks level es line) in
    λ there. same_any c old new alike ∙ unsafe (subst (λ (ns : List ℕ). Has ns c) (same_numbers old new alike) there)
