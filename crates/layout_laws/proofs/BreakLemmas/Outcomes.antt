-- Outcomes of rules in a text and in its fragment.
use Rattle.std.proofs.Common.{ℕ, ◌≡◌, ◌≤◌, ◌+◌, inl, inr, Bool, true, false, nat_le, if◌then◌else◌, List, [], ◌∷◌, ◌++◌, length, map, arith, refl, ap, sym, subst, ◌∙◌}
use Rattle.buffer_glyphs.specs.declared.cause.ShapeCause.{ShapeCause}
use Rattle.buffer_glyphs.specs.declared.cause.ShapeCause.TheVariants.{TooLong}
use Rattle.buffer_glyphs.specs.Items.{Item}
use Rattle.buffer_glyphs.specs.Parts.{first_of}
use Rattle.buffer_glyphs.specs.Events.{Event, Merge, MergeGrapheme, Replace, Circle, Delete, Move, Arrange, Sort, Reverse, Break, Concat, Tatweel, StrictBreak, Spread, Reset}
use Rattle.buffer_glyphs.specs.Rewriting.{shifted_event}
use Rattle.buffer_stages.specs.Actions.{Cut, whole, Outcome, Passes, Acts, Refuses, Action, within_limit, attempt_around, later, or_else, first_rule, at_first}
use Rattle.buffer_parts.specs.Breaks.Concat.{without_concats}
use Rattle.buffer_parts.specs.Breaks.Divisible.{merges}
use Rattle.buffer_parts.specs.Breaks.Sides.{AreBounded}
use Rattle.buffer_parts.specs.Breaks.Fragments.{with_ligature_renamed}
use Rattle.layout_laws.specs.Breaks.Frames.{Outside, Inside, framed_cut, IsFramed}
use Rattle.layout_laws.specs.Breaks.Binding.{BindOutside}
use Rattle.layout_laws.specs.Breaks.Local.{Placing, Binds, IsMadeInside, IsBeside, IsLocal, IsLocalOrIdle}
use Rattle.layout_laws.proofs.BreakLemmas.Frames.{at_item}
use Rattle.buffer_parts.proofs.BreakLemmas.Division.{without_both}

-- ---- events but for those that set UNSAFE_TO_CONCAT

pub none_more : (es fs : List Event) → without_concats es ≡ [] → without_concats (es ++ fs) ≡ without_concats fs
none_more es fs e = without_both es fs ∙ ap (λ (xs : List Event). xs ++ without_concats fs) e

-- ---- outcomes

pub refused_beside : (P : Placing) (o : Outside) (s : Inside) (c : Cut) (p : Outcome) (cause : ShapeCause) → IsBeside P o s c p (Refuses cause)
refused_beside P o s c (Passes es) cause = tt
refused_beside P o s c (Acts w es) cause = tt
refused_beside P o s c (Refuses x) cause = tt

pub limited_beside : (P : Placing) (o : Outside) (s : Inside) (c : Cut) (n : ℕ) (a b : Cut) (p q : Outcome) → IsBeside P o s c p q → IsBeside P o s c (within_limit n a p) (within_limit n b q)
limited_beside P o s c n a b p q h = by_tests (nat_le (length a.front + n) a.max_len) (nat_le (length b.front + n) b.max_len)
  where
    by_tests : (t u : Bool) → IsBeside P o s c (if t then p else Refuses TooLong) (if u then q else Refuses TooLong)
    by_tests true true = h
    by_tests true false = refused_beside P o s c p TooLong
    by_tests false u = tt

-- events that only set UNSAFE_TO_CONCAT before others
pub made_later : (P : Placing) (o : Outside) (s : Inside) (c w d : Cut) (es fs gs hs : List Event) → without_concats es ≡ [] → without_concats fs ≡ [] → IsMadeInside P o s c w d gs hs → IsMadeInside P o s c w d (es ++ gs) (fs ++ hs)
made_later P o s c w d es fs gs hs e f m = record {
  inside = m.inside;
  cut_is = m.cut_is;
  frames = m.frames;
  extended = m.extended;
  some = m.some;
  reach = m.reach;
  placed = m.placed;
  events = none_more es gs e ∙ m.events ∙ ap (map (shifted_event (length o.before))) (sym (none_more fs hs f));
  bounded = subst (λ (xs : List Event). AreBounded xs (length (whole c))) (sym (none_more fs hs f)) m.bounded;
}

pub later_beside : (P : Placing) (o : Outside) (s : Inside) (c : Cut) (es fs : List Event) (p q : Outcome) → without_concats es ≡ [] → without_concats fs ≡ [] → IsBeside P o s c p q → IsBeside P o s c (later es p) (later fs q)
later_beside P o s c es fs (Passes gs) (Passes hs) e f h = (none_more es gs e ∙ h.0, none_more fs hs f ∙ h.1)
later_beside P o s c es fs (Passes gs) (Acts d hs) e f h = absurd h
later_beside P o s c es fs (Passes gs) (Refuses y) e f h = tt
later_beside P o s c es fs (Acts w gs) (Passes hs) e f h = subst (λ (xs : List Event). BindOutside (length o.before) (length (whole c)) (length o.after) xs) (sym (none_more es gs e)) h
later_beside P o s c es fs (Acts w gs) (Acts d hs) e f h = λ a b.
    elim (h (a.0, subst (λ (xs : List Event). s.lig_id + merges xs ≤ 7) (none_more es gs e) a.1) (b.0, subst (λ (xs : List Event). c.lig_id + merges xs ≤ 7) (none_more fs hs f) b.1)) [
      | inl binds ↦ inl (subst (λ (xs : List Event). BindOutside (length o.before) (length (whole c)) (length o.after) xs) (sym (none_more es gs e)) binds)
      | inr made ↦ inr (made_later P o s c w d es fs gs hs e f made)
    ]
later_beside P o s c es fs (Acts w gs) (Refuses y) e f h = tt
later_beside P o s c es fs (Refuses x) q e f h = tt

-- where the text binds the fragment, that is all
pub binds_beside : (P : Placing) (o : Outside) (s : Inside) (c w : Cut) (es : List Event) (q : Outcome) → Binds o c es → IsBeside P o s c (Acts w es) q
binds_beside P o s c w es (Passes fs) h = h
binds_beside P o s c w es (Acts d fs) h = λ a b. inl h
binds_beside P o s c w es (Refuses y) h = tt

pub or_else_beside : (P : Placing) (o : Outside) (s : Inside) (c : Cut) (p q second third : Outcome) → IsBeside P o s c p q → IsBeside P o s c second third → IsBeside P o s c (or_else p second) (or_else q third)
or_else_beside P o s c (Passes es) (Passes fs) second third h k = later_beside P o s c es fs second third h.0 h.1 k
or_else_beside P o s c (Passes es) (Acts d fs) second third h k = absurd h
or_else_beside P o s c (Passes es) (Refuses y) second third h k = refused_beside P o s c (later es second) y
or_else_beside P o s c (Acts w es) (Passes fs) second third h k = binds_beside P o s c w es (later fs third) h
or_else_beside P o s c (Acts w es) (Acts d fs) second third h k = h
or_else_beside P o s c (Acts w es) (Refuses y) second third h k = tt
or_else_beside P o s c (Refuses x) q second third h k = tt

-- ---- rules

pub passes_local : (P : Placing) → IsLocal P (λ c. Passes [])
passes_local P o s c f p some = (refl, refl)

-- the first of some rules at a cut, each of which does there what it does in the text
pub first_beside : {R : Type 0} (P : Placing) (act : R → Action) (rules : List R) (o : Outside) (s : Inside) (c : Cut) → ((r : R) → IsBeside P o s c (act r (framed_cut o s c)) (act r c)) → IsBeside P o s c (first_rule act rules (framed_cut o s c)) (first_rule act rules c)
first_beside P act [] o s c k = (refl, refl)
first_beside P act (r ∷ rules) o s c k = or_else_beside P o s c (act r (framed_cut o s c)) (act r c) (first_rule act rules (framed_cut o s c)) (first_rule act rules c) (k r) (first_beside P act rules o s c k)

pub first_local : {R : Type 0} (P : Placing) (act : R → Action) (rules : List R) → ((r : R) → IsLocal P (act r)) → IsLocal P (first_rule act rules)
first_local P act rules k o s c f p some = first_beside P act rules o s c (λ r. k r o s c f p some)

-- a local rule is local or idle
pub local_or_idle : (P : Placing) (act : Action) → IsLocal P act → IsLocalOrIdle P act
local_or_idle P act k o s c f p some = inl (k o s c f p some)

-- a rule by the item at the cut
abbrev pub IsLocalAt : Placing → (Item → Action) → Type 0
IsLocalAt P act = (o : Outside) (s : Inside) (c : Cut) (x : Item) (xs : List Item) → IsFramed o s (record c { rest = x ∷ xs }) → P o (record c { rest = x ∷ xs })
    → IsBeside P o s (record c { rest = x ∷ xs }) (act (with_ligature_renamed s.name x) (framed_cut o s (record c { rest = x ∷ xs }))) (act x (record c { rest = x ∷ xs }))

pub at_first_local : (P : Placing) (act : Item → Action) → IsLocalAt P act → IsLocal P (λ c. at_first act (first_of c.rest) c)
at_first_local P act k o s c f p some =
    at_item (λ (d : Cut). IsFramed o s d → P o d → IsBeside P o s d (at_first act (first_of (framed_cut o s d).rest) (framed_cut o s d)) (at_first act (first_of d.rest) d)) c some (λ x xs f p. k o s c x xs f p) f p

-- what is local at each item is local, and so in turn
pub local_from_items : (P : Placing) (act : Action) → IsLocalAt P (λ x. act) → IsLocal P act
local_from_items P act k o s c f p some = at_item (λ (d : Cut). IsFramed o s d → P o d → IsBeside P o s d (act (framed_cut o s d)) (act d)) c some (λ x xs f p. k o s c x xs f p) f p

pub items_from_local : (P : Placing) (act : Item → Action) → ((y : Item) → IsLocal P (act y)) → ((f : ℕ → ℕ) (x : Item) → act (with_ligature_renamed f x) ≡ act x) → IsLocalAt P act
items_from_local P act k same o s c x xs f p =
    let d : Cut = record c { rest = x ∷ xs } in
    subst (λ (g : Action). IsBeside P o s d (g (framed_cut o s d)) (act x d)) (sym (same s.name x)) (k x o s d f p (omega arith))
