-- A walk's steps.
use Rattle.std.proofs.Common.{ℕ, suc, ℤ, pos, ◌+ℤ◌, ◌≡◌, ◌≢◌, ◌<◌, ◌+◌, ◌-◌, ◌==◌, ◌&&◌, inl, inr, Bool, true, false, not, if◌then◌else◌, List, [], ◌∷◌, Option, Some, None, length, set, arith, refl, ap, sym, subst, ◌∙◌, add-one}
use Rattle.std.specs.Prelude.{nat_abs, int_le, int_lt}
use Rattle.std.proofs.lemmas.Int.{ints}
use Rattle.std.proofs.lemmas.Bool.Decides.{eqb_tells}
use Rattle.std.proofs.lemmas.List.{map-set, length-set, get_or-set_same, get_or-set_other, set-get_or}
use Rattle.buffer_glyphs.specs.Items.{Position, zero_position}
use Rattle.layout_offsets.specs.FollowedLinks.{with_link_cleared, Drawing, with_child_drawn, with_parent_drawn, with_link_followed}
use Rattle.layout_offsets.specs.Links.{position_at, link_target, parent, without_link}
use Rattle.layout_offsets.specs.Walks.{is_link, is_open, opened_link, closed_link, closed_links, are_shut, Apart, Trail, trail_drawn, IsWalk, IsGoing, IsComing, WalkStops, StepsToParent, HasReturn, StepsBack}
use Rattle.layout_offsets.proofs.Lemmas.Linked.{linked_there}
use Rattle.layout_offsets.proofs.Shut.{shut_at, shut_closed, open_opened, parent_shut, parent_open, unlinked_open, unlinked_shut, opened_shut, IsDrawing, hung_shut, unlinked_closed}
use Rattle.buffer_facts.proofs.Truth.{not_both as closed_not_open}

pub followed_step : (draw : Drawing) (fuel next at : ℕ) (ps : List Position) → fuel ≡ suc next → with_link_followed draw fuel at ps ≡ with_parent_drawn draw (with_link_followed draw next) at (parent at ps) ps
unfolding with_link_followed
followed_step draw fuel next at ps e = ap (λ (n : ℕ). with_link_followed draw n at ps) e

pub followed_none : (draw : Drawing) (at : ℕ) (ps : List Position) → with_link_followed draw 0 at ps ≡ ps
unfolding with_link_followed
followed_none draw at ps = refl

-- a glyph without a link is drawn already
pub linkless_followed : (draw : Drawing) (at : ℕ) (ps : List Position) → at < length ps → (position_at at ps).attach_chain ≡ pos 0 → ps ≡ with_link_followed draw (length ps) at ps
linkless_followed draw at ps lt e =
    let fuel : length ps ≡ suc (length ps - 1) = omega (arith, lt) in
    let alone : parent at ps ≡ None = ap (λ (d : ℤ). link_target (length ps) at d) e in
    let same : without_link (position_at at ps) ≡ position_at at ps = ap (λ (d : ℤ). record (position_at at ps) { attach_chain = d }) (sym e) in
    let stays : with_link_cleared at ps ≡ ps = ap (set ps at) same ∙ set-get_or ps at zero_position in
    sym (followed_step draw (length ps) (length ps - 1) at ps fuel ∙ ap (λ (o : Option ℕ). with_parent_drawn draw (with_link_followed draw (length ps - 1)) at o ps) alone ∙ stays)

-- ---- where a link leads

-- a link that leads somewhere isn't 0
linked_moves_by : (none : Bool) (o : Option ℕ) (j : ℕ) → (if none then None else o) ≡ Some j → not none ≡ true
linked_moves_by true o j e = cc
linked_moves_by false o j e = refl

pub linked_moves : (n i : ℕ) (d : ℤ) (j : ℕ) → link_target n i d ≡ Some j → is_link d ≡ true
linked_moves n i d j e = linked_moves_by (nat_abs d == 0) (if int_le (pos 0) (pos i +ℤ d) && int_lt (pos i +ℤ d) (pos n) then Some (nat_abs (pos i +ℤ d)) else None) j e

-- ---- trails

-- a glyph that is not open is none that the walk came through
pub trail_apart : (ps : List Position) (k at : ℕ) (by : ℤ) (stack : List ℕ) → Trail ps at by stack → is_open (position_at k ps) ≡ false → Apart k stack
trail_apart ps k at by [] t e = tt
trail_apart ps k at by (c ∷ rest) t e =
    (λ is. closed_not_open (is_open (position_at k ps)) (ap (λ (m : ℕ). is_open (position_at m ps)) is ∙ t.1) e, trail_apart ps k c (position_at c ps).attach_chain rest t.4 e)

pub elsewhere : (k c : ℕ) (q : Position) (ps : List Position) → c ≢ k → position_at c (set ps k q) ≡ position_at c ps
elsewhere k c q ps apart = get_or-set_other ps k c q zero_position apart

-- another glyph may change
pub trail_elsewhere : (ps : List Position) (k : ℕ) (q : Position) (at : ℕ) (by : ℤ) (stack : List ℕ) → Trail ps at by stack → Apart k stack → Trail (set ps k q) at by stack
trail_elsewhere ps k q at by [] t a = tt
trail_elsewhere ps k q at by (c ∷ rest) t a =
    let same : position_at c (set ps k q) ≡ position_at c ps = elsewhere k c q ps (λ e. a.0 (sym e)) in
    let len = length-set ps k q in
    let within = t.0 in (
      omega (arith, len, within),
      ap is_open same ∙ t.1,
      t.2,
      t.3,
      subst (λ (p : Position). Trail (set ps k q) c p.attach_chain rest) (sym same) (trail_elsewhere ps k q c (position_at c ps).attach_chain rest t.4 a.1),
    )

-- ---- along

pub going_on : (draw : Drawing) (goal : List Position) (count fuel next at : ℕ) (by : ℤ) (depth : ℕ) (ps : List Position) (j : ℕ)
    → IsGoing draw goal count fuel at by depth ps → fuel ≡ next + 1 → is_open (position_at at ps) ≡ false → parent at ps ≡ Some j
    → IsGoing draw goal count next j (position_at at ps).attach_chain (depth + 1) (set ps at (opened_link by (position_at at ps)))
going_on draw goal count fuel next at by depth ps j g e shut_here to =
    let p = position_at at ps in
    let ps' = set ps at (opened_link by p) in
    let w = g.walk in
    let long = w.long in
    let here = w.here in
    let within : at < length ps = omega (arith, long, here) in
    let there = linked_there (length ps) at p.attach_chain j to in
    let same : position_at at ps' ≡ opened_link by p = get_or-set_same ps at (opened_link by p) zero_position within in
    let apart = trail_apart ps at at by w.stack w.trail shut_here in
    let len = length-set ps at (opened_link by p) in
    let long_now : length ps' ≡ count = len ∙ long in
    let there_now : j < count = omega (arith, long, there.0) in
    let depth_is = w.depth_is in
    let trail : Trail ps' j p.attach_chain (at ∷ w.stack) = (
      omega (arith, len, within),
      ap is_open same ∙ open_opened by p g.moves,
      there.1,
      apart,
      subst (λ (q : Position). Trail ps' at q.attach_chain w.stack) (sym same) (trail_elsewhere ps at (opened_link by p) at by w.stack w.trail apart),
    ) in
    let only : (k : ℕ) → is_open (position_at k ps') ≡ true → Apart k (at ∷ w.stack) → ⊥ =
    λ k o a. w.only k (sym (ap is_open (elsewhere at k (opened_link by p) ps a.0)) ∙ o) a.1 in
    let step = followed_step draw fuel next at (closed_links ps) (e ∙ add-one next) in
    let hangs = ap (λ (o : Option ℕ). with_parent_drawn draw (with_link_followed draw next) at o (closed_links ps)) (parent_shut at ps shut_here ∙ to) in
    let beyond = ap (λ (qs : List Position). with_child_drawn draw at j (with_link_followed draw next j qs)) (opened_shut at by ps g.moves shut_here) in
    record {
      walk = record { stack = at ∷ w.stack; long = long_now; here = there_now; trail = trail; depth_is = omega (arith, depth_is); only = only };
      moves = linked_moves (length ps) at p.attach_chain j to;
      leads = ap (trail_drawn draw at w.stack) (beyond ∙ sym (step ∙ hangs)) ∙ g.leads;
    }

-- at a glyph that the walk came through
pub going_stops_open : (draw : Drawing) (goal : List Position) (count fuel at : ℕ) (by : ℤ) (depth : ℕ) (ps : List Position)
    → IsGoing draw goal count fuel at by depth ps → fuel ≢ 0 → is_open (position_at at ps) ≡ true
    → IsComing draw goal count at by depth ps
going_stops_open draw goal count fuel at by depth ps g n open_here =
    let e : fuel ≡ suc (fuel - 1) = omega (arith, n) in
    let step = followed_step draw fuel (fuel - 1) at (closed_links ps) e in
    let stops = ap (λ (o : Option ℕ). with_parent_drawn draw (with_link_followed draw (fuel - 1)) at o (closed_links ps)) (parent_open at ps open_here) in
    record { walk = g.walk; leads = sym (ap (trail_drawn draw at g.walk.stack) (step ∙ stops ∙ unlinked_open at ps open_here)) ∙ g.leads }

-- at a glyph whose link leads nowhere
pub going_stops : (draw : Drawing) (goal : List Position) (count fuel at : ℕ) (by : ℤ) (depth : ℕ) (ps : List Position)
    → IsGoing draw goal count fuel at by depth ps → fuel ≢ 0 → is_open (position_at at ps) ≡ false → parent at ps ≡ None
    → IsComing draw goal count at by depth (with_link_cleared at ps)
going_stops draw goal count fuel at by depth ps g n shut_here to =
    let p = position_at at ps in
    let w = g.walk in
    let long = w.long in
    let here = w.here in
    let within : at < length ps = omega (arith, long, here) in
    let same : position_at at (with_link_cleared at ps) ≡ without_link p = get_or-set_same ps at (without_link p) zero_position within in
    let apart = trail_apart ps at at by w.stack w.trail shut_here in
    let e : fuel ≡ suc (fuel - 1) = omega (arith, n) in
    let step = followed_step draw fuel (fuel - 1) at (closed_links ps) e in
    let stops = ap (λ (o : Option ℕ). with_parent_drawn draw (with_link_followed draw (fuel - 1)) at o (closed_links ps)) (parent_shut at ps shut_here ∙ to) in
    let only : (k : ℕ) → is_open (position_at k (with_link_cleared at ps)) ≡ true → Apart k w.stack → ⊥ =
    λ k o a. elim (eqb_tells k at) [
      | inl is ↦ closed_not_open (is_open (position_at k (with_link_cleared at ps))) o (ap (λ (m : ℕ). is_open (position_at m (with_link_cleared at ps))) is.1 ∙ ap is_open same ∙ unlinked_closed p)
      | inr other ↦ w.only k (sym (ap is_open (elsewhere at k (without_link p) ps other.1)) ∙ o) a
    ] in
    record {
      walk = record { stack = w.stack; long = length-set ps at (without_link p) ∙ long; here = here; trail = trail_elsewhere ps at (without_link p) at by w.stack w.trail apart; depth_is = w.depth_is; only = only };
      leads = ap (trail_drawn draw at w.stack) (unlinked_shut at ps shut_here) ∙ sym (ap (trail_drawn draw at w.stack) (step ∙ stops)) ∙ g.leads;
    }

-- where no more links may be followed
pub going_ends : (draw : Drawing) (goal : List Position) (count at : ℕ) (by : ℤ) (depth : ℕ) (ps : List Position)
    → IsGoing draw goal count 0 at by depth ps → IsComing draw goal count at by depth ps
going_ends draw goal count at by depth ps g = record { walk = g.walk; leads = ap (trail_drawn draw at g.walk.stack) (sym (followed_none draw at (closed_links ps))) ∙ g.leads }

-- ---- and back

-- there is a glyph that the walk came from
pub walk_came : (count at : ℕ) (by : ℤ) (depth : ℕ) (ps : List Position) → IsWalk count at by depth ps → depth ≢ 0 → HasReturn at by ps
walk_came count at by depth ps w n = by_stack w.stack w.depth_is w.trail
  where
    by_stack : (stack : List ℕ) → length stack ≡ depth → Trail ps at by stack → HasReturn at by ps
    by_stack [] e t = absurd (n (sym e))
    by_stack (c ∷ rest) e t = (c, t.0, t.2, t.1)

same_start : (c to : ℕ) (at by : ℤ) → at ≡ pos c +ℤ by → at ≡ pos to +ℤ by → to ≡ c
same_start c to at by e f = grind (arith, ints, e, f)

back_at_top : (draw : Drawing) → IsDrawing draw → (goal : List Position) (count at : ℕ) (by : ℤ) (next : ℕ) (ps qs : List Position) (c : ℕ) (rest : List ℕ) (link : ℤ)
    → length ps ≡ count → length rest ≡ next → Trail ps at by (c ∷ rest) → ((k : ℕ) → is_open (position_at k ps) ≡ true → Apart k (c ∷ rest) → ⊥)
    → trail_drawn draw at (c ∷ rest) (closed_links ps) ≡ goal → StepsBack draw c link at by ps qs
    → IsComing draw goal count c link next qs
back_at_top draw draws goal count at by next ps qs c rest link long len t only leads b =
    let p = position_at c ps in
    let mid = set ps c (closed_link p) in
    let r = draw c at mid in
    let within = t.0 in
    let long_mid = length-set ps c (closed_link p) in
    let long_drawn = length-set mid c r in
    let within_mid : c < length mid = omega (arith, within, long_mid) in
    let same_mid : position_at c mid ≡ closed_link p = get_or-set_same ps c (closed_link p) zero_position within in
    let same : position_at c (set mid c r) ≡ r = get_or-set_same mid c r zero_position within_mid in
    let shut_mid : is_open (position_at c mid) ≡ false = ap is_open same_mid ∙ b.2 in
    let shut_here : is_open (position_at c (set mid c r)) ≡ false = ap is_open same ∙ draws.hold c at mid ∙ shut_mid in
    let still : closed_links mid ≡ closed_links ps = map-set closed_link ps c (closed_link p) ∙ ap (λ (q : Position). set (closed_links ps) c q) (shut_closed (closed_link p) b.2 ∙ sym (shut_at c ps)) ∙ set-get_or (closed_links ps) c zero_position in
    let seen : closed_links (set mid c r) ≡ with_child_drawn draw c at (closed_links ps) = hung_shut draw draws c at mid shut_mid ∙ ap (with_child_drawn draw c at) still in
    let trail : Trail (set mid c r) c p.attach_chain rest = trail_elsewhere mid c r c p.attach_chain rest (trail_elsewhere ps c (closed_link p) c p.attach_chain rest t.4 t.3) t.3 in
    let only_now : (k : ℕ) → is_open (position_at k (set mid c r)) ≡ true → Apart k rest → ⊥ =
    λ k o a. elim (eqb_tells k c) [
      | inl is ↦ closed_not_open (is_open (position_at k (set mid c r))) o (ap (λ (m : ℕ). is_open (position_at m (set mid c r))) is.1 ∙ shut_here)
      | inr other ↦ only k (sym (ap is_open (elsewhere c k r mid other.1 ∙ elsewhere c k (closed_link p) ps other.1)) ∙ o) (other.1, a)
    ] in
    let there : IsComing draw goal count c p.attach_chain next (set mid c r) = record {
      walk = record { stack = rest; long = long_drawn ∙ long_mid ∙ long; here = omega (arith, within, long); trail = trail; depth_is = len; only = only_now };
      leads = ap (trail_drawn draw c rest) seen ∙ leads;
    } in
    let at_link = subst (λ (l : ℤ). IsComing draw goal count c l next (set mid c r)) (sym b.1) there in
    subst (λ (xs : List Position). IsComing draw goal count c link next xs) (sym b.3) at_link

-- it goes back
pub coming_back : (draw : Drawing) → IsDrawing draw → (goal : List Position) (count at : ℕ) (by : ℤ) (depth next : ℕ) (ps qs : List Position) (to : ℕ) (link : ℤ)
    → IsComing draw goal count at by depth ps → depth ≡ next + 1 → StepsBack draw to link at by ps qs
    → IsComing draw goal count to link next qs
coming_back draw draws goal count at by depth next ps qs to link g e back = by_stack g.walk.stack g.walk.depth_is g.walk.trail g.walk.only g.leads
  where
    by_stack : (stack : List ℕ) → length stack ≡ depth → Trail ps at by stack → ((k : ℕ) → is_open (position_at k ps) ≡ true → Apart k stack → ⊥) → trail_drawn draw at stack (closed_links ps) ≡ goal → IsComing draw goal count to link next qs
    by_stack [] len t only leads = absurd (omega (arith, len, e))
    by_stack (c ∷ rest) len t only leads =
        let is : to ≡ c = same_start c to (pos at) by t.2 back.0 in
        let b = subst (λ (m : ℕ). StepsBack draw m link at by ps qs) is back in
        subst (λ (m : ℕ). IsComing draw goal count m link next qs) (sym is) (back_at_top draw draws goal count at by next ps qs c rest link g.walk.long (omega (arith, len, e)) t only leads b)

-- ---- a whole walk

all_same : (ps : List Position) → are_shut ps → closed_links ps ≡ ps
all_same [] s = refl
all_same (p ∷ ps) s = rw (shut_closed p (s 0), all_same ps (λ k. s (suc k))) refl

pub going_first : (draw : Drawing) (count at : ℕ) (ps : List Position) → length ps ≡ count → at < count → are_shut ps → IsGoing draw (with_link_followed draw count at ps) count (count - 0) at (pos 1) 0 ps
going_first draw count at ps long here s =
    let none : count ≡ count - 0 = omega arith in
    subst (λ (n : ℕ). IsGoing draw (with_link_followed draw count at ps) count n at (pos 1) 0 ps) none record {
      walk = record { stack = []; long = long; here = here; trail = tt; depth_is = refl; only = λ k o a. closed_not_open (is_open (position_at k ps)) o (s k) };
      moves = refl;
      leads = ap (with_link_followed draw count at) (all_same ps s);
    }

-- nothing is left
pub coming_last : (draw : Drawing) (goal : List Position) (count at : ℕ) (by : ℤ) (ps : List Position) → IsComing draw goal count at by 0 ps → (ps ≡ goal) × are_shut ps
coming_last draw goal count at by ps g = by_stack g.walk.stack g.walk.depth_is g.walk.only g.leads
  where
    none_open : (b : Bool) → (b ≡ true → ⊥) → b ≡ false
    none_open true n = absurd (n refl)
    none_open false n = refl

    by_stack : (stack : List ℕ) → length stack ≡ 0 → ((k : ℕ) → is_open (position_at k ps) ≡ true → Apart k stack → ⊥) → trail_drawn draw at stack (closed_links ps) ≡ goal → (ps ≡ goal) × are_shut ps
    by_stack [] len only leads =
        let s : are_shut ps = λ k. none_open (is_open (position_at k ps)) (λ o. only k o tt) in
        (sym (all_same ps s) ∙ leads, s)
    by_stack (c ∷ rest) len only leads = absurd (omega (arith, len))

-- a step of a walk, while some may be done
pub going_next : (goal : Drawing → List Position) (count i at : ℕ) (by : ℤ) (ps qs : List Position) (to : ℕ) (link : ℤ)
    → ((draw : Drawing) → IsGoing draw (goal draw) count (count - i) at by i ps) → i < count → StepsToParent to link at by ps qs
    → (draw : Drawing) → IsGoing draw (goal draw) count (count - (i + 1)) to link (i + 1) qs
going_next goal count i at by ps qs to link g lt goes draw =
    let e : count - i ≡ count - (i + 1) + 1 = omega (arith, lt) in
    let there = going_on draw (goal draw) count (count - i) (count - (i + 1)) at by i ps to (g draw) e goes.0 goes.1 in
    let at_link = subst (λ (l : ℤ). IsGoing draw (goal draw) count (count - (i + 1)) to l (i + 1) (set ps at (opened_link by (position_at at ps)))) (sym goes.2) there in
    subst (λ (xs : List Position). IsGoing draw (goal draw) count (count - (i + 1)) to link (i + 1) xs) (sym goes.3) at_link

pub going_stopped : (goal : Drawing → List Position) (count i at : ℕ) (by : ℤ) (ps qs : List Position)
    → ((draw : Drawing) → IsGoing draw (goal draw) count (count - i) at by i ps) → i < count → WalkStops at ps qs
    → (draw : Drawing) → IsComing draw (goal draw) count at by i qs
going_stopped goal count i at by ps qs g lt stops draw =
    let n : count - i ≢ 0 = omega (arith, lt) in
    elim stops [
      | inl here ↦ subst (λ (xs : List Position). IsComing draw (goal draw) count at by i xs) (sym here.1) (going_stops_open draw (goal draw) count (count - i) at by i ps (g draw) n here.0)
      | inr none ↦ subst (λ (xs : List Position). IsComing draw (goal draw) count at by i xs) (sym none.2) (going_stops draw (goal draw) count (count - i) at by i ps (g draw) n none.0 none.1)
    ]

pub going_done : (goal : Drawing → List Position) (count i at : ℕ) (by : ℤ) (ps : List Position)
    → ((draw : Drawing) → IsGoing draw (goal draw) count (count - i) at by i ps) → i ≡ count
    → (draw : Drawing) → IsComing draw (goal draw) count at by count ps
going_done goal count i at by ps g e draw =
    let none : count - i ≡ 0 = omega (arith, e) in
    going_ends draw (goal draw) count at by count ps (subst (λ (n : ℕ). IsGoing draw (goal draw) count 0 at by n ps) e (subst (λ (n : ℕ). IsGoing draw (goal draw) count n at by i ps) none (g draw)))

pub goes_here : (to : ℕ) (link : ℤ) (at : ℕ) (by : ℤ) (ps qs : List Position) → StepsToParent to link at by ps qs → to < length qs
goes_here to link at by ps qs goes =
    let there = linked_there (length ps) at (position_at at ps).attach_chain to goes.1 in
    let len = length-set ps at (opened_link by (position_at at ps)) in
    let len_now : length qs ≡ length (set ps at (opened_link by (position_at at ps))) = ap length goes.3 in
    omega (arith, there.0, len, len_now)

pub coming_here : (draw : Drawing) (goal : List Position) (count at : ℕ) (by : ℤ) (depth : ℕ) (ps : List Position) → IsComing draw goal count at by depth ps → at < length ps
coming_here draw goal count at by depth ps g = let w = g.walk in let here = w.here in let long = w.long in omega (arith, here, long)

pub coming_came : (draw : Drawing) (goal : List Position) (count at : ℕ) (by : ℤ) (i depth : ℕ) (ps : List Position) → IsComing draw goal count at by (depth - i) ps → i < depth → HasReturn at by ps
coming_came draw goal count at by i depth ps g lt = walk_came count at by (depth - i) ps g.walk (omega (arith, lt))

pub coming_next : (draw : Drawing) → IsDrawing draw → (goal : List Position) (count at : ℕ) (by : ℤ) (i depth : ℕ) (ps qs : List Position) (to : ℕ) (link : ℤ)
    → IsComing draw goal count at by (depth - i) ps → i < depth → StepsBack draw to link at by ps qs → IsComing draw goal count to link (depth - (i + 1)) qs
coming_next draw draws goal count at by i depth ps qs to link g lt back =
    let e : depth - i ≡ depth - (i + 1) + 1 = omega (arith, lt) in
    coming_back draw draws goal count at by (depth - i) (depth - (i + 1)) ps qs to link g e back

pub coming_first : (draw : Drawing) (goal : List Position) (count at : ℕ) (by : ℤ) (depth : ℕ) (ps : List Position) → IsComing draw goal count at by depth ps → IsComing draw goal count at by (depth - 0) ps
coming_first draw goal count at by depth ps g =
    let none : depth ≡ depth - 0 = omega arith in
    subst (λ (n : ℕ). IsComing draw goal count at by n ps) none g

pub coming_done : (draw : Drawing) (goal : List Position) (count at : ℕ) (by : ℤ) (i depth : ℕ) (ps : List Position) → IsComing draw goal count at by (depth - i) ps → i ≡ depth → (ps ≡ goal) × are_shut ps
coming_done draw goal count at by i depth ps g e =
    let none : depth - i ≡ 0 = omega (arith, e) in
    coming_last draw goal count at by ps (subst (λ (n : ℕ). IsComing draw goal count at by n ps) none g)

-- the glyph that it came from is the one at that distance
pub came_open : (ps : List Position) (at r : ℕ) (by : ℤ) → HasReturn at by ps → pos at ≡ pos r +ℤ by → is_open (position_at r ps) ≡ true
came_open ps at r by came e = ap (λ (k : ℕ). is_open (position_at k ps)) (same_start came.0 r (pos at) by came.2 e) ∙ came.3
