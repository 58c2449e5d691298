-- Links are followed in a fragment as in the text.
use Rattle.std.proofs.Common.{ℕ, zero, suc, ℤ, pos, negsuc, ◌+ℤ◌, ◌≡◌, ◌≤◌, ◌<◌, ◌+◌, ◌-◌, ◌==◌, ◌&&◌, inl, Bool, true, false, if◌then◌else◌, List, [], ◌∷◌, ◌++◌, Option, Some, None, length, map, take, drop, set, fold, arith, refl, ap, sym, subst, ◌∙◌}
use Rattle.std.specs.Prelude.{nat_abs, int_le, int_lt, slice_range}
use Rattle.std.proofs.lemmas.List.{append-nil, length-append, length-drop, length-map, length-set, map-append, set-get_or, take-append-le, drop-append-le}
use Rattle.std.proofs.lemmas.Grind.{common_steps}
use Rattle.std.proofs.Math.Seq.{drop-append-add}
use Rattle.buffer_common.specs.declared.direction.Direction.{Direction}
use Rattle.buffer_common.specs.Direction.{is_forward, is_horizontal}
use Rattle.buffer_glyphs.specs.Items.{Position, zero_position}
use Rattle.layout_offsets.specs.FollowedLinks.{has_kind, kind_tested, kinds_tested, with_link_cleared, offset_by, back_over, on_over, mark_drawn, child_drawn, drawn_position, Drawing, with_child_drawn, with_parent_drawn, with_link_followed, with_links_followed_from, with_links_followed, finished_positions}
use Rattle.layout_offsets.specs.Links.{position_at, without_link, parent}
use Rattle.layout_offsets.proofs.Lemmas.Linked.{linked_there}
use Rattle.layout_laws.specs.Breaks.Frames.{Outside}
use Rattle.layout_laws.specs.Breaks.Positioned.{LeadsInside, LeadInside, AreLinkless, around}
use Rattle.layout_laws.specs.Breaks.PositionEnds.{LinksAreFollowedApart}
use Rattle.layout_laws.proofs.BreakLemmas.Placed.{at_around, set_around, leads_set}
use Rattle.layout_laws.proofs.BreakLemmas.Cursives.{index_farther, parent_around, AreChangedAlike, changed_after, around_long}
use Rattle.layout_offsets.proofs.Drawn.{child_chain as child_link, drawn_chain as drawn_link}
use Rattle.layout_offsets.proofs.Near.{stays as stays_unlinked}
use Rattle.layout_match.proofs.Lemmas.Held.{zero_is as equal_zero}

-- ---- a glyph drawn from its parent

range_around : (o : Outside) (n i j : ℕ) (ps : List Position) → length o.left ≡ n → i ≤ length ps → j ≤ length ps → slice_range (around o ps) (n + i) (n + j) ≡ slice_range ps i j
range_around o n i j ps e le within =
    let rest : drop (n + i) (around o ps) ≡ drop i ps ++ o.right =
    drop-append-le (n + i) (o.left ++ ps) o.right (omega (arith, e, le, length-append o.left ps)) ∙ ap (λ (qs : List Position). qs ++ o.right) (ap (λ (k : ℕ). drop (k + i) (o.left ++ ps)) (sym e) ∙ drop-append-add o.left ps i) in
    let size : n + j - (n + i) ≡ j - i = omega arith in
    ap (λ (k : ℕ). take k (drop (n + i) (around o ps))) size ∙ ap (take (j - i)) rest ∙ take-append-le (j - i) (drop i ps) o.right (omega (arith, within, length-drop i ps))

mark_around : (o : Outside) (forward : Bool) (n i j : ℕ) (ps : List Position) → length o.left ≡ n → i < length ps → j < length ps → mark_drawn forward (n + i) (n + j) (around o ps) ≡ mark_drawn forward i j ps
mark_around o true n i j ps e lt within =
    ap (λ (q : Position). fold back_over (offset_by q (position_at (n + i) (around o ps))) (slice_range (around o ps) (n + j) (n + i))) (at_around o ps n j e within)
    ∙ ap (λ (p : Position). fold back_over (offset_by (position_at j ps) p) (slice_range (around o ps) (n + j) (n + i))) (at_around o ps n i e lt)
    ∙ ap (fold back_over (offset_by (position_at j ps) (position_at i ps))) (range_around o n j i ps e (omega (arith, within)) (omega (arith, lt)))
mark_around o false n i j ps e lt within =
    let from : n + j + 1 ≡ n + (j + 1) = omega arith in
    let to : n + i + 1 ≡ n + (i + 1) = omega arith in
    ap (λ (q : Position). fold on_over (offset_by q (position_at (n + i) (around o ps))) (slice_range (around o ps) (n + j + 1) (n + i + 1))) (at_around o ps n j e within)
    ∙ ap (λ (p : Position). fold on_over (offset_by (position_at j ps) p) (slice_range (around o ps) (n + j + 1) (n + i + 1))) (at_around o ps n i e lt)
    ∙ ap (λ (k : ℕ). fold on_over (offset_by (position_at j ps) (position_at i ps)) (slice_range (around o ps) k (n + i + 1))) from
    ∙ ap (λ (k : ℕ). fold on_over (offset_by (position_at j ps) (position_at i ps)) (slice_range (around o ps) (n + (j + 1)) k)) to
    ∙ ap (fold on_over (offset_by (position_at j ps) (position_at i ps))) (range_around o n (j + 1) (i + 1) ps e (omega (arith, within)) (omega (arith, lt)))

drawn_around : (o : Outside) (d : Direction) (n i j : ℕ) (ps : List Position) → length o.left ≡ n → i < length ps → j < length ps → drawn_position d (n + i) (n + j) (around o ps) ≡ drawn_position d i j ps
drawn_around o d n i j ps e lt within =
    ap (λ (p : Position). if p.attach_type == 2 then child_drawn (is_horizontal d) (position_at (n + j) (around o ps)) p else mark_drawn (is_forward d) (n + i) (n + j) (around o ps)) (at_around o ps n i e lt)
    ∙ ap (λ (q : Position). if (position_at i ps).attach_type == 2 then child_drawn (is_horizontal d) q (position_at i ps) else mark_drawn (is_forward d) (n + i) (n + j) (around o ps)) (at_around o ps n j e within)
    ∙ ap (λ (q : Position). if (position_at i ps).attach_type == 2 then child_drawn (is_horizontal d) (position_at j ps) (position_at i ps) else q) (mark_around o (is_forward d) n i j ps e lt within)

back_link : (p : Position) (rs : List Position) → (fold back_over p rs).attach_chain ≡ p.attach_chain
back_link p [] = refl
back_link p (r ∷ rs) = back_link (back_over p r) rs

on_link : (p : Position) (rs : List Position) → (fold on_over p rs).attach_chain ≡ p.attach_chain
on_link p [] = refl
on_link p (r ∷ rs) = on_link (on_over p r) rs

pub mark_link : (forward : Bool) (i j : ℕ) (ps : List Position) → (mark_drawn forward i j ps).attach_chain ≡ (position_at i ps).attach_chain
mark_link true i j ps = back_link (offset_by (position_at j ps) (position_at i ps)) (slice_range ps j i)
mark_link false i j ps = on_link (offset_by (position_at j ps) (position_at i ps)) (slice_range ps (j + 1) (i + 1))

-- ---- a link followed

-- what holds of the glyphs that a glyph is attached to, over as many links
abbrev IsFollowedAlike : Outside → Direction → ℕ → ℕ → Type 0
IsFollowedAlike o d n fuel = (i : ℕ) (ps : List Position) → i < length ps → LeadInside ps → AreChangedAlike o (length ps) (with_link_followed (drawn_position d) fuel (n + i) (around o ps)) (with_link_followed (drawn_position d) fuel i ps)

follow_alike : (o : Outside) (d : Direction) (n fuel : ℕ) → length o.left ≡ n → IsFollowedAlike o d n fuel
unfolding with_link_followed
follow_alike o d n zero e i ps lt h = record { same = refl; links = h; long = refl }
follow_alike o d n (suc fuel) e i ps lt h =
    subst (λ (j : Option ℕ). AreChangedAlike o (length ps) (with_parent_drawn (drawn_position d) (with_link_followed (drawn_position d) fuel) (n + i) j (around o ps)) (with_parent_drawn (drawn_position d) (with_link_followed (drawn_position d) fuel) i (parent i ps) ps))
    (sym (parent_around o n i ps e lt h)) (beyond (follow_alike o d n fuel e) (parent i ps) refl)
  where
    cleared : AreChangedAlike o (length ps) (with_link_cleared (n + i) (around o ps)) (with_link_cleared i ps)
    cleared = changed_after o n (length ps) i without_link (around o ps) ps e lt (record { same = refl; links = h; long = refl }) (inl refl)

    beyond : IsFollowedAlike o d n fuel → (j : Option ℕ) → parent i ps ≡ j
        → AreChangedAlike o (length ps) (with_parent_drawn (drawn_position d) (with_link_followed (drawn_position d) fuel) (n + i) (index_farther n j) (around o ps)) (with_parent_drawn (drawn_position d) (with_link_followed (drawn_position d) fuel) i j ps)
    beyond shorter None f = cleared
    beyond shorter (Some j) f =
        let draw = drawn_position d in
        let qs = with_link_cleared i ps in
        let there = linked_there (length ps) i (position_at i ps).attach_chain j f in
        let rest = shorter j qs (omega (arith, there.0, cleared.long)) cleared.links in
        let rs = with_link_followed draw fuel j qs in
        let here : i < length rs = omega (arith, lt, rest.long, cleared.long) in
        let to : j < length rs = omega (arith, there.0, rest.long, cleared.long) in
        record {
          same = ap (λ (xs : List Position). with_child_drawn draw (n + i) (n + j) (with_link_followed draw fuel (n + j) xs)) cleared.same ∙ ap (with_child_drawn draw (n + i) (n + j)) rest.same
              ∙ ap (set (around o rs) (n + i)) (drawn_around o d n i j rs e here to) ∙ set_around o rs n i (draw i j rs) e here;
          links = leads_set rs i (draw i j rs) rest.links (subst (LeadsInside (length rs) i) (sym (drawn_link d i j rs)) (rest.links i here));
          long = length-set rs i (draw i j rs) ∙ rest.long ∙ cleared.long;
        }

-- ---- over how many links

-- how many positions have a link
abbrev links : List Position → ℕ
links [] = 0
links (p ∷ ps) = if nat_abs p.attach_chain == 0 then links ps else suc (links ps)

links_most : (ps : List Position) → links ps ≤ length ps
links_most [] = omega arith
links_most (p ∷ ps) = by_test (nat_abs p.attach_chain == 0) (links_most ps)
  where
    by_test : (b : Bool) → links ps ≤ length ps → (if b then links ps else suc (links ps)) ≤ suc (length ps)
    by_test true h = omega (arith, h)
    by_test false h = omega (arith, h)

-- a link cleared is one link fewer
links_fewer : (i : ℕ) (ps : List Position) → (nat_abs (position_at i ps).attach_chain == 0) ≡ false → suc (links (set ps i (without_link (position_at i ps)))) ≡ links ps
links_fewer i [] e = cc
links_fewer zero (p ∷ ps) e = ap (λ (b : Bool). if b then links ps else suc (links ps)) (sym e)
links_fewer (suc i) (p ∷ ps) e = by_test (nat_abs p.attach_chain == 0) (links_fewer i ps e)
  where
    by_test : (b : Bool) → suc (links (set ps i (without_link (position_at i ps)))) ≡ links ps → suc (if b then links (set ps i (without_link (position_at i ps))) else suc (links (set ps i (without_link (position_at i ps))))) ≡ (if b then links ps else suc (links ps))
    by_test true h = h
    by_test false h = ap (λ (n : ℕ). suc n) h

-- where there is no link, each is 0
links_none : (i : ℕ) (ps : List Position) → links ps ≤ 0 → (nat_abs (position_at i ps).attach_chain == 0) ≡ true
links_none i ps le = by_test (nat_abs (position_at i ps).attach_chain == 0) refl
  where
    by_test : (b : Bool) → (nat_abs (position_at i ps).attach_chain == 0) ≡ b → b ≡ true
    by_test true e = refl
    by_test false e = let fewer = links_fewer i ps e in absurd (omega (arith, fewer, le))

linked_there_is : (none : Bool) (o : Option ℕ) (j : ℕ) → (if none then None else o) ≡ Some j → none ≡ false
linked_there_is true o j e = cc
linked_there_is false o j e = refl

linked_some : (i j : ℕ) (ps : List Position) → parent i ps ≡ Some j → (nat_abs (position_at i ps).attach_chain == 0) ≡ false
linked_some i j ps e =
    let link = (position_at i ps).attach_chain in
    linked_there_is (nat_abs link == 0) (if int_le (pos 0) (pos i +ℤ link) && int_lt (pos i +ℤ link) (pos (length ps)) then Some (nat_abs (pos i +ℤ link)) else None) j e

pub none_is : (z : ℤ) → (nat_abs z == 0) ≡ true → z ≡ pos 0
none_is (pos n) e = ap pos (equal_zero n e)
none_is (negsuc n) e = let never = equal_zero (suc n) e in absurd (omega (arith, never))

pub unlinked : (i : ℕ) (ps : List Position) → (position_at i ps).attach_chain ≡ pos 0 → with_link_cleared i ps ≡ ps
unlinked i ps e = ap (set ps i) (ap (λ (z : ℤ). record (position_at i ps) { attach_chain = z }) (sym e)) ∙ set-get_or ps i zero_position

-- as many links as there are suffice
abbrev Suffice : Drawing → ℕ → Type 0
Suffice draw fuel = (more i : ℕ) (ps : List Position) → links ps ≤ fuel → links ps ≤ more → with_link_followed draw fuel i ps ≡ with_link_followed draw more i ps

links_suffice : (draw : Drawing) (fuel : ℕ) → Suffice draw fuel
unfolding with_link_followed
links_suffice draw zero more i ps le up = sym (stays_unlinked draw more i ps (none_is (position_at i ps).attach_chain (links_none i ps le)))
links_suffice draw (suc fuel) zero i ps le up = stays_unlinked draw (suc fuel) i ps (none_is (position_at i ps).attach_chain (links_none i ps up))
links_suffice draw (suc fuel) (suc more) i ps le up = by_parent (links_suffice draw fuel) (parent i ps) refl
  where
    by_parent : Suffice draw fuel → (j : Option ℕ) → parent i ps ≡ j → with_parent_drawn draw (with_link_followed draw fuel) i j ps ≡ with_parent_drawn draw (with_link_followed draw more) i j ps
    by_parent shorter None e = refl
    by_parent shorter (Some j) e =
        let fewer = links_fewer i ps (linked_some i j ps e) in
        ap (with_child_drawn draw i j) (shorter more j (with_link_cleared i ps) (omega (arith, fewer, le)) (omega (arith, fewer, up)))

-- ---- all links

more_alike : (o : Outside) (d : Direction) (n count i : ℕ) (ps : List Position) → length o.left ≡ n → i + count ≤ length ps → LeadInside ps
    → AreChangedAlike o (length ps) (with_links_followed_from (drawn_position d) (n + i) count (around o ps)) (with_links_followed_from (drawn_position d) i count ps)
more_alike o d n zero i ps e le h = record { same = refl; links = h; long = refl }
more_alike o d n (suc count) i ps e le h =
    let draw = drawn_position d in
    let all = length (around o ps) in
    let few : links ps ≤ length ps = links_most ps in
    let long : length ps ≤ all = let up = around_long o n ps e in omega (arith, up) in
    let qs = with_link_followed draw (length ps) i ps in
    let enough : with_link_followed draw all i ps ≡ qs = links_suffice draw all (length ps) i ps (omega (arith, few, long)) few in
    let first = follow_alike o d n all e i ps (omega (arith, le)) h in
    let made : AreChangedAlike o (length ps) (with_link_followed draw all (n + i) (around o ps)) qs = subst (AreChangedAlike o (length ps) (with_link_followed draw all (n + i) (around o ps))) enough first in
    let rest = more_alike o d n count (i + 1) qs e (omega (arith, le, made.long)) made.links in
    let next : n + i + 1 ≡ n + (i + 1) = omega arith in
    record {
      same = ap (λ (k : ℕ). with_links_followed_from draw k count (with_link_followed draw all (n + i) (around o ps))) next ∙ ap (with_links_followed_from draw (n + (i + 1)) count) made.same ∙ rest.same;
      links = rest.links;
      long = rest.long ∙ made.long;
    }

followed_in_turn : (draw : Drawing) (i m n : ℕ) (ps : List Position) → with_links_followed_from draw i (m + n) ps ≡ with_links_followed_from draw (i + m) n (with_links_followed_from draw i m ps)
followed_in_turn draw i zero n ps = ap (λ (k : ℕ). with_links_followed_from draw i k ps) (none_first n) ∙ ap (λ (k : ℕ). with_links_followed_from draw k n ps) (sym (none_last i))
  where
    none_first : (k : ℕ) → 0 + k ≡ k
    none_first k = omega arith

    none_last : (k : ℕ) → k + 0 ≡ k
    none_last k = omega arith
followed_in_turn draw i (suc m) n ps =
    let qs = with_link_followed draw (length ps) i ps in
    ap (λ (k : ℕ). with_links_followed_from draw i k ps) (one_first m n) ∙ followed_in_turn draw (i + 1) m n qs ∙ ap (λ (k : ℕ). with_links_followed_from draw k n (with_links_followed_from draw (i + 1) m qs)) (one_more i m)
  where
    one_first : (a b : ℕ) → suc a + b ≡ suc (a + b)
    one_first a b = omega arith

    one_more : (a b : ℕ) → a + 1 + b ≡ a + suc b
    one_more a b = omega arith

-- two lists, each of whose links lead inside it
followed_apart : (d : Direction) (ps qs : List Position) → LeadInside ps → LeadInside qs → with_links_followed (drawn_position d) (ps ++ qs) ≡ with_links_followed (drawn_position d) ps ++ with_links_followed (drawn_position d) qs
followed_apart d ps qs h k =
    let draw = drawn_position d in
    let n = length ps in
    let m = length qs in
    let us = with_links_followed_from draw 0 n ps in
    let vs = with_links_followed_from draw 0 m qs in
    let before : Outside = record { before = []; after = []; left = []; right = qs } in
    let after : Outside = record { before = []; after = []; left = us; right = [] } in
    let first = more_alike before d 0 n 0 ps refl (omega arith) h in
    let second = more_alike after d n m 0 qs first.long (omega arith) k in
    let start : 0 + n ≡ n + 0 = omega arith in
    ap (λ (l : ℕ). with_links_followed_from draw 0 l (ps ++ qs)) (length-append ps qs) ∙ followed_in_turn draw 0 n m (ps ++ qs) ∙ ap (with_links_followed_from draw (0 + n) m) first.same
    ∙ ap (λ (l : ℕ). with_links_followed_from draw l m (us ++ qs)) start ∙ ap (with_links_followed_from draw (n + 0) m) (sym (append-nil (us ++ qs))) ∙ second.same ∙ append-nil (us ++ vs)

-- ---- links of other kinds

kind_at : (i : ℕ) (ps : List Position) → position_at i (map kind_tested ps) ≡ kind_tested (position_at i ps)
kind_at i [] = refl
kind_at zero (p ∷ ps) = refl
kind_at (suc i) (p ∷ ps) = kind_at i ps

kinds_lead : (ps : List Position) → LeadInside ps → LeadInside (kinds_tested ps)
kinds_lead ps h i lt =
    subst (λ (n : ℕ). LeadsInside n i (position_at i (kinds_tested ps)).attach_chain) (sym (length-map ps kind_tested)) (subst (λ (p : Position). LeadsInside (length ps) i p.attach_chain) (sym (kind_at i ps)) (by_kind (has_kind (position_at i ps))))
  where
    by_kind : (b : Bool) → LeadsInside (length ps) i (if b then position_at i ps else without_link (position_at i ps)).attach_chain
    by_kind true = h i (omega (arith, lt, length-map ps kind_tested))
    by_kind false = inl refl

pub links_are_followed_apart : LinksAreFollowedApart
links_are_followed_apart d ps qs h k = ap (with_links_followed (drawn_position d)) (map-append kind_tested ps qs) ∙ followed_apart d (kinds_tested ps) (kinds_tested qs) (kinds_lead ps h) (kinds_lead qs k)

-- ---- what following leaves

-- links still lead inside, and there are as many positions
pub finished_inside : (d : Direction) (ps : List Position) → LeadInside ps → LeadInside (finished_positions d ps)
finished_inside d ps h = (more_alike (record { before = []; after = []; left = []; right = [] }) d 0 (length (kinds_tested ps)) 0 (kinds_tested ps) refl (omega arith) (kinds_lead ps h)).links

followed_long : (draw : Drawing) (fuel i : ℕ) (ps : List Position) → length (with_link_followed draw fuel i ps) ≡ length ps
unfolding with_link_followed
followed_long draw zero i ps = refl
followed_long draw (suc fuel) i ps = beyond (λ j qs. followed_long draw fuel j qs) (parent i ps)
  where
    beyond : ((j : ℕ) (qs : List Position) → length (with_link_followed draw fuel j qs) ≡ length qs) → (j : Option ℕ) → length (with_parent_drawn draw (with_link_followed draw fuel) i j ps) ≡ length ps
    beyond shorter None = length-set ps i (without_link (position_at i ps))
    beyond shorter (Some j) =
        let qs = with_link_cleared i ps in
        length-set (with_link_followed draw fuel j qs) i (draw i j (with_link_followed draw fuel j qs)) ∙ shorter j qs ∙ length-set ps i (without_link (position_at i ps))

-- without links nothing changes
kinds_linkless : (ps : List Position) → AreLinkless ps → kinds_tested ps ≡ ps
kinds_linkless [] h = refl
kinds_linkless (p ∷ ps) h = ap (λ (q : Position). q ∷ kinds_tested ps) (by_kind (has_kind p)) ∙ ap (λ (qs : List Position). p ∷ qs) (kinds_linkless ps (λ i. h (suc i)))
  where
    by_kind : (b : Bool) → (if b then p else without_link p) ≡ p
    by_kind true = refl
    by_kind false = ap (λ (z : ℤ). record p { attach_chain = z }) (sym (h zero))

from_linkless : (draw : Drawing) (n i : ℕ) (ps : List Position) → AreLinkless ps → with_links_followed_from draw i n ps ≡ ps
from_linkless draw zero i ps h = refl
from_linkless draw (suc n) i ps h = ap (with_links_followed_from draw (i + 1) n) (stays_unlinked draw (length ps) i ps (h i)) ∙ from_linkless draw n (i + 1) ps h

pub finished_linkless : (d : Direction) (ps : List Position) → AreLinkless ps → finished_positions d ps ≡ ps
finished_linkless d ps h = ap (with_links_followed (drawn_position d)) (kinds_linkless ps h) ∙ from_linkless (drawn_position d) (length ps) 0 ps h
