-- Links followed in two lists of positions, one after the other.
use Rattle.std.proofs.Common.{ℕ, zero, suc, ℤ, pos, negsuc, ◌+ℤ◌, ◌≡◌, ◌≢◌, ◌≤◌, ◌<◌, ◌+◌, ◌-◌, ◌==◌, ◌&&◌, ◌⊎◌, inl, inr, Bool, true, false, if◌then◌else◌, List, [], ◌∷◌, ◌++◌, Option, Some, None, length, set, take, drop, not, arith, refl, ap, sym, subst, ◌∙◌}
use Rattle.std.specs.Prelude.{nat_abs, int_le, int_lt, slice_range, fold}
use Rattle.std.proofs.lemmas.Int.{ints}
use Rattle.std.proofs.lemmas.Bool.{cases_lt}
use Rattle.std.proofs.lemmas.Bool.Decides.{eqb_tells, nat_tests}
use Rattle.std.proofs.lemmas.List.{length-append, length-map, length-set, map-append, get_or-set_same, get_or-set_other, set-get_or, get_or_append_left, get_or-append-add, set-append_left, set-append_right, take-append-le, drop-append-le, length-drop}
use Rattle.std.proofs.Math.Seq.{drop-append-add, set_out}
use Rattle.buffer_glyphs.specs.Items.{Position, zero_position}
use Rattle.buffer_glyphs.proofs.Lists.{get_or_mapped}
use Rattle.buffer_common.specs.declared.direction.Direction.{Direction}
use Rattle.buffer_common.specs.Direction.{is_forward, is_horizontal}
use Rattle.layout_offsets.specs.FollowedLinks.{has_kind, kind_tested, kinds_tested, with_link_cleared, offset_by, back_over, on_over, mark_drawn, child_drawn, drawn_position, Drawing, with_child_drawn, with_parent_drawn, with_link_followed, with_links_followed_from, with_links_followed, finished_positions}
use Rattle.layout_offsets.specs.Links.{position_at, link_target, parent, without_link}
use Rattle.shape_laws.specs.Breaks.Links.{LeadsInside, AllLeadInside, AreUnlinked}
use Rattle.layout_offsets.proofs.Lemmas.Linked.{both_tests, inside_is}
use Rattle.layout_offsets.proofs.Drawn.{child_chain, parent_none, position_here}
use Rattle.layout_laws.proofs.BreakLemmas.Following.{mark_link as mark_chain, unlinked as cleared_same, none_is as abs_zero}
use Rattle.layout_offsets.proofs.Going.{followed_none, elsewhere}
use Rattle.layout_offsets.proofs.Near.{stays as linkless_followed}
use Rattle.layout_offsets.proofs.BySums.{parent_within}

-- ---- where a link leads

record IsTarget (n i : ℕ) (d : ℤ) (j : ℕ) : Type 0 where
  moves : (nat_abs d == 0) ≡ false
  inside : j < n
  there : pos j ≡ pos i +ℤ d

is_target : (n i : ℕ) (d : ℤ) (j : ℕ) → link_target n i d ≡ Some j → IsTarget n i d j
is_target n i d j e = by_none (nat_abs d == 0) refl e
  where
    by_none : (none : Bool) → (nat_abs d == 0) ≡ none → (if none then None else if int_le (pos 0) (pos i +ℤ d) && int_lt (pos i +ℤ d) (pos n) then Some (nat_abs (pos i +ℤ d)) else None) ≡ Some j → IsTarget n i d j
    by_none true f g = cc
    by_none false f g = let is = inside_is n (pos i +ℤ d) j g in record { moves = f; inside = is.0; there = is.1 }

number_is : (n j : ℕ) → j < n → (if int_le (pos 0) (pos j) && int_lt (pos j) (pos n) then Some (nat_abs (pos j)) else None) ≡ Some j
number_is n j lt =
    let low : int_le (pos 0) (pos j) ≡ true = grind (arith, nat_tests) in
    let high : int_lt (pos j) (pos n) ≡ true = grind (arith, nat_tests, lt) in
    rw (low, high) refl

target_of : (n i : ℕ) (d : ℤ) (j : ℕ) → IsTarget n i d j → link_target n i d ≡ Some j
target_of n i d j t =
    ap (λ (none : Bool). if none then None else if int_le (pos 0) (pos i +ℤ d) && int_lt (pos i +ℤ d) (pos n) then Some (nat_abs (pos i +ℤ d)) else None) t.moves
    ∙ subst (λ (s : ℤ). (if int_le (pos 0) s && int_lt s (pos n) then Some (nat_abs s) else None) ≡ Some j) t.there (number_is n j t.inside)

pub target_there : (n i : ℕ) (d : ℤ) (j : ℕ) → (nat_abs d == 0) ≡ false → j < n → pos j ≡ pos i +ℤ d → link_target n i d ≡ Some j
target_there n i d j moves inside there = target_of n i d j (record { moves = moves; inside = inside; there = there })

-- among more positions
target_more : (n m i : ℕ) (d : ℤ) (j : ℕ) → link_target n i d ≡ Some j → link_target (n + m) i d ≡ Some j
target_more n m i d j e =
    let t = is_target n i d j e in
    let lt = t.inside in
    target_of (n + m) i d j (record { moves = t.moves; inside = omega (arith, lt); there = t.there })

-- among n more before
target_moved : (n m i : ℕ) (d : ℤ) (j : ℕ) → link_target m i d ≡ Some j → link_target (n + m) (n + i) d ≡ Some (n + j)
target_moved n m i d j e =
    let t = is_target m i d j e in
    let lt = t.inside in
    let there = t.there in
    target_of (n + m) (n + i) d (n + j) (record { moves = t.moves; inside = omega (arith, lt); there = omega (arith, ints, there) })

-- ---- positions of two lists

at_first : (i : ℕ) (ps qs : List Position) → i < length ps → position_at i (ps ++ qs) ≡ position_at i ps
at_first i ps qs lt = get_or_append_left ps qs zero_position i lt

at_second : (i : ℕ) (ps qs : List Position) → position_at (length ps + i) (ps ++ qs) ≡ position_at i qs
at_second i ps qs = get_or-append-add ps qs i zero_position

set_second : (i : ℕ) (p : Position) (ps qs : List Position) → set (ps ++ qs) (length ps + i) p ≡ ps ++ set qs i p
set_second i p ps qs = let same : (length ps + i) - length ps ≡ i = omega arith in set-append_right ps qs (length ps) (length ps + i) p refl (omega arith) ∙ ap (λ (k : ℕ). ps ++ set qs k p) same

-- its parent is one, too
parent_there : (i j : ℕ) (ps : List Position) → parent i ps ≡ Some j → j < length ps
parent_there i j ps e = (is_target (length ps) i (position_at i ps).attach_chain j e).inside

parent_first : (i j : ℕ) (ps qs : List Position) → parent i ps ≡ Some j → parent i (ps ++ qs) ≡ Some j
parent_first i j ps qs e =
    ap (λ (p : Position). link_target (length (ps ++ qs)) i p.attach_chain) (at_first i ps qs (parent_within i j ps e)) ∙ ap (λ (n : ℕ). link_target n i (position_at i ps).attach_chain) (length-append ps qs)
    ∙ target_more (length ps) (length qs) i (position_at i ps).attach_chain j e

parent_second : (i j : ℕ) (ps qs : List Position) → parent i qs ≡ Some j → parent (length ps + i) (ps ++ qs) ≡ Some (length ps + j)
parent_second i j ps qs e =
    ap (λ (p : Position). link_target (length (ps ++ qs)) (length ps + i) p.attach_chain) (at_second i ps qs) ∙ ap (λ (n : ℕ). link_target n (length ps + i) (position_at i qs).attach_chain) (length-append ps qs)
    ∙ target_moved (length ps) (length qs) i (position_at i qs).attach_chain j e

-- ---- positions of which links at most are cleared

record OnlyClears (ps qs : List Position) : Type 0 where
  long : length qs ≡ length ps
  chains : (k : ℕ) → ((position_at k qs).attach_chain ≡ pos 0) ⊎ ((position_at k qs).attach_chain ≡ (position_at k ps).attach_chain)

clears_none : (ps : List Position) → OnlyClears ps ps
clears_none ps = record { long = refl; chains = λ k. inr refl }

clears_both : (ps qs rs : List Position) → OnlyClears ps qs → OnlyClears qs rs → OnlyClears ps rs
clears_both ps qs rs h g = record {
  long = g.long ∙ h.long;
  chains = λ k. elim (g.chains k) [
    | inl none ↦ inl none
    | inr same ↦ elim (h.chains k) [ inl none ↦ inl (same ∙ none) | inr old ↦ inr (same ∙ old) ]
  ];
}

set_clears : (i : ℕ) (p : Position) (ps : List Position) → (p.attach_chain ≡ pos 0) ⊎ (p.attach_chain ≡ (position_at i ps).attach_chain) → OnlyClears ps (set ps i p)
set_clears i p ps link = record { long = length-set ps i p; chains = at_each }
  where
    at_each : (k : ℕ) → ((position_at k (set ps i p)).attach_chain ≡ pos 0) ⊎ ((position_at k (set ps i p)).attach_chain ≡ (position_at k ps).attach_chain)
    at_each k = elim (eqb_tells k i) [
      | inl is ↦ elim (cases_lt i (length ps)) [
        | inl lt ↦
            let here : (position_at k (set ps i p)).attach_chain ≡ p.attach_chain = ap (λ (m : ℕ). (position_at m (set ps i p)).attach_chain) is.1 ∙ ap (λ (q : Position). q.attach_chain) (position_here i p ps lt) in
            elim link [ inl none ↦ inl (here ∙ none) | inr same ↦ inr (here ∙ same ∙ ap (λ (m : ℕ). (position_at m ps).attach_chain) (sym is.1)) ]
        | inr out ↦ inr (ap (λ (xs : List Position). (position_at k xs).attach_chain) (set_out ps i p out))
      ]
      | inr other ↦ inr (ap (λ (q : Position). q.attach_chain) (elsewhere i k p ps other.1))
    ]

inside_stays : (ps qs : List Position) → OnlyClears ps qs → AllLeadInside ps → AllLeadInside qs
inside_stays ps qs h inside k = elim (h.chains k) [
  | inl none ↦ inl none
  | inr same ↦ elim (inside k) [
    | inl none ↦ inl (same ∙ none)
    | inr there ↦ inr (there.0, ap (λ (n : ℕ). link_target n k (position_at k qs).attach_chain) h.long ∙ ap (link_target (length ps) k) same ∙ there.1)
  ]
]

-- ---- drawings

-- a way to draw reads of a list only what is between a glyph and its parent, and keeps links
record IsLocal (draw : Drawing) : Type 0 where
  first : (i j : ℕ) (ps qs : List Position) → i < length ps → j < length ps → draw i j (ps ++ qs) ≡ draw i j ps
  second : (i j : ℕ) (ps qs : List Position) → draw (length ps + i) (length ps + j) (ps ++ qs) ≡ draw i j qs
  chain : (i j : ℕ) (ps : List Position) → (draw i j ps).attach_chain ≡ (position_at i ps).attach_chain

followed_step : (draw : Drawing) (fuel at : ℕ) (ps : List Position) → with_link_followed draw (suc fuel) at ps ≡ with_parent_drawn draw (with_link_followed draw fuel) at (parent at ps) ps
unfolding with_link_followed
followed_step draw fuel at ps = refl

cleared_clears : (i : ℕ) (ps : List Position) → OnlyClears ps (with_link_cleared i ps)
cleared_clears i ps = set_clears i (without_link (position_at i ps)) ps (inl refl)

followed_clears : (draw : Drawing) → IsLocal draw → (fuel i : ℕ) (ps : List Position) → OnlyClears ps (with_link_followed draw fuel i ps)
followed_clears draw k zero i ps = subst (OnlyClears ps) (sym (followed_none draw i ps)) (clears_none ps)
followed_clears draw k (suc fuel) i ps = subst (OnlyClears ps) (sym (followed_step draw fuel i ps)) (by_parent (parent i ps) (λ j qs. followed_clears draw k fuel j qs))
  where
    by_parent : (o : Option ℕ) → ((j : ℕ) (qs : List Position) → OnlyClears qs (with_link_followed draw fuel j qs)) → OnlyClears ps (with_parent_drawn draw (with_link_followed draw fuel) i o ps)
    by_parent None before = cleared_clears i ps
    by_parent (Some j) before =
        let free = with_link_cleared i ps in
        let now = with_link_followed draw fuel j free in
        clears_both ps free (with_child_drawn draw i j now) (cleared_clears i ps) (clears_both free now (with_child_drawn draw i j now) (before j free) (set_clears i (draw i j now) now (inr (k.chain i j now))))

-- ---- the first of two lists

cleared_first : (i : ℕ) (ps qs : List Position) → i < length ps → with_link_cleared i (ps ++ qs) ≡ with_link_cleared i ps ++ qs
cleared_first i ps qs lt = ap (λ (p : Position). set (ps ++ qs) i (without_link p)) (at_first i ps qs lt) ∙ set-append_left ps qs i (without_link (position_at i ps)) lt

child_first : (draw : Drawing) → IsLocal draw → (i j : ℕ) (ps qs : List Position) → i < length ps → j < length ps → with_child_drawn draw i j (ps ++ qs) ≡ with_child_drawn draw i j ps ++ qs
child_first draw k i j ps qs lt lt' = ap (set (ps ++ qs) i) (k.first i j ps qs lt lt') ∙ set-append_left ps qs i (draw i j ps) lt

followed_first : (draw : Drawing) → IsLocal draw → (fuel i : ℕ) (ps qs : List Position) → AllLeadInside ps → i < length ps → with_link_followed draw fuel i (ps ++ qs) ≡ with_link_followed draw fuel i ps ++ qs
followed_first draw k zero i ps qs inside lt = followed_none draw i (ps ++ qs) ∙ ap (λ (xs : List Position). xs ++ qs) (sym (followed_none draw i ps))
followed_first draw k (suc fuel) i ps qs inside lt =
    followed_step draw fuel i (ps ++ qs) ∙ by_link (inside i) (λ j xs h l. followed_first draw k fuel j xs qs h l) ∙ ap (λ (xs : List Position). xs ++ qs) (sym (followed_step draw fuel i ps))
  where
    by_link : LeadsInside i ps → ((j : ℕ) (xs : List Position) → AllLeadInside xs → j < length xs → with_link_followed draw fuel j (xs ++ qs) ≡ with_link_followed draw fuel j xs ++ qs)
        → with_parent_drawn draw (with_link_followed draw fuel) i (parent i (ps ++ qs)) (ps ++ qs) ≡ with_parent_drawn draw (with_link_followed draw fuel) i (parent i ps) ps ++ qs
    by_link (inl none) before =
        ap (λ (o : Option ℕ). with_parent_drawn draw (with_link_followed draw fuel) i o (ps ++ qs)) (parent_none i (ps ++ qs) (ap (λ (p : Position). p.attach_chain) (at_first i ps qs lt) ∙ none))
        ∙ cleared_first i ps qs lt ∙ ap (λ (o : Option ℕ). with_parent_drawn draw (with_link_followed draw fuel) i o ps ++ qs) (sym (parent_none i ps none))
    by_link (inr there) before =
        let j = there.0 in
        let free = with_link_cleared i ps in
        let now = with_link_followed draw fuel j free in
        let cleared = cleared_clears i ps in
        let clears = followed_clears draw k fuel j free in
        let long = cleared.long in
        let more = clears.long in
        let near = parent_there i j ps there.1 in
        ap (λ (o : Option ℕ). with_parent_drawn draw (with_link_followed draw fuel) i o (ps ++ qs)) (parent_first i j ps qs there.1)
        ∙ ap (λ (xs : List Position). with_child_drawn draw i j (with_link_followed draw fuel j xs)) (cleared_first i ps qs lt)
        ∙ ap (with_child_drawn draw i j) (before j free (inside_stays ps free cleared inside) (omega (arith, long, near)))
        ∙ child_first draw k i j now qs (omega (arith, long, more, lt)) (omega (arith, long, more, near))
        ∙ ap (λ (o : Option ℕ). with_parent_drawn draw (with_link_followed draw fuel) i o ps ++ qs) (sym there.1)

-- ---- the second of two lists

cleared_second : (i : ℕ) (ps qs : List Position) → with_link_cleared (length ps + i) (ps ++ qs) ≡ ps ++ with_link_cleared i qs
cleared_second i ps qs = ap (λ (p : Position). set (ps ++ qs) (length ps + i) (without_link p)) (at_second i ps qs) ∙ set_second i (without_link (position_at i qs)) ps qs

child_second : (draw : Drawing) → IsLocal draw → (i j : ℕ) (ps qs : List Position) → with_child_drawn draw (length ps + i) (length ps + j) (ps ++ qs) ≡ ps ++ with_child_drawn draw i j qs
child_second draw k i j ps qs = ap (set (ps ++ qs) (length ps + i)) (k.second i j ps qs) ∙ set_second i (draw i j qs) ps qs

followed_second : (draw : Drawing) → IsLocal draw → (fuel i : ℕ) (ps qs : List Position) → AllLeadInside qs → with_link_followed draw fuel (length ps + i) (ps ++ qs) ≡ ps ++ with_link_followed draw fuel i qs
followed_second draw k zero i ps qs inside = followed_none draw (length ps + i) (ps ++ qs) ∙ ap (λ (xs : List Position). ps ++ xs) (sym (followed_none draw i qs))
followed_second draw k (suc fuel) i ps qs inside =
    followed_step draw fuel (length ps + i) (ps ++ qs) ∙ by_link (inside i) (λ j xs h. followed_second draw k fuel j ps xs h) ∙ ap (λ (xs : List Position). ps ++ xs) (sym (followed_step draw fuel i qs))
  where
    by_link : LeadsInside i qs → ((j : ℕ) (xs : List Position) → AllLeadInside xs → with_link_followed draw fuel (length ps + j) (ps ++ xs) ≡ ps ++ with_link_followed draw fuel j xs)
        → with_parent_drawn draw (with_link_followed draw fuel) (length ps + i) (parent (length ps + i) (ps ++ qs)) (ps ++ qs) ≡ ps ++ with_parent_drawn draw (with_link_followed draw fuel) i (parent i qs) qs
    by_link (inl none) before =
        ap (λ (o : Option ℕ). with_parent_drawn draw (with_link_followed draw fuel) (length ps + i) o (ps ++ qs)) (parent_none (length ps + i) (ps ++ qs) (ap (λ (p : Position). p.attach_chain) (at_second i ps qs) ∙ none))
        ∙ cleared_second i ps qs ∙ ap (λ (o : Option ℕ). ps ++ with_parent_drawn draw (with_link_followed draw fuel) i o qs) (sym (parent_none i qs none))
    by_link (inr there) before =
        let j = there.0 in
        let free = with_link_cleared i qs in
        ap (λ (o : Option ℕ). with_parent_drawn draw (with_link_followed draw fuel) (length ps + i) o (ps ++ qs)) (parent_second i j ps qs there.1)
        ∙ ap (λ (xs : List Position). with_child_drawn draw (length ps + i) (length ps + j) (with_link_followed draw fuel (length ps + j) xs)) (cleared_second i ps qs)
        ∙ ap (with_child_drawn draw (length ps + i) (length ps + j)) (before j free (inside_stays qs free (cleared_clears i qs) inside))
        ∙ child_second draw k i j ps (with_link_followed draw fuel j free)
        ∙ ap (λ (o : Option ℕ). ps ++ with_parent_drawn draw (with_link_followed draw fuel) i o qs) (sym there.1)

-- ---- as many steps as there are links are enough

abbrev is_moving : Position → Bool
is_moving p = not (nat_abs p.attach_chain == 0)

-- how many positions have a link
abbrev links : List Position → ℕ
links [] = 0
links (p ∷ ps) = if is_moving p then suc (links ps) else links ps

links_most : (ps : List Position) → links ps ≤ length ps
links_most [] = omega arith
links_most (p ∷ ps) = let rest = links_most ps in elim (is_moving p) as (λ b. (if b then suc (links ps) else links ps) ≤ suc (length ps)) [ true ↦ omega (arith, rest) | false ↦ omega (arith, rest) ]

links_less : (i : ℕ) (p : Position) (ps : List Position) → i < length ps → is_moving (position_at i ps) ≡ true → is_moving p ≡ false → suc (links (set ps i p)) ≡ links ps
links_less i p [] lt e f = absurd (omega (arith, lt))
links_less zero p (q ∷ ps) lt e f = ap (λ b. suc (if b then suc (links ps) else links ps)) f ∙ ap (λ b. if b then suc (links ps) else links ps) (sym e)
links_less (suc i) p (q ∷ ps) lt e f =
    let rest = links_less i p ps (omega (arith, lt)) e f in
    elim (is_moving q) as (λ b. suc (if b then suc (links (set ps i p)) else links (set ps i p)) ≡ (if b then suc (links ps) else links ps)) [ true ↦ ap suc rest | false ↦ rest ]

-- a position with a parent has a link
target_moves : (i j : ℕ) (ps : List Position) → parent i ps ≡ Some j → is_moving (position_at i ps) ≡ true
target_moves i j ps e = ap not ((is_target (length ps) i (position_at i ps).attach_chain j e).moves)

none_moves : (i : ℕ) (ps : List Position) → links ps ≡ 0 → (position_at i ps).attach_chain ≡ pos 0
none_moves i [] e = refl
none_moves zero (p ∷ ps) e = by_test (nat_abs p.attach_chain == 0) refl e
  where
    by_test : (b : Bool) → (nat_abs p.attach_chain == 0) ≡ b → (if not b then suc (links ps) else links ps) ≡ 0 → p.attach_chain ≡ pos 0
    by_test true f g = abs_zero p.attach_chain f
    by_test false f g = absurd (omega (arith, g))
none_moves (suc i) (p ∷ ps) e = none_moves i ps (by_test (is_moving p) e)
  where
    by_test : (b : Bool) → (if b then suc (links ps) else links ps) ≡ 0 → links ps ≡ 0
    by_test true g = absurd (omega (arith, g))
    by_test false g = g

followed_alike : (draw : Drawing) (f g i : ℕ) (ps : List Position) → links ps ≤ f → links ps ≤ g → with_link_followed draw f i ps ≡ with_link_followed draw g i ps
followed_alike draw zero g i ps l m =
    let none = none_moves i ps (omega (arith, l)) in
    linkless_followed draw zero i ps none ∙ sym (linkless_followed draw g i ps none)
followed_alike draw (suc f) zero i ps l m =
    let none = none_moves i ps (omega (arith, m)) in
    linkless_followed draw (suc f) i ps none ∙ sym (linkless_followed draw zero i ps none)
followed_alike draw (suc f) (suc g) i ps l m = followed_step draw f i ps ∙ by_parent (parent i ps) refl (λ j xs h k. followed_alike draw f g j xs h k) ∙ sym (followed_step draw g i ps)
  where
    by_parent : (o : Option ℕ) → parent i ps ≡ o → ((j : ℕ) (xs : List Position) → links xs ≤ f → links xs ≤ g → with_link_followed draw f j xs ≡ with_link_followed draw g j xs)
        → with_parent_drawn draw (with_link_followed draw f) i o ps ≡ with_parent_drawn draw (with_link_followed draw g) i o ps
    by_parent None e before = refl
    by_parent (Some j) e before =
        let less = links_less i (without_link (position_at i ps)) ps (parent_within i j ps e) (target_moves i j ps e) refl in
        ap (with_child_drawn draw i j) (before j (with_link_cleared i ps) (omega (arith, less, l)) (omega (arith, less, m)))

-- ---- all positions of two lists

firsts_followed : (draw : Drawing) → IsLocal draw → (n m t i : ℕ) (ps qs : List Position) → t ≡ n + m → i + n ≡ length ps → AllLeadInside ps
    → with_links_followed_from draw i t (ps ++ qs) ≡ with_links_followed_from draw (i + n) m (with_links_followed_from draw i n ps ++ qs)
firsts_followed draw k zero m t i ps qs e f inside =
    let all : t ≡ m = omega (arith, e) in
    let here : i ≡ i + 0 = omega arith in
    ap (λ (s : ℕ). with_links_followed_from draw i s (ps ++ qs)) all ∙ ap (λ (s : ℕ). with_links_followed_from draw s m (ps ++ qs)) here
firsts_followed draw k (suc n) m zero i ps qs e f inside = absurd (omega (arith, e))
firsts_followed draw k (suc n) m (suc t) i ps qs e f inside =
    let now = with_link_followed draw (length ps) i ps in
    let clears = followed_clears draw k (length ps) i ps in
    let long = clears.long in
    let most = links_most ps in
    let all = length-append ps qs in
    let here : i + 1 + n ≡ i + suc n = omega arith in
    ap (with_links_followed_from draw (i + 1) t)
    (followed_first draw k (length (ps ++ qs)) i ps qs inside (omega (arith, f)) ∙ ap (λ (xs : List Position). xs ++ qs) (followed_alike draw (length (ps ++ qs)) (length ps) i ps (omega (arith, most, all)) most))
    ∙ firsts_followed draw k n m t (i + 1) now qs (omega (arith, e)) (omega (arith, f, long)) (inside_stays ps now clears inside)
    ∙ ap (λ (s : ℕ). with_links_followed_from draw s m (with_links_followed_from draw (i + 1) n now ++ qs)) here

seconds_followed : (draw : Drawing) → IsLocal draw → (m i : ℕ) (ps qs : List Position) → i + m ≡ length qs → AllLeadInside qs → with_links_followed_from draw (length ps + i) m (ps ++ qs) ≡ ps ++ with_links_followed_from draw i m qs
seconds_followed draw k zero i ps qs e inside = refl
seconds_followed draw k (suc m) i ps qs e inside =
    let now = with_link_followed draw (length qs) i qs in
    let clears = followed_clears draw k (length qs) i qs in
    let long = clears.long in
    let most = links_most qs in
    let all = length-append ps qs in
    let here : length ps + i + 1 ≡ length ps + (i + 1) = omega arith in
    ap (with_links_followed_from draw (length ps + i + 1) m)
    (followed_second draw k (length (ps ++ qs)) i ps qs inside ∙ ap (λ (xs : List Position). ps ++ xs) (followed_alike draw (length (ps ++ qs)) (length qs) i qs (omega (arith, most, all)) most))
    ∙ ap (λ (s : ℕ). with_links_followed_from draw s m (ps ++ now)) here ∙ seconds_followed draw k m (i + 1) ps now (omega (arith, e, long)) (inside_stays qs now clears inside)

from_clears : (draw : Drawing) → IsLocal draw → (n i : ℕ) (ps : List Position) → OnlyClears ps (with_links_followed_from draw i n ps)
from_clears draw k zero i ps = clears_none ps
from_clears draw k (suc n) i ps =
    let now = with_link_followed draw (length ps) i ps in
    clears_both ps now (with_links_followed_from draw (i + 1) n now) (followed_clears draw k (length ps) i ps) (from_clears draw k n (i + 1) now)

both_followed : (draw : Drawing) → IsLocal draw → (ps qs : List Position) → AllLeadInside ps → AllLeadInside qs → with_links_followed draw (ps ++ qs) ≡ with_links_followed draw ps ++ with_links_followed draw qs
both_followed draw k ps qs first second =
    let n = length ps in
    let m = length qs in
    let state_by = with_links_followed_from draw 0 n ps in
    let clears = from_clears draw k n 0 ps in
    let here : 0 + n ≡ length state_by + 0 = let long = clears.long in omega (arith, long) in
    firsts_followed draw k n m (length (ps ++ qs)) 0 ps qs (length-append ps qs) (omega arith) first
    ∙ ap (λ (s : ℕ). with_links_followed_from draw s m (state_by ++ qs)) here ∙ seconds_followed draw k m 0 state_by qs (omega arith) second

-- ---- how glyphs are drawn

slice_first : (from to : ℕ) (ps qs : List Position) → from ≤ length ps → to ≤ length ps → slice_range (ps ++ qs) from to ≡ slice_range ps from to
slice_first from to ps qs l m = ap (take (to - from)) (drop-append-le from ps qs l) ∙ take-append-le (to - from) (drop from ps) qs (let rest = length-drop from ps in omega (arith, rest, m))

slice_second : (from to : ℕ) (ps qs : List Position) → slice_range (ps ++ qs) (length ps + from) (length ps + to) ≡ slice_range qs from to
slice_second from to ps qs = let same : (length ps + to) - (length ps + from) ≡ to - from = omega arith in ap (λ (n : ℕ). take n (drop (length ps + from) (ps ++ qs))) same ∙ ap (take (to - from)) (drop-append-add ps qs from)

mark_first : (forward : Bool) (i j : ℕ) (ps qs : List Position) → i < length ps → j < length ps → mark_drawn forward i j (ps ++ qs) ≡ mark_drawn forward i j ps
mark_first true i j ps qs lt lt' =
    ap (λ (xs : List Position). fold back_over (offset_by (position_at j (ps ++ qs)) (position_at i (ps ++ qs))) xs) (slice_first j i ps qs (omega (arith, lt')) (omega (arith, lt)))
    ∙ ap (λ (q : Position). fold back_over (offset_by q (position_at i (ps ++ qs))) (slice_range ps j i)) (at_first j ps qs lt') ∙ ap (λ (p : Position). fold back_over (offset_by (position_at j ps) p) (slice_range ps j i)) (at_first i ps qs lt)
mark_first false i j ps qs lt lt' =
    ap (λ (xs : List Position). fold on_over (offset_by (position_at j (ps ++ qs)) (position_at i (ps ++ qs))) xs) (slice_first (j + 1) (i + 1) ps qs (omega (arith, lt')) (omega (arith, lt)))
    ∙ ap (λ (q : Position). fold on_over (offset_by q (position_at i (ps ++ qs))) (slice_range ps (j + 1) (i + 1))) (at_first j ps qs lt') ∙ ap (λ (p : Position). fold on_over (offset_by (position_at j ps) p) (slice_range ps (j + 1) (i + 1))) (at_first i ps qs lt)

mark_second : (forward : Bool) (i j : ℕ) (ps qs : List Position) → mark_drawn forward (length ps + i) (length ps + j) (ps ++ qs) ≡ mark_drawn forward i j qs
mark_second true i j ps qs =
    ap (λ (xs : List Position). fold back_over (offset_by (position_at (length ps + j) (ps ++ qs)) (position_at (length ps + i) (ps ++ qs))) xs) (slice_second j i ps qs)
    ∙ ap (λ (q : Position). fold back_over (offset_by q (position_at (length ps + i) (ps ++ qs))) (slice_range qs j i)) (at_second j ps qs) ∙ ap (λ (p : Position). fold back_over (offset_by (position_at j qs) p) (slice_range qs j i)) (at_second i ps qs)
mark_second false i j ps qs =
    let from : length ps + j + 1 ≡ length ps + (j + 1) = omega arith in
    let to : length ps + i + 1 ≡ length ps + (i + 1) = omega arith in
    ap (λ (n : ℕ). fold on_over (offset_by (position_at (length ps + j) (ps ++ qs)) (position_at (length ps + i) (ps ++ qs))) (slice_range (ps ++ qs) n (length ps + i + 1))) from
    ∙ ap (λ (n : ℕ). fold on_over (offset_by (position_at (length ps + j) (ps ++ qs)) (position_at (length ps + i) (ps ++ qs))) (slice_range (ps ++ qs) (length ps + (j + 1)) n)) to
    ∙ ap (λ (xs : List Position). fold on_over (offset_by (position_at (length ps + j) (ps ++ qs)) (position_at (length ps + i) (ps ++ qs))) xs) (slice_second (j + 1) (i + 1) ps qs)
    ∙ ap (λ (q : Position). fold on_over (offset_by q (position_at (length ps + i) (ps ++ qs))) (slice_range qs (j + 1) (i + 1))) (at_second j ps qs)
    ∙ ap (λ (p : Position). fold on_over (offset_by (position_at j qs) p) (slice_range qs (j + 1) (i + 1))) (at_second i ps qs)

drawn_is_local : (d : Direction) → IsLocal (drawn_position d)
drawn_is_local d = record {
  first = λ i j ps qs lt lt'.
      ap (λ (m : Position). if (position_at i (ps ++ qs)).attach_type == 2 then child_drawn (is_horizontal d) (position_at j (ps ++ qs)) (position_at i (ps ++ qs)) else m) (mark_first (is_forward d) i j ps qs lt lt')
      ∙ ap (λ (q : Position). if (position_at i (ps ++ qs)).attach_type == 2 then child_drawn (is_horizontal d) q (position_at i (ps ++ qs)) else mark_drawn (is_forward d) i j ps) (at_first j ps qs lt')
      ∙ ap (λ (p : Position). if p.attach_type == 2 then child_drawn (is_horizontal d) (position_at j ps) p else mark_drawn (is_forward d) i j ps) (at_first i ps qs lt);
  second = λ i j ps qs.
      ap (λ (m : Position). if (position_at (length ps + i) (ps ++ qs)).attach_type == 2 then child_drawn (is_horizontal d) (position_at (length ps + j) (ps ++ qs)) (position_at (length ps + i) (ps ++ qs)) else m) (mark_second (is_forward d) i j ps qs)
      ∙ ap (λ (q : Position). if (position_at (length ps + i) (ps ++ qs)).attach_type == 2 then child_drawn (is_horizontal d) q (position_at (length ps + i) (ps ++ qs)) else mark_drawn (is_forward d) i j qs) (at_second j ps qs)
      ∙ ap (λ (p : Position). if p.attach_type == 2 then child_drawn (is_horizontal d) (position_at j qs) p else mark_drawn (is_forward d) i j qs) (at_second i ps qs);
  chain = λ i j ps.
      elim ((position_at i ps).attach_type == 2) as (λ b. (if b then child_drawn (is_horizontal d) (position_at j ps) (position_at i ps) else mark_drawn (is_forward d) i j ps).attach_chain ≡ (position_at i ps).attach_chain)
      [ true ↦ child_chain (is_horizontal d) (position_at j ps) (position_at i ps) | false ↦ mark_chain (is_forward d) i j ps ];
}

-- ---- finished positions

kind_chain : (p : Position) → ((kind_tested p).attach_chain ≡ pos 0) ⊎ ((kind_tested p).attach_chain ≡ p.attach_chain)
kind_chain p = elim (has_kind p) as (λ b. ((if b then p else without_link p).attach_chain ≡ pos 0) ⊎ ((if b then p else without_link p).attach_chain ≡ p.attach_chain)) [ true ↦ inr refl | false ↦ inl refl ]

tested_clears : (ps : List Position) → OnlyClears ps (kinds_tested ps)
tested_clears ps = record {
  long = length-map ps kind_tested;
  chains = λ k.
      let same : (position_at k (kinds_tested ps)).attach_chain ≡ (kind_tested (position_at k ps)).attach_chain = ap (λ (p : Position). p.attach_chain) (get_or_mapped kind_tested ps k zero_position) in
      elim (kind_chain (position_at k ps)) [ inl none ↦ inl (same ∙ none) | inr old ↦ inr (same ∙ old) ];
}

-- the positions of two texts, one after the other, are finished each by themselves, where links lead inside
pub both_finished : (d : Direction) (ps qs : List Position) → AllLeadInside ps → AllLeadInside qs → finished_positions d (ps ++ qs) ≡ finished_positions d ps ++ finished_positions d qs
both_finished d ps qs first second =
    ap (with_links_followed (drawn_position d)) (map-append kind_tested ps qs)
    ∙ both_followed (drawn_position d) (drawn_is_local d) (kinds_tested ps) (kinds_tested qs) (inside_stays ps (kinds_tested ps) (tested_clears ps) first) (inside_stays qs (kinds_tested qs) (tested_clears qs) second)

tested_same : (ps : List Position) → AreUnlinked ps → kinds_tested ps ≡ ps
tested_same [] none = refl
tested_same (p ∷ ps) none = rw (one, tested_same ps (λ i. none (suc i))) refl
  where
    one : kind_tested p ≡ p
    one = elim (has_kind p) as (λ b. (if b then p else without_link p) ≡ p) [ true ↦ refl | false ↦ ap (λ z. record p { attach_chain = z }) (sym (none 0)) ]

unlinked_from : (draw : Drawing) (n i : ℕ) (ps : List Position) → AreUnlinked ps → with_links_followed_from draw i n ps ≡ ps
unlinked_from draw zero i ps none = refl
unlinked_from draw (suc n) i ps none = ap (with_links_followed_from draw (i + 1) n) (linkless_followed draw (length ps) i ps (none i)) ∙ unlinked_from draw n (i + 1) ps none

-- positions without links are finished
pub unlinked_finished : (d : Direction) (ps : List Position) → AreUnlinked ps → finished_positions d ps ≡ ps
unlinked_finished d ps none = ap (with_links_followed (drawn_position d)) (tested_same ps none) ∙ unlinked_from (drawn_position d) (length ps) 0 ps none
