-- Drawing among sums is drawing: the way between two glyphs is the sum of the advances between them.
use Rattle.std.proofs.Common.{ℕ, zero, suc, ℤ, pos, ◌+ℤ◌, ◌-ℤ◌, ◌≡◌, ◌≤◌, ◌<◌, ◌+◌, ◌-◌, ◌==◌, ◌&&◌, ◌||◌, nat_le, ◌⊎◌, inl, inr, Bool, true, false, if◌then◌else◌, List, [], ◌∷◌, Option, Some, None, length, map, set, take, drop, arith, refl, ap, sym, subst, ◌∙◌}
use Rattle.std.specs.Prelude.{slice_range, nat_lt, get_or}
use Rattle.std.specs.Int.{int_wrap, w32}
use Rattle.std.specs.List.{fold}
use Rattle.std.proofs.lemmas.Bool.Decides.{nat_tests, eqb_tells}
use Rattle.std.proofs.lemmas.Int.{ints, int_wrap-add_same, int_wrap-add_left, int_wrap-sub_right}
use Rattle.std.proofs.lemmas.List.{length-set}
use Rattle.buffer_glyphs.specs.Items.{Position, zero_position}
use Rattle.buffer_glyphs.proofs.Lists.{get_or_mapped}
use Rattle.buffer_common.specs.declared.direction.Direction.{Direction}
use Rattle.buffer_common.specs.Direction.{is_forward, is_horizontal}
use Rattle.layout_offsets.specs.declared.advance_sums.Pen.{Pen}
use Rattle.layout_offsets.specs.FollowedLinks.{with_link_cleared, plus, minus, offset_by, back_over, on_over, mark_drawn, child_drawn, drawn_position, has_kind, kind_tested, kinds_tested, with_child_drawn, with_parent_drawn, with_link_followed, with_links_followed_from, with_links_followed, finished_positions}
use Rattle.layout_offsets.specs.Links.{position_at, link_target, parent, without_link}
use Rattle.layout_offsets.specs.AdvanceSums.{Fits, AllFit, pen_down, pen_after, pen_of, pen_way, pen_before, with_pen, advance_sums_from, advance_sums, advances_of_sums_from, advances_of_sums, back_by, on_by, after_parent, mark_by_sums, drawn_by_sums}
use Rattle.layout_offsets.specs.Walks.{is_link, is_open, are_shut}
use Rattle.layout_offsets.specs.Trees.{only_advances}
use Rattle.layout_offsets.specs.Marks.{total}
use Rattle.layout_offsets.proofs.Lemmas.Linked.{linked_there}
use Rattle.layout_offsets.proofs.Going.{followed_step, followed_none}
use Rattle.layout_offsets.proofs.Shut.{unlinked_closed}
use Rattle.layout_offsets.proofs.Drawn.{drawn_advances}
use Rattle.layout_offsets.proofs.Totals.{pen_forward, fold_back, fold_on, twice}
use Rattle.layout_offsets.proofs.Kept.{same_length, followed_advances, finished_advances}

-- ---- sums in a list

-- the pen after glyphs
abbrev pens : Pen → List Position → Pen
pens p ps = fold pen_after p ps

summed_length : (p : Pen) (ps : List Position) → length (advance_sums_from p ps) ≡ length ps
summed_length p [] = refl
summed_length p (x ∷ xs) = ap suc (summed_length (pen_after p x) xs)

-- all but the advances stays
summed_rest : (p : Pen) (i : ℕ) (ps : List Position) → position_at i (advance_sums_from p ps) ≡ with_pen (pen_of (position_at i (advance_sums_from p ps))) (position_at i ps)
summed_rest p i [] = refl
summed_rest p zero (x ∷ xs) = refl
summed_rest p (suc i) (x ∷ xs) = summed_rest (pen_after p x) i xs

summed_pen : (p : Pen) (i : ℕ) (ps : List Position) → i < length ps → pen_of (position_at i (advance_sums_from p ps)) ≡ pens p (take (i + 1) ps)
summed_pen p i [] lt = absurd (omega (arith, lt))
summed_pen p zero (x ∷ xs) lt = refl
summed_pen p (suc i) (x ∷ xs) lt =
    let e : suc i + 1 ≡ suc (i + 1) = omega arith in
    summed_pen (pen_after p x) i xs (omega (arith, lt)) ∙ ap (λ (n : ℕ). pens p (take n (x ∷ xs))) (sym e)

summed_here : (i : ℕ) (ps : List Position) → i < length ps → position_at i (advance_sums ps) ≡ with_pen (pens pen_down (take (i + 1) ps)) (position_at i ps)
summed_here i ps lt = summed_rest pen_down i ps ∙ ap (λ (q : Pen). with_pen q (position_at i ps)) (summed_pen pen_down i ps lt)

-- the pen before a glyph
before_here : (i : ℕ) (ps : List Position) → i < length ps → pen_before i (advance_sums ps) ≡ pens pen_down (take i ps)
before_here i ps lt = elim (eqb_tells i 0) [
  | inl is ↦ ap (λ (b : Bool). if b then pen_down else pen_of (position_at (i - 1) (advance_sums ps))) is.0 ∙ ap (λ (n : ℕ). pens pen_down (take n ps)) (sym is.1)
  | inr other ↦
      let apart = other.1 in
      let e : i - 1 + 1 ≡ i = omega (arith, apart) in
      ap (λ (b : Bool). if b then pen_down else pen_of (position_at (i - 1) (advance_sums ps))) other.0 ∙ summed_pen pen_down (i - 1) ps (omega (arith, apart, lt)) ∙ ap (λ (n : ℕ). pens pen_down (take n ps)) e
]

set_summed : (p : Pen) (i : ℕ) (q : Position) (ps : List Position) → only_advances q ≡ only_advances (position_at i ps)
    → advance_sums_from p (set ps i q) ≡ set (advance_sums_from p ps) i (with_pen (pen_of (position_at i (advance_sums_from p ps))) q)
set_summed p i q [] e = refl
set_summed p zero q (x ∷ xs) e = ap (λ (a : Position). with_pen (pen_after p a) q ∷ advance_sums_from (pen_after p a) xs) e
set_summed p (suc i) q (x ∷ xs) e = ap (λ ys. with_pen (pen_after p x) x ∷ ys) (set_summed (pen_after p x) i q xs e)

unlinked_summed : (i : ℕ) (ps : List Position) → advance_sums (with_link_cleared i ps) ≡ with_link_cleared i (advance_sums ps)
unlinked_summed i ps = set_summed pen_down i (without_link (position_at i ps)) ps refl ∙ ap (λ (q : Position). set (advance_sums ps) i (without_link q)) (sym (summed_rest pen_down i ps))

parent_summed : (i : ℕ) (ps : List Position) → parent i (advance_sums ps) ≡ parent i ps
parent_summed i ps = ap (λ (n : ℕ). link_target n i (position_at i (advance_sums ps)).attach_chain) (summed_length pen_down ps) ∙ ap (λ (q : Position). link_target (length ps) i q.attach_chain) (summed_rest pen_down i ps)

-- ---- modulo 2^32

fold_pen : (v : Position → ℤ) (o : Pen → ℤ) → ((p : Pen) (r : Position) → o (pen_after p r) ≡ plus (o p) (v r)) → (p : Pen) (rs : List Position) → int_wrap w32 (o (pens p rs)) ≡ int_wrap w32 (o p +ℤ total v rs)
fold_pen v o step p [] = ap (int_wrap w32) (none_added (o p))
  where
    none_added : (a : ℤ) → a ≡ a +ℤ pos 0
    none_added a = grind (arith, ints)
fold_pen v o step p (r ∷ rs) =
    fold_pen v o step (pen_after p r) rs ∙ ap (λ (n : ℤ). int_wrap w32 (n +ℤ total v rs)) (step p r) ∙ int_wrap-add_left w32 (o p +ℤ v r) (total v rs) ∙ ap (int_wrap w32) (in_three (o p) (v r) (total v rs))
  where
    in_three : (a b c : ℤ) → (a +ℤ b) +ℤ c ≡ a +ℤ (b +ℤ c)
    in_three a b c = omega (arith, ints)

-- a sum from the beginning
from_down : (a t : ℤ) → int_wrap w32 a ≡ int_wrap w32 (pos 0 +ℤ t) → int_wrap w32 a ≡ int_wrap w32 t
from_down a t e = e ∙ ap (int_wrap w32) (none t)
  where
    none : (t : ℤ) → pos 0 +ℤ t ≡ t
    none t = grind (arith, ints)

minus_same : (a a' b b' : ℤ) → int_wrap w32 a ≡ int_wrap w32 a' → int_wrap w32 b ≡ int_wrap w32 b' → int_wrap w32 (a -ℤ b) ≡ int_wrap w32 (a' -ℤ b')
minus_same a a' b b' e f =
    sym (int_wrap-sub_right w32 a b) ∙ ap (λ (z : ℤ). int_wrap w32 (a -ℤ z)) f ∙ int_wrap-sub_right w32 a b' ∙ ap (int_wrap w32) (flip a b') ∙ int_wrap-add_same w32 a a' (pos 0 -ℤ b') e ∙ ap (int_wrap w32) (sym (flip a' b'))
  where
    flip : (a b : ℤ) → a -ℤ b ≡ a +ℤ (pos 0 -ℤ b)
    flip a b = omega (arith, ints)

-- the way between two sums is what lies between them
way_is : (t u s a b : ℤ) → int_wrap w32 a ≡ int_wrap w32 t → int_wrap w32 b ≡ int_wrap w32 u → t ≡ u +ℤ s → minus a b ≡ int_wrap w32 s
way_is t u s a b e f sum = minus_same a t b u e f ∙ ap (λ (z : ℤ). int_wrap w32 (z -ℤ u)) sum ∙ ap (int_wrap w32) (rest u s)
  where
    rest : (u s : ℤ) → (u +ℤ s) -ℤ u ≡ s
    rest u s = omega (arith, ints)

-- what is wrapped is so already
is_wrapped : (o : Position → ℤ) (f : Position → Position → Position) → ((p r : Position) → int_wrap w32 (o (f p r)) ≡ o (f p r)) → (p : Position) (rs : List Position) → int_wrap w32 (o p) ≡ o p → int_wrap w32 (o (fold f p rs)) ≡ o (fold f p rs)
is_wrapped o f step p [] e = e
is_wrapped o f step p (r ∷ rs) e = is_wrapped o f step (f p r) rs (step p r)

-- an offset that goes back over glyphs
back_is : (v o : Position → ℤ) → ((p r : Position) → o (back_over p r) ≡ minus (o p) (v r)) → (p : Position) (rs : List Position) (way : ℤ) → int_wrap w32 (o p) ≡ o p → way ≡ int_wrap w32 (total v rs) → o (fold back_over p rs) ≡ minus (o p) way
back_is v o step p rs way e is =
    let x = o (fold back_over p rs) in
    let t = total v rs in
    let whole : int_wrap w32 x ≡ x = is_wrapped o back_over (λ p r. ap (int_wrap w32) (step p r) ∙ twice (o p -ℤ v r) ∙ sym (step p r)) p rs e in
    sym whole ∙ ap (int_wrap w32) (again x t) ∙ minus_same (x +ℤ t) (o p) t way (fold_back v o step p rs) (sym (ap (int_wrap w32) is ∙ twice t))
  where
    again : (x t : ℤ) → x ≡ (x +ℤ t) -ℤ t
    again x t = omega (arith, ints)

-- and on
on_is : (v o : Position → ℤ) → ((p r : Position) → o (on_over p r) ≡ plus (o p) (v r)) → (p : Position) (rs : List Position) (way : ℤ) → int_wrap w32 (o p) ≡ o p → way ≡ int_wrap w32 (total v rs) → o (fold on_over p rs) ≡ plus (o p) way
on_is v o step p rs way e is =
    let x = o (fold on_over p rs) in
    let t = total v rs in
    let whole : int_wrap w32 x ≡ x = is_wrapped o on_over (λ p r. ap (int_wrap w32) (step p r) ∙ twice (o p +ℤ v r) ∙ sym (step p r)) p rs e in
    sym whole ∙ fold_on v o step p rs ∙ ap (int_wrap w32) (swap (o p) t) ∙ int_wrap-add_same w32 t way (o p) (sym (ap (int_wrap w32) is ∙ twice t)) ∙ ap (int_wrap w32) (swap way (o p))
  where
    swap : (a b : ℤ) → a +ℤ b ≡ b +ℤ a
    swap a b = grind (arith, ints)

-- ---- a mark

abbrev with_offsets : ℤ → ℤ → Position → Position
with_offsets x y p = record p { x_offset = x; y_offset = y }

back_offsets : (p : Position) (rs : List Position) → fold back_over p rs ≡ with_offsets (fold back_over p rs).x_offset (fold back_over p rs).y_offset p
back_offsets p [] = refl
back_offsets p (r ∷ rs) = back_offsets (back_over p r) rs

on_offsets : (p : Position) (rs : List Position) → fold on_over p rs ≡ with_offsets (fold on_over p rs).x_offset (fold on_over p rs).y_offset p
on_offsets p [] = refl
on_offsets p (r ∷ rs) = on_offsets (on_over p r) rs

nothing_between : (j i : ℕ) (ps : List Position) → i ≤ j → slice_range ps j i ≡ []
nothing_between j i ps le = let e : i - j ≡ 0 = omega (arith, le) in ap (λ (n : ℕ). take n (drop j ps)) e

-- the way between two glyphs, forward and backward, on one axis
forward_way : (v : Position → ℤ) (o : Pen → ℤ) → ((p : Pen) (r : Position) → o (pen_after p r) ≡ plus (o p) (v r)) → o pen_down ≡ pos 0 → (i j : ℕ) (ps : List Position) → j ≤ i
    → minus (o (pens pen_down (take i ps))) (o (pens pen_down (take j ps))) ≡ int_wrap w32 (total v (slice_range ps j i))
forward_way v o step down i j ps le =
    let at : (n : ℕ) → int_wrap w32 (o (pens pen_down (take n ps))) ≡ int_wrap w32 (total v (take n ps)) = λ n. from_down (o (pens pen_down (take n ps))) (total v (take n ps)) (fold_pen v o step pen_down (take n ps) ∙ ap (λ (z : ℤ). int_wrap w32 (z +ℤ total v (take n ps))) down) in
    way_is (total v (take i ps)) (total v (take j ps)) (total v (slice_range ps j i)) (o (pens pen_down (take i ps))) (o (pens pen_down (take j ps))) (at i) (at j) (pen_forward v i j ps le)

-- two sums of a list
abbrev sum_to : ℕ → List Position → Pen
sum_to n ps = pens pen_down (take n ps)

x_way : (i j : ℕ) (ps : List Position) → j ≤ i → (pen_way (sum_to j ps) (sum_to i ps)).x ≡ int_wrap w32 (total (λ (p : Position). p.x_advance) (slice_range ps j i))
x_way i j ps le = forward_way (λ (p : Position). p.x_advance) (λ (p : Pen). p.x) (λ p r. refl) refl i j ps le

y_way : (i j : ℕ) (ps : List Position) → j ≤ i → (pen_way (sum_to j ps) (sum_to i ps)).y ≡ int_wrap w32 (total (λ (p : Position). p.y_advance) (slice_range ps j i))
y_way i j ps le = forward_way (λ (p : Position). p.y_advance) (λ (p : Pen). p.y) (λ p r. refl) refl i j ps le

-- an offset over the glyphs between two is one by the way between them
back_by_way : (i j : ℕ) (ps : List Position) (p : Position) → j ≤ i → int_wrap w32 p.x_offset ≡ p.x_offset → int_wrap w32 p.y_offset ≡ p.y_offset
    → back_by (pen_way (sum_to j ps) (sum_to i ps)) p ≡ fold back_over p (slice_range ps j i)
back_by_way i j ps p le ex ey =
    let rs = slice_range ps j i in
    let way = pen_way (sum_to j ps) (sum_to i ps) in
    let x = back_is (λ (p : Position). p.x_advance) (λ (p : Position). p.x_offset) (λ p r. refl) p rs way.x ex (x_way i j ps le) in
    let y = back_is (λ (p : Position). p.y_advance) (λ (p : Position). p.y_offset) (λ p r. refl) p rs way.y ey (y_way i j ps le) in
    ap (λ (z : ℤ). with_offsets z (minus p.y_offset way.y) p) (sym x) ∙ ap (λ (z : ℤ). with_offsets (fold back_over p rs).x_offset z p) (sym y) ∙ sym (back_offsets p rs)

on_by_way : (i j : ℕ) (ps : List Position) (p : Position) → j ≤ i → int_wrap w32 p.x_offset ≡ p.x_offset → int_wrap w32 p.y_offset ≡ p.y_offset
    → on_by (pen_way (sum_to j ps) (sum_to i ps)) p ≡ fold on_over p (slice_range ps j i)
on_by_way i j ps p le ex ey =
    let rs = slice_range ps j i in
    let way = pen_way (sum_to j ps) (sum_to i ps) in
    let x = on_is (λ (p : Position). p.x_advance) (λ (p : Position). p.x_offset) (λ p r. refl) p rs way.x ex (x_way i j ps le) in
    let y = on_is (λ (p : Position). p.y_advance) (λ (p : Position). p.y_offset) (λ p r. refl) p rs way.y ey (y_way i j ps le) in
    ap (λ (z : ℤ). with_offsets z (plus p.y_offset way.y) p) (sym x) ∙ ap (λ (z : ℤ). with_offsets (fold on_over p rs).x_offset z p) (sym y) ∙ sym (on_offsets p rs)

offset_seen : (i j : ℕ) (ps : List Position) → i < length ps → j < length ps → offset_by (position_at j (advance_sums ps)) (position_at i (advance_sums ps)) ≡ with_pen (sum_to (i + 1) ps) (offset_by (position_at j ps) (position_at i ps))
offset_seen i j ps li lj = ap (λ (p : Position). offset_by (position_at j (advance_sums ps)) p) (summed_here i ps li) ∙ ap (λ (q : Position). offset_by q (with_pen (sum_to (i + 1) ps) (position_at i ps))) (summed_here j ps lj)

pen_here : (i : ℕ) (ps : List Position) → i < length ps → pen_of (position_at i (advance_sums ps)) ≡ sum_to (i + 1) ps
pen_here i ps lt = summed_pen pen_down i ps lt

later_seen : (forward : Bool) (i j : ℕ) (ps : List Position) → j < i → i < length ps → after_parent forward i j (advance_sums ps) ≡ with_pen (sum_to (i + 1) ps) (mark_drawn forward i j ps)
later_seen true i j ps lt li =
    let lj : j < length ps = omega (arith, lt, li) in
    let p = offset_by (position_at j ps) (position_at i ps) in
    ap (λ (r : Position). back_by (pen_way (pen_before j (advance_sums ps)) (pen_before i (advance_sums ps))) r) (offset_seen i j ps li lj)
    ∙ ap (λ (q : Pen). back_by (pen_way q (pen_before i (advance_sums ps))) (with_pen (sum_to (i + 1) ps) p)) (before_here j ps lj)
    ∙ ap (λ (q : Pen). back_by (pen_way (sum_to j ps) q) (with_pen (sum_to (i + 1) ps) p)) (before_here i ps li)
    ∙ ap (with_pen (sum_to (i + 1) ps)) (back_by_way i j ps p (omega (arith, lt)) (twice ((position_at i ps).x_offset +ℤ (position_at j ps).x_offset)) (twice ((position_at i ps).y_offset +ℤ (position_at j ps).y_offset)))
later_seen false i j ps lt li =
    let lj : j < length ps = omega (arith, lt, li) in
    let p = offset_by (position_at j ps) (position_at i ps) in
    ap (λ (r : Position). on_by (pen_way (pen_of (position_at j (advance_sums ps))) (pen_of (position_at i (advance_sums ps)))) r) (offset_seen i j ps li lj)
    ∙ ap (λ (q : Pen). on_by (pen_way q (pen_of (position_at i (advance_sums ps)))) (with_pen (sum_to (i + 1) ps) p)) (pen_here j ps lj)
    ∙ ap (λ (q : Pen). on_by (pen_way (sum_to (j + 1) ps) q) (with_pen (sum_to (i + 1) ps) p)) (pen_here i ps li)
    ∙ ap (with_pen (sum_to (i + 1) ps)) (on_by_way (i + 1) (j + 1) ps p (omega (arith, lt)) (twice ((position_at i ps).x_offset +ℤ (position_at j ps).x_offset)) (twice ((position_at i ps).y_offset +ℤ (position_at j ps).y_offset)))

-- a mark that is attached to a glyph after it
before_parent : (forward : Bool) (i j : ℕ) (ps : List Position) → i ≤ j → mark_drawn forward i j ps ≡ offset_by (position_at j ps) (position_at i ps)
before_parent true i j ps le = ap (λ rs. fold back_over (offset_by (position_at j ps) (position_at i ps)) rs) (nothing_between j i ps le)
before_parent false i j ps le = ap (λ rs. fold on_over (offset_by (position_at j ps) (position_at i ps)) rs) (nothing_between (j + 1) (i + 1) ps (omega (arith, le)))

mark_seen : (forward : Bool) (i j : ℕ) (ps : List Position) → i < length ps → j < length ps → mark_by_sums forward i j (advance_sums ps) ≡ with_pen (sum_to (i + 1) ps) (mark_drawn forward i j ps)
mark_seen forward i j ps li lj = elim (ltb_tells j i) [
  | inl is ↦ ap (λ (b : Bool). if b then after_parent forward i j (advance_sums ps) else offset_by (position_at j (advance_sums ps)) (position_at i (advance_sums ps))) is.0 ∙ later_seen forward i j ps is.1 li
  | inr other ↦ ap (λ (b : Bool). if b then after_parent forward i j (advance_sums ps) else offset_by (position_at j (advance_sums ps)) (position_at i (advance_sums ps))) other.0 ∙ offset_seen i j ps li lj ∙ ap (with_pen (sum_to (i + 1) ps)) (sym (before_parent forward i j ps other.1))
]
  where
    ltb_tells : (j i : ℕ) → ((nat_lt j i ≡ true) × (j < i)) ⊎ ((nat_lt j i ≡ false) × (i ≤ j))
    ltb_tells j i = by_less (nat_lt j i) refl
      where
        by_less : (b : Bool) → nat_lt j i ≡ b → ((nat_lt j i ≡ true) × (j < i)) ⊎ ((nat_lt j i ≡ false) × (i ≤ j))
        by_less true e = inl (e, grind (arith, nat_tests, e))
        by_less false e = inr (e, grind (arith, nat_tests, e))

child_seen : (across : Bool) (i j : ℕ) (ps : List Position) → i < length ps → j < length ps → child_drawn across (position_at j (advance_sums ps)) (position_at i (advance_sums ps)) ≡ with_pen (sum_to (i + 1) ps) (child_drawn across (position_at j ps) (position_at i ps))
child_seen true i j ps li lj = ap (λ (p : Position). child_drawn true (position_at j (advance_sums ps)) p) (summed_here i ps li) ∙ ap (λ (q : Position). child_drawn true q (with_pen (sum_to (i + 1) ps) (position_at i ps))) (summed_here j ps lj)
child_seen false i j ps li lj = ap (λ (p : Position). child_drawn false (position_at j (advance_sums ps)) p) (summed_here i ps li) ∙ ap (λ (q : Position). child_drawn false q (with_pen (sum_to (i + 1) ps) (position_at i ps))) (summed_here j ps lj)

drawn_seen : (d : Direction) (i j : ℕ) (ps : List Position) → i < length ps → j < length ps → drawn_by_sums d i j (advance_sums ps) ≡ with_pen (sum_to (i + 1) ps) (drawn_position d i j ps)
drawn_seen d i j ps li lj =
    ap (λ (p : Position). if p.attach_type == 2 then child_drawn (is_horizontal d) (position_at j (advance_sums ps)) (position_at i (advance_sums ps)) else mark_by_sums (is_forward d) i j (advance_sums ps)) (summed_here i ps li)
    ∙ by_kind ((position_at i ps).attach_type == 2)
  where
    by_kind : (b : Bool) → (if b then child_drawn (is_horizontal d) (position_at j (advance_sums ps)) (position_at i (advance_sums ps)) else mark_by_sums (is_forward d) i j (advance_sums ps))
        ≡ with_pen (sum_to (i + 1) ps) (if b then child_drawn (is_horizontal d) (position_at j ps) (position_at i ps) else mark_drawn (is_forward d) i j ps)
    by_kind true = child_seen (is_horizontal d) i j ps li lj
    by_kind false = mark_seen (is_forward d) i j ps li lj

hung_seen : (d : Direction) (i j : ℕ) (ps : List Position) → i < length ps → j < length ps → advance_sums (with_child_drawn (drawn_position d) i j ps) ≡ with_child_drawn (drawn_by_sums d) i j (advance_sums ps)
hung_seen d i j ps li lj =
    set_summed pen_down i (drawn_position d i j ps) ps (drawn_advances d i j ps)
    ∙ ap (λ (q : Pen). set (advance_sums ps) i (with_pen q (drawn_position d i j ps))) (pen_here i ps li)
    ∙ ap (λ (p : Position). set (advance_sums ps) i p) (sym (drawn_seen d i j ps li lj))

-- ---- all glyphs

-- a glyph that is attached to another is there
pub parent_within : (i j : ℕ) (ps : List Position) → parent i ps ≡ Some j → i < length ps
parent_within i j ps e = in_list ps i (λ none. absurd (let both : None ≡ Some j = sym (ap (link_target (length ps) i) (ap (λ (p : Position). p.attach_chain) none)) ∙ e in cc))
  where
    in_list : (xs : List Position) (k : ℕ) → (position_at k xs ≡ position_at 0 [] → ⊥) → k < length xs
    in_list [] k n = absurd (n refl)
    in_list (x ∷ xs) zero n = omega arith
    in_list (x ∷ xs) (suc k) n = let lt = in_list xs k n in omega (arith, lt)

followed_seen : (d : Direction) (fuel i : ℕ) (ps : List Position) → advance_sums (with_link_followed (drawn_position d) fuel i ps) ≡ with_link_followed (drawn_by_sums d) fuel i (advance_sums ps)
followed_seen d zero i ps = ap advance_sums (followed_none (drawn_position d) i ps) ∙ sym (followed_none (drawn_by_sums d) i (advance_sums ps))
followed_seen d (suc fuel) i ps =
    ap advance_sums (followed_step (drawn_position d) (suc fuel) fuel i ps refl) ∙ by_parent (parent i ps) refl (λ j qs. followed_seen d fuel j qs)
    ∙ ap (λ (o : Option ℕ). with_parent_drawn (drawn_by_sums d) (with_link_followed (drawn_by_sums d) fuel) i o (advance_sums ps)) (sym (parent_summed i ps)) ∙ sym (followed_step (drawn_by_sums d) (suc fuel) fuel i (advance_sums ps) refl)
  where
    by_parent : (o : Option ℕ) → parent i ps ≡ o → ((j : ℕ) (qs : List Position) → advance_sums (with_link_followed (drawn_position d) fuel j qs) ≡ with_link_followed (drawn_by_sums d) fuel j (advance_sums qs))
        → advance_sums (with_parent_drawn (drawn_position d) (with_link_followed (drawn_position d) fuel) i o ps) ≡ with_parent_drawn (drawn_by_sums d) (with_link_followed (drawn_by_sums d) fuel) i o (advance_sums ps)
    by_parent None e before = unlinked_summed i ps
    by_parent (Some j) e before =
        let now = with_link_followed (drawn_position d) fuel j (with_link_cleared i ps) in
        let len = same_length now (with_link_cleared i ps) (followed_advances d fuel j (with_link_cleared i ps)) in
        let len_set = length-set ps i (without_link (position_at i ps)) in
        let li = parent_within i j ps e in
        let lj = linked_there (length ps) i (position_at i ps).attach_chain j e in
        hung_seen d i j now (omega (arith, len, len_set, li)) (omega (arith, len, len_set, lj.0))
        ∙ ap (with_child_drawn (drawn_by_sums d) i j) (before j (with_link_cleared i ps) ∙ ap (with_link_followed (drawn_by_sums d) fuel j) (unlinked_summed i ps))

from_seen : (d : Direction) (n i : ℕ) (ps : List Position) → advance_sums (with_links_followed_from (drawn_position d) i n ps) ≡ with_links_followed_from (drawn_by_sums d) i n (advance_sums ps)
from_seen d zero i ps = refl
from_seen d (suc n) i ps =
    let now = with_link_followed (drawn_position d) (length ps) i ps in
    from_seen d n (i + 1) now ∙ ap (with_links_followed_from (drawn_by_sums d) (i + 1) n) (followed_seen d (length ps) i ps)
    ∙ ap (λ (m : ℕ). with_links_followed_from (drawn_by_sums d) (i + 1) n (with_link_followed (drawn_by_sums d) m i (advance_sums ps))) (sym (summed_length pen_down ps))

all_seen : (d : Direction) (ps : List Position) → advance_sums (with_links_followed (drawn_position d) ps) ≡ with_links_followed (drawn_by_sums d) (advance_sums ps)
all_seen d ps = from_seen d (length ps) 0 ps ∙ ap (λ (m : ℕ). with_links_followed_from (drawn_by_sums d) 0 m (advance_sums ps)) (sym (summed_length pen_down ps))

-- ---- taken apart again

first_advance : (a x : ℤ) → int_wrap w32 x ≡ x → minus (plus a x) a ≡ x
first_advance a x e = minus_same (plus a x) (a +ℤ x) a a (twice (a +ℤ x)) refl ∙ ap (int_wrap w32) (rest a x) ∙ e
  where
    rest : (a x : ℤ) → (a +ℤ x) -ℤ a ≡ x
    rest a x = omega (arith, ints)

apart_summed : (p : Pen) (ps : List Position) → AllFit ps → advances_of_sums_from p (advance_sums_from p ps) ≡ ps
apart_summed p [] fit = refl
apart_summed p (x ∷ xs) fit =
    let rest = advances_of_sums_from (pen_after p x) (advance_sums_from (pen_after p x) xs) in
    ap (λ (z : ℤ). record x { x_advance = z; y_advance = minus (plus p.y x.y_advance) p.y } ∷ rest) (first_advance p.x x.x_advance (fit 0).0)
    ∙ ap (λ (z : ℤ). record x { y_advance = z } ∷ rest) (first_advance p.y x.y_advance (fit 0).1)
    ∙ ap (λ ys. x ∷ ys) (apart_summed (pen_after p x) xs (λ k. fit (suc k)))

-- advances stay, so that they fit
fits_seen : (ps qs : List Position) → map only_advances qs ≡ map only_advances ps → AllFit ps → AllFit qs
fits_seen ps qs e fit k =
    let same : only_advances (position_at k qs) ≡ only_advances (position_at k ps) = sym (get_or_mapped only_advances qs k zero_position) ∙ ap (λ xs. get_or xs k zero_position) e ∙ get_or_mapped only_advances ps k zero_position in
    subst (λ (p : Position). Fits p) (sym same) (fit k)

pub finished_by_sums : (d : Direction) (ps qs rs ts : List Position) → AllFit ps → qs ≡ advance_sums (kinds_tested ps) → rs ≡ with_links_followed (drawn_by_sums d) qs → ts ≡ advances_of_sums rs → ts ≡ finished_positions d ps
finished_by_sums d ps qs rs ts fit e f g =
    g ∙ ap advances_of_sums (f ∙ ap (with_links_followed (drawn_by_sums d)) e ∙ sym (all_seen d (kinds_tested ps))) ∙ apart_summed pen_down (finished_positions d ps) (fits_seen ps (finished_positions d ps) (finished_advances d ps) fit)

-- ---- links of a kind alone

kind_is_small : (t : ℕ) → (t == 1 || t == 2) ≡ true → nat_le 128 t ≡ false
kind_is_small t e = grind (arith, nat_tests, e)

pub tested_closed : (p : Position) → is_open (kind_tested p) ≡ false
tested_closed p = by_kind (has_kind p) refl
  where
    by_kind : (b : Bool) → has_kind p ≡ b → is_open (if b then p else without_link p) ≡ false
    by_kind true e = ap (λ (c : Bool). c && is_link p.attach_chain) (kind_is_small p.attach_type e)
    by_kind false e = unlinked_closed p

pub summed_shut : (ps qs : List Position) → qs ≡ advance_sums (kinds_tested ps) → are_shut qs
summed_shut ps qs e k =
    ap (λ (xs : List Position). is_open (position_at k xs)) e ∙ ap is_open (summed_rest pen_down k (kinds_tested ps)) ∙ ap is_open (get_or_mapped kind_tested ps k zero_position) ∙ tested_closed (position_at k ps)
