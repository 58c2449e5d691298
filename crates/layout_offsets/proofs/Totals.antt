-- Marks at their recorded offsets.
use Rattle.std.proofs.Common.{ℕ, zero, suc, ℤ, pos, ◌+ℤ◌, ◌-ℤ◌, ◌≡◌, ◌≢◌, ◌≤◌, ◌<◌, ◌+◌, ◌-◌, ◌==◌, ◌||◌, inl, inr, Bool, true, false, if◌then◌else◌, List, [], ◌∷◌, ◌++◌, Some, None, length, map, set, take, drop, arith, refl, ap, sym, ◌∙◌}
use Rattle.std.specs.Prelude.{slice_range}
use Rattle.std.specs.Int.{int_wrap, w32}
use Rattle.std.specs.List.{fold}
use Rattle.std.proofs.lemmas.Bool.Decides.{eqb_tells}
use Rattle.std.proofs.lemmas.Int.{ints, int_wrap_fits, SFits-int_wrap, int_wrap-add_same}
use Rattle.std.proofs.lemmas.List.{take-append-drop, drop-drop, length-map}
use Rattle.buffer_glyphs.specs.Items.{Position, zero_position}
use Rattle.buffer_glyphs.proofs.Lists.{get_or_mapped}
use Rattle.buffer_glyphs.specs.Lemmas.Origins.{slice_seen}
use Rattle.buffer_common.specs.declared.direction.Direction.{Direction}
use Rattle.buffer_common.specs.Direction.{is_forward, is_horizontal}
use Rattle.layout_offsets.specs.FollowedLinks.{plus, minus, offset_by, back_over, on_over, mark_drawn, child_drawn, drawn_position, kind_tested, kinds_tested, with_links_followed, finished_positions}
use Rattle.layout_offsets.specs.Links.{position_at, parent, link_target, without_link}
use Rattle.layout_offsets.specs.Trees.{HaveDepths, only_advances, position_drawn_from}
use Rattle.layout_offsets.specs.Marks.{total, pen, drawn_x, drawn_y, IsDrawnFrom, MarksAreDrawn}
use Rattle.layout_offsets.proofs.Going.{elsewhere}
use Rattle.layout_offsets.proofs.Drawn.{each_is_drawn, drawn_advances, set_advances, position_here, hangs_on_other}

-- ---- sums

none_before : (a : ℤ) → a ≡ pos 0 +ℤ a
none_before a = grind (arith, ints)

in_three : (a b c : ℤ) → a +ℤ (b +ℤ c) ≡ (a +ℤ b) +ℤ c
in_three a b c = omega (arith, ints)

total_append : (v : Position → ℤ) (xs ys : List Position) → total v (xs ++ ys) ≡ total v xs +ℤ total v ys
total_append v [] ys = none_before (total v ys)
total_append v (x ∷ xs) ys = ap (λ (n : ℤ). v x +ℤ n) (total_append v xs ys) ∙ in_three (v x) (total v xs) (total v ys)

total_seen : (v : Position → ℤ) (w : Position → Position) → ((p : Position) → v (w p) ≡ v p) → (xs : List Position) → total v (map w xs) ≡ total v xs
total_seen v w same [] = refl
total_seen v w same (x ∷ xs) = ap (λ (n : ℤ). n +ℤ total v (map w xs)) (same x) ∙ ap (λ (n : ℤ). v x +ℤ n) (total_seen v w same xs)

none_taken : (m : ℕ) (xs : List Position) → length xs ≡ 0 → take m xs ≡ xs
none_taken zero [] e = refl
none_taken (suc m) [] e = refl
none_taken m (x ∷ xs) e = absurd (omega (arith, e))

take_more : (j n : ℕ) (xs : List Position) → take (j + n) xs ≡ take j xs ++ take n (drop j xs)
take_more zero n xs = let e : 0 + n ≡ n = omega arith in rw e refl
take_more (suc j) n [] = let e : suc j + n ≡ suc (j + n) = omega arith in rw e (sym (none_taken n [] refl))
take_more (suc j) n (x ∷ xs) = let e : suc j + n ≡ suc (j + n) = omega arith in rw e (ap (λ (ys : List Position). x ∷ ys) (take_more j n xs))

pub pen_forward : (v : Position → ℤ) (i j : ℕ) (xs : List Position) → j ≤ i → pen v true i xs ≡ pen v true j xs +ℤ total v (slice_range xs j i)
pen_forward v i j xs le =
    let e : i ≡ j + (i - j) = omega (arith, le) in
    ap (λ (n : ℕ). total v (take n xs)) e ∙ ap (total v) (take_more j (i - j) xs) ∙ total_append v (take j xs) (take (i - j) (drop j xs))

pub pen_backward : (v : Position → ℤ) (i j : ℕ) (xs : List Position) → j ≤ i → pen v false j xs ≡ total v (slice_range xs (j + 1) (i + 1)) +ℤ pen v false i xs
pen_backward v i j xs le =
    let n = i + 1 - (j + 1) in
    let rest = drop (j + 1) xs in
    let e : j + 1 + n ≡ i + 1 = omega (arith, le) in
    ap (total v) (sym (take-append-drop n rest)) ∙ total_append v (take n rest) (drop n rest) ∙ ap (λ (ys : List Position). total v (take n rest) +ℤ total v ys) (drop-drop n (j + 1) xs ∙ ap (λ (m : ℕ). drop m xs) e)

range_total : (v : Position → ℤ) → ((p : Position) → v (only_advances p) ≡ v p) → (from to : ℕ) (xs ys : List Position) → map only_advances xs ≡ map only_advances ys → total v (slice_range xs from to) ≡ total v (slice_range ys from to)
range_total v same from to xs ys e =
    sym (total_seen v only_advances same (slice_range xs from to)) ∙ ap (total v) (slice_seen only_advances from to xs ∙ ap (λ (zs : List Position). slice_range zs from to) e ∙ sym (slice_seen only_advances from to ys)) ∙ total_seen v only_advances same (slice_range ys from to)

-- ---- modulo 2^32

pub twice : (a : ℤ) → int_wrap w32 (int_wrap w32 a) ≡ int_wrap w32 a
twice a = int_wrap_fits w32 (int_wrap w32 a) (SFits-int_wrap w32 a)

swap_last : (x t a : ℤ) → x +ℤ (a +ℤ t) ≡ (x +ℤ t) +ℤ a
swap_last x t a = omega (arith, ints)

back_again : (x a : ℤ) → (x -ℤ a) +ℤ a ≡ x
back_again x a = grind (arith, ints)

-- the pen went back over glyphs
pub fold_back : (v o : Position → ℤ) → ((p r : Position) → o (back_over p r) ≡ minus (o p) (v r)) → (p : Position) (rs : List Position) → int_wrap w32 (o (fold back_over p rs) +ℤ total v rs) ≡ int_wrap w32 (o p)
fold_back v o step p [] = ap (int_wrap w32) (sym (none_before (o p) ∙ swap (pos 0) (o p)))
  where
    swap : (a b : ℤ) → a +ℤ b ≡ b +ℤ a
    swap a b = grind (arith, ints)
fold_back v o step p (r ∷ rs) =
    let x = o (fold back_over (back_over p r) rs) in
    let before = fold_back v o step (back_over p r) rs ∙ ap (int_wrap w32) (step p r) ∙ twice (o p -ℤ v r) in
    ap (int_wrap w32) (swap_last x (total v rs) (v r)) ∙ int_wrap-add_same w32 (x +ℤ total v rs) (o p -ℤ v r) (v r) before ∙ ap (int_wrap w32) (back_again (o p) (v r))

-- the pen went on over glyphs
pub fold_on : (v o : Position → ℤ) → ((p r : Position) → o (on_over p r) ≡ plus (o p) (v r)) → (p : Position) (rs : List Position) → int_wrap w32 (o (fold on_over p rs)) ≡ int_wrap w32 (o p +ℤ total v rs)
fold_on v o step p [] = ap (int_wrap w32) (none_added (o p))
  where
    none_added : (a : ℤ) → a ≡ a +ℤ pos 0
    none_added a = grind (arith, ints)
fold_on v o step p (r ∷ rs) =
    fold_on v o step (on_over p r) rs ∙ ap (λ (n : ℤ). int_wrap w32 (n +ℤ total v rs)) (step p r)
    ∙ int_wrap-add_same w32 (int_wrap w32 (o p +ℤ v r)) (o p +ℤ v r) (total v rs) (twice (o p +ℤ v r)) ∙ ap (int_wrap w32) (sym (in_three (o p) (v r) (total v rs)))

forward_sum : (b t x : ℤ) → (b +ℤ t) +ℤ x ≡ (x +ℤ t) +ℤ b
forward_sum b t x = omega (arith, ints)

forward_base : (b p q : ℤ) → (p +ℤ q) +ℤ b ≡ (b +ℤ q) +ℤ p
forward_base b p q = omega (arith, ints)

backward_sum : (a x : ℤ) → a +ℤ x ≡ x +ℤ a
backward_sum a x = grind (arith, ints)

backward_base : (a p q t : ℤ) → ((p +ℤ q) +ℤ t) +ℤ a ≡ ((t +ℤ a) +ℤ q) +ℤ p
backward_base a p q t = omega (arith, ints)

-- one axis: v reads its advance, o its offset
record IsAxis (v o : Position → ℤ) : Type 0 where
  alone : (p : Position) → v (only_advances p) ≡ v p
  base : (q p : Position) → o (offset_by q p) ≡ plus (o p) (o q)
  back : (p r : Position) → o (back_over p r) ≡ minus (o p) (v r)
  on : (p r : Position) → o (on_over p r) ≡ plus (o p) (v r)

-- a mark in a list of drawn glyphs
axis_drawn : (v o : Position → ℤ) → IsAxis v o → (forward : Bool) (i j : ℕ) (drawn list : List Position) → j < i → map only_advances list ≡ map only_advances drawn → position_at j list ≡ position_at j drawn
    → int_wrap w32 (pen v forward i drawn +ℤ o (mark_drawn forward i j list)) ≡ int_wrap w32 ((pen v forward j drawn +ℤ o (position_at j drawn)) +ℤ o (position_at i list))
axis_drawn v o axis true i j drawn list lt adv base =
    let p = position_at i list in
    let q = position_at j list in
    let b = pen v true j drawn in
    let t = total v (slice_range list j i) in
    let x = o (mark_drawn true i j list) in
    let pens : pen v true i drawn ≡ b +ℤ t = pen_forward v i j drawn (omega (arith, lt)) ∙ ap (λ (n : ℤ). b +ℤ n) (sym (range_total v axis.alone j i list drawn adv)) in
    let over = fold_back v o axis.back (offset_by q p) (slice_range list j i) ∙ ap (int_wrap w32) (axis.base q p) ∙ twice (o p +ℤ o q) in
    ap (λ (n : ℤ). int_wrap w32 (n +ℤ x)) pens ∙ ap (int_wrap w32) (forward_sum b t x) ∙ int_wrap-add_same w32 (x +ℤ t) (o p +ℤ o q) b over ∙ ap (int_wrap w32) (forward_base b (o p) (o q)) ∙ ap (λ (r : Position). int_wrap w32 ((b +ℤ o r) +ℤ o p)) base
axis_drawn v o axis false i j drawn list lt adv base =
    let p = position_at i list in
    let q = position_at j list in
    let a = pen v false i drawn in
    let t = total v (slice_range list (j + 1) (i + 1)) in
    let x = o (mark_drawn false i j list) in
    let pens : t +ℤ a ≡ pen v false j drawn = sym (pen_backward v i j drawn (omega (arith, lt)) ∙ ap (λ (n : ℤ). n +ℤ a) (sym (range_total v axis.alone (j + 1) (i + 1) list drawn adv))) in
    let over : int_wrap w32 x ≡ int_wrap w32 ((o p +ℤ o q) +ℤ t) =
    fold_on v o axis.on (offset_by q p) (slice_range list (j + 1) (i + 1)) ∙ ap (λ (n : ℤ). int_wrap w32 (n +ℤ t)) (axis.base q p) ∙ int_wrap-add_same w32 (int_wrap w32 (o p +ℤ o q)) (o p +ℤ o q) t (twice (o p +ℤ o q)) in
    ap (int_wrap w32) (backward_sum a x) ∙ int_wrap-add_same w32 x ((o p +ℤ o q) +ℤ t) a over ∙ ap (int_wrap w32) (backward_base a (o p) (o q) t) ∙ ap (λ (n : ℤ). int_wrap w32 ((n +ℤ o q) +ℤ o p)) pens ∙ ap (λ (r : Position). int_wrap w32 ((pen v false j drawn +ℤ o r) +ℤ o p)) base

not_cursive : (d : Direction) (i j : ℕ) (ps : List Position) → (position_at i ps).attach_type ≢ 2 → drawn_position d i j ps ≡ mark_drawn (is_forward d) i j ps
not_cursive d i j ps n = elim (eqb_tells (position_at i ps).attach_type 2) [
  | inl is ↦ absurd (n is.1)
  | inr other ↦ ap (λ (b : Bool). if b then child_drawn (is_horizontal d) (position_at j ps) (position_at i ps) else mark_drawn (is_forward d) i j ps) other.0
]

-- a glyph that is attached to another is there
parent_within : (i j : ℕ) (ps : List Position) → parent i ps ≡ Some j → j < i → i < length ps
parent_within i j ps e lt = in_list ps i (λ none. absurd (let both : None ≡ Some j = sym (ap (link_target (length ps) i) (ap (λ (p : Position). p.attach_chain) none)) ∙ e in cc))
  where
    in_list : (xs : List Position) (k : ℕ) → (position_at k xs ≡ position_at 0 [] → ⊥) → k < length xs
    in_list [] k n = absurd (n refl)
    in_list (x ∷ xs) zero n = omega arith
    in_list (x ∷ xs) (suc k) n = let lt = in_list xs k n in omega (arith, lt)

each_mark_is_drawn : (d : Direction) (depth : ℕ → ℕ) (ps : List Position) → HaveDepths depth ps → (i j : ℕ) → parent i ps ≡ Some j → (position_at i ps).attach_type ≢ 2 → j < i → IsDrawnFrom d ps (with_links_followed (drawn_position d) ps) i j
each_mark_is_drawn d depth ps have i j e kind lt =
    let new = with_links_followed (drawn_position d) ps in
    let all = each_is_drawn d depth ps have in
    let r = without_link (position_at i ps) in
    let list = set new i r in
    let long = all.long in
    let within = parent_within i j ps e lt in
    let within_new : i < length new = omega (arith, long, within) in
    let here : position_at i list ≡ r = position_here i r new within_new in
    let is_final : position_at i new ≡ drawn_position d i j list = all.each i within ∙ ap (position_drawn_from d ps new i) e in
    let kind_list : (position_at i list).attach_type ≢ 2 = λ is. kind (sym (ap (λ (p : Position). p.attach_type) here) ∙ is) in
    let is_mark : position_at i new ≡ mark_drawn (is_forward d) i j list = is_final ∙ not_cursive d i j list kind_list in
    let other : j ≢ i = hangs_on_other depth ps have i j e in
    let base : position_at j list ≡ position_at j new = elsewhere i j r new other in
    let adv : map only_advances list ≡ map only_advances new = set_advances i r new (sym (ap only_advances is_final ∙ drawn_advances d i j list ∙ ap only_advances here)) in
    let x_axis : IsAxis (λ (p : Position). p.x_advance) (λ (p : Position). p.x_offset) = record { alone = λ p. refl; base = λ q p. refl; back = λ p r. refl; on = λ p r. refl } in
    let y_axis : IsAxis (λ (p : Position). p.y_advance) (λ (p : Position). p.y_offset) = record { alone = λ p. refl; base = λ q p. refl; back = λ p r. refl; on = λ p r. refl } in
    record {
      x = ap (λ (p : Position). int_wrap w32 (pen (λ (p : Position). p.x_advance) (is_forward d) i new +ℤ p.x_offset)) is_mark ∙ axis_drawn (λ (p : Position). p.x_advance) (λ (p : Position). p.x_offset) x_axis (is_forward d) i j new list lt adv base
          ∙ ap (λ (p : Position). int_wrap w32 (drawn_x d j new +ℤ p.x_offset)) here;
      y = ap (λ (p : Position). int_wrap w32 (pen (λ (p : Position). p.y_advance) (is_forward d) i new +ℤ p.y_offset)) is_mark ∙ axis_drawn (λ (p : Position). p.y_advance) (λ (p : Position). p.y_offset) y_axis (is_forward d) i j new list lt adv base
          ∙ ap (λ (p : Position). int_wrap w32 (drawn_y d j new +ℤ p.y_offset)) here;
    }

-- ---- links of no kind

mark_tested : (p : Position) → p.attach_type ≡ 1 → kind_tested p ≡ p
mark_tested p e = ap (λ (t : ℕ). if t == 1 || t == 2 then p else without_link p) e

tested_at : (i : ℕ) (ps : List Position) → position_at i (kinds_tested ps) ≡ kind_tested (position_at i ps)
tested_at i ps = get_or_mapped kind_tested ps i zero_position

pub marks_are_drawn : MarksAreDrawn
marks_are_drawn d depth ps have i j e kind lt =
    let same : position_at i (kinds_tested ps) ≡ position_at i ps = tested_at i ps ∙ mark_tested (position_at i ps) kind in
    let linked_same : parent i (kinds_tested ps) ≡ parent i ps = ap (λ (n : ℕ). link_target n i (position_at i (kinds_tested ps)).attach_chain) (length-map ps kind_tested) ∙ ap (λ (p : Position). link_target (length ps) i p.attach_chain) same in
    let k = kind in
    let other : (position_at i (kinds_tested ps)).attach_type ≢ 2 = λ is. let f = ap (λ (p : Position). p.attach_type) same in absurd (omega (arith, k, is, f)) in
    let there = each_mark_is_drawn d depth (kinds_tested ps) have i j (linked_same ∙ e) other lt in
    let new = finished_positions d ps in
    record {
      x = there.x ∙ ap (λ (p : Position). int_wrap w32 (drawn_x d j new +ℤ p.x_offset)) same;
      y = there.y ∙ ap (λ (p : Position). int_wrap w32 (drawn_y d j new +ℤ p.y_offset)) same;
    }
