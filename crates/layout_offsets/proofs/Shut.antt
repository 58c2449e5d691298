-- Positions seen as they are once a walk's links are taken out.
use Rattle.std.proofs.Common.{ℕ, ℤ, pos, ◌≡◌, ◌+◌, ◌-◌, ◌==◌, Bool, true, false, nat_le, ◌&&◌, if◌then◌else◌, List, None, length, set, arith, refl, ap, sym, ◌∙◌}
use Rattle.std.specs.Prelude.{nat_lt}
use Rattle.std.proofs.lemmas.Bool.Decides.{nat_tests}
use Rattle.std.proofs.lemmas.List.{length-map, map-set, set-get_or}
use Rattle.buffer_glyphs.specs.Items.{Position, zero_position}
use Rattle.buffer_glyphs.proofs.Lists.{get_or_mapped}
use Rattle.buffer_common.specs.declared.direction.Direction.{Direction}
use Rattle.buffer_common.specs.Direction.{is_forward, is_horizontal}
use Rattle.layout_offsets.specs.FollowedLinks.{Drawing, with_link_cleared, offset_by, child_drawn, with_child_drawn}
use Rattle.layout_offsets.specs.Links.{position_at, link_target, parent, without_link}
use Rattle.layout_offsets.specs.AdvanceSums.{pen_down, pen_of, pen_way, pen_before, back_by, on_by, after_parent, mark_by_sums, drawn_by_sums}
use Rattle.layout_offsets.specs.declared.advance_sums.Pen.{Pen}
use Rattle.layout_offsets.specs.Walks.{is_link, is_open, opened_link, closed_link_if, closed_link, closed_links}

pub shut_at : (k : ℕ) (ps : List Position) → position_at k (closed_links ps) ≡ closed_link (position_at k ps)
shut_at k ps = get_or_mapped closed_link ps k zero_position

pub shut_closed : (p : Position) → is_open p ≡ false → closed_link p ≡ p
shut_closed p e = ap (λ (b : Bool). closed_link_if b p) e

opened_is_open : (t : ℕ) → nat_le 128 (t + 128) ≡ true
opened_is_open t = grind (arith, nat_tests)

pub open_opened : (by : ℤ) (p : Position) → is_link by ≡ true → is_open (opened_link by p) ≡ true
open_opened by p moves = ap (λ (b : Bool). b && is_link by) (opened_is_open p.attach_type) ∙ moves

back_again : (t : ℕ) → t + 128 - 128 ≡ t
back_again t = omega arith

pub shut_opened : (by : ℤ) (p : Position) → is_link by ≡ true → closed_link (opened_link by p) ≡ without_link p
shut_opened by p moves = ap (λ (b : Bool). closed_link_if b (opened_link by p)) (open_opened by p moves) ∙ ap (λ (t : ℕ). record p { attach_chain = pos 0; attach_type = t }) (back_again p.attach_type)

-- a glyph that is linked to nothing stays
pub parent_shut : (at : ℕ) (ps : List Position) → is_open (position_at at ps) ≡ false → parent at (closed_links ps) ≡ parent at ps
parent_shut at ps e = ap (λ (n : ℕ). link_target n at (position_at at (closed_links ps)).attach_chain) (length-map ps closed_link) ∙ ap (λ (p : Position). link_target (length ps) at p.attach_chain) (shut_at at ps ∙ shut_closed (position_at at ps) e)

pub parent_open : (at : ℕ) (ps : List Position) → is_open (position_at at ps) ≡ true → parent at (closed_links ps) ≡ None
parent_open at ps e = ap (λ (p : Position). link_target (length (closed_links ps)) at p.attach_chain) (shut_at at ps ∙ ap (λ (b : Bool). closed_link_if b (position_at at ps)) e)

-- a glyph without a link has none to clear
pub unlinked_open : (at : ℕ) (ps : List Position) → is_open (position_at at ps) ≡ true → with_link_cleared at (closed_links ps) ≡ closed_links ps
unlinked_open at ps e =
    let is : position_at at (closed_links ps) ≡ closed_link_if true (position_at at ps) = shut_at at ps ∙ ap (λ (b : Bool). closed_link_if b (position_at at ps)) e in
    let same : without_link (position_at at (closed_links ps)) ≡ position_at at (closed_links ps) = ap without_link is ∙ sym is in
    ap (λ (p : Position). set (closed_links ps) at p) same ∙ set-get_or (closed_links ps) at zero_position

pub unlinked_closed : (p : Position) → is_open (without_link p) ≡ false
unlinked_closed p = elim (nat_le 128 p.attach_type) as (λ b. (b && false) ≡ false) [ true ↦ refl | false ↦ refl ]

pub unlinked_shut : (at : ℕ) (ps : List Position) → is_open (position_at at ps) ≡ false → closed_links (with_link_cleared at ps) ≡ with_link_cleared at (closed_links ps)
unlinked_shut at ps e =
    let p = position_at at ps in
    map-set closed_link ps at (without_link p) ∙ ap (λ (q : Position). set (closed_links ps) at q) (shut_closed (without_link p) (unlinked_closed p) ∙ ap without_link (sym (shut_at at ps ∙ shut_closed p e)))

pub opened_shut : (at : ℕ) (by : ℤ) (ps : List Position) → is_link by ≡ true → is_open (position_at at ps) ≡ false → closed_links (set ps at (opened_link by (position_at at ps))) ≡ with_link_cleared at (closed_links ps)
opened_shut at by ps moves e =
    let p = position_at at ps in
    map-set closed_link ps at (opened_link by p) ∙ ap (λ (q : Position). set (closed_links ps) at q) (shut_opened by p moves ∙ ap without_link (sym (shut_at at ps ∙ shut_closed p e)))

-- ---- what is drawn does not read kinds and links of others

x_offset_shut : (p : Position) → (closed_link p).x_offset ≡ p.x_offset
x_offset_shut p = elim (is_open p) as (λ b. (closed_link_if b p).x_offset ≡ p.x_offset) [ true ↦ refl | false ↦ refl ]

y_offset_shut : (p : Position) → (closed_link p).y_offset ≡ p.y_offset
y_offset_shut p = elim (is_open p) as (λ b. (closed_link_if b p).y_offset ≡ p.y_offset) [ true ↦ refl | false ↦ refl ]

pen_shut : (p : Position) → pen_of (closed_link p) ≡ pen_of p
pen_shut p = elim (is_open p) as (λ b. pen_of (closed_link_if b p) ≡ pen_of p) [ true ↦ refl | false ↦ refl ]

offset_by_shut : (p q : Position) → offset_by (closed_link q) p ≡ offset_by q p
offset_by_shut p q = elim (is_open q) as (λ b. offset_by (closed_link_if b q) p ≡ offset_by q p) [ true ↦ refl | false ↦ refl ]

pub child_drawn_shut : (across : Bool) (p q : Position) → child_drawn across (closed_link q) p ≡ child_drawn across q p
child_drawn_shut true p q = ap (λ (y : ℤ). child_drawn true (record q { y_offset = y }) p) (y_offset_shut q)
child_drawn_shut false p q = ap (λ (x : ℤ). child_drawn false (record q { x_offset = x }) p) (x_offset_shut q)

pub both_shut : (i j : ℕ) (ps : List Position) → is_open (position_at i ps) ≡ false → offset_by (position_at j (closed_links ps)) (position_at i (closed_links ps)) ≡ offset_by (position_at j ps) (position_at i ps)
both_shut i j ps e =
    ap (λ (q : Position). offset_by q (position_at i (closed_links ps))) (shut_at j ps) ∙ offset_by_shut (position_at i (closed_links ps)) (position_at j ps) ∙ ap (offset_by (position_at j ps)) (shut_at i ps ∙ shut_closed (position_at i ps) e)

pen_at_shut : (i : ℕ) (ps : List Position) → pen_of (position_at i (closed_links ps)) ≡ pen_of (position_at i ps)
pen_at_shut i ps = ap pen_of (shut_at i ps) ∙ pen_shut (position_at i ps)

pen_before_shut : (i : ℕ) (ps : List Position) → pen_before i (closed_links ps) ≡ pen_before i ps
pen_before_shut i ps = ap (λ (pen : Pen). if i == 0 then pen_down else pen) (pen_at_shut (i - 1) ps)

after_shut : (forward : Bool) (i j : ℕ) (ps : List Position) → is_open (position_at i ps) ≡ false → after_parent forward i j (closed_links ps) ≡ after_parent forward i j ps
after_shut true i j ps e =
    let base = offset_by (position_at j ps) (position_at i ps) in
    ap (λ (p : Position). back_by (pen_way (pen_before j (closed_links ps)) (pen_before i (closed_links ps))) p) (both_shut i j ps e)
    ∙ ap (λ (pen : Pen). back_by (pen_way pen (pen_before i (closed_links ps))) base) (pen_before_shut j ps) ∙ ap (λ (pen : Pen). back_by (pen_way (pen_before j ps) pen) base) (pen_before_shut i ps)
after_shut false i j ps e =
    let base = offset_by (position_at j ps) (position_at i ps) in
    ap (λ (p : Position). on_by (pen_way (pen_of (position_at j (closed_links ps))) (pen_of (position_at i (closed_links ps)))) p) (both_shut i j ps e)
    ∙ ap (λ (pen : Pen). on_by (pen_way pen (pen_of (position_at i (closed_links ps)))) base) (pen_at_shut j ps) ∙ ap (λ (pen : Pen). on_by (pen_way (pen_of (position_at j ps)) pen) base) (pen_at_shut i ps)

mark_by_sums_shut : (forward : Bool) (i j : ℕ) (ps : List Position) → is_open (position_at i ps) ≡ false → mark_by_sums forward i j (closed_links ps) ≡ mark_by_sums forward i j ps
mark_by_sums_shut forward i j ps e =
    ap (λ (p : Position). if nat_lt j i then p else offset_by (position_at j (closed_links ps)) (position_at i (closed_links ps))) (after_shut forward i j ps e)
    ∙ ap (λ (p : Position). if nat_lt j i then after_parent forward i j ps else p) (both_shut i j ps e)

abbrev by_kind : Direction → ℕ → ℕ → List Position → Bool → Position
by_kind d i j ps cursive = if cursive then child_drawn (is_horizontal d) (position_at j ps) (position_at i ps) else mark_by_sums (is_forward d) i j ps

by_kind_shut : (d : Direction) (i j : ℕ) (ps : List Position) (cursive : Bool) → is_open (position_at i ps) ≡ false → by_kind d i j (closed_links ps) cursive ≡ by_kind d i j ps cursive
by_kind_shut d i j ps true e =
    ap (λ (q : Position). child_drawn (is_horizontal d) q (position_at i (closed_links ps))) (shut_at j ps) ∙ child_drawn_shut (is_horizontal d) (position_at i (closed_links ps)) (position_at j ps) ∙ ap (child_drawn (is_horizontal d) (position_at j ps)) (shut_at i ps ∙ shut_closed (position_at i ps) e)
by_kind_shut d i j ps false e = mark_by_sums_shut (is_forward d) i j ps e

drawn_shut : (d : Direction) (i j : ℕ) (ps : List Position) → is_open (position_at i ps) ≡ false → drawn_by_sums d i j (closed_links ps) ≡ drawn_by_sums d i j ps
drawn_shut d i j ps e = ap (λ (p : Position). by_kind d i j (closed_links ps) (p.attach_type == 2)) (shut_at i ps ∙ shut_closed (position_at i ps) e) ∙ by_kind_shut d i j ps ((position_at i ps).attach_type == 2) e

-- ---- a drawn glyph keeps its kind and link

-- what tells whether a walk came through
abbrev pub hold_of : Position → ℕ × ℤ
hold_of p = (p.attach_type, p.attach_chain)

after_hold : (forward : Bool) (i j : ℕ) (ps : List Position) → hold_of (after_parent forward i j ps) ≡ hold_of (position_at i ps)
after_hold true i j ps = refl
after_hold false i j ps = refl

mark_hold : (forward : Bool) (i j : ℕ) (ps : List Position) → hold_of (mark_by_sums forward i j ps) ≡ hold_of (position_at i ps)
mark_hold forward i j ps = elim (nat_lt j i) as (λ b. hold_of (if b then after_parent forward i j ps else offset_by (position_at j ps) (position_at i ps)) ≡ hold_of (position_at i ps)) [ true ↦ after_hold forward i j ps | false ↦ refl ]

pub child_hold : (across : Bool) (q p : Position) → hold_of (child_drawn across q p) ≡ hold_of p
child_hold true q p = refl
child_hold false q p = refl

hold_by : (d : Direction) (i j : ℕ) (ps : List Position) (cursive : Bool) → hold_of (by_kind d i j ps cursive) ≡ hold_of (position_at i ps)
hold_by d i j ps true = child_hold (is_horizontal d) (position_at j ps) (position_at i ps)
hold_by d i j ps false = mark_hold (is_forward d) i j ps

drawn_hold : (d : Direction) (i j : ℕ) (ps : List Position) → is_open (drawn_by_sums d i j ps) ≡ is_open (position_at i ps)
drawn_hold d i j ps = ap (λ (h : ℕ × ℤ). nat_le 128 h.0 && is_link h.1) (hold_by d i j ps ((position_at i ps).attach_type == 2))

-- ---- a way to draw that leaves links alone

-- a drawn glyph is open as it was, and a glyph that is not open is drawn alike once the others are shut
pub record IsDrawing (draw : Drawing) : Type 0 where
  pub hold : (i j : ℕ) (ps : List Position) → is_open (draw i j ps) ≡ is_open (position_at i ps)
  pub shut : (i j : ℕ) (ps : List Position) → is_open (position_at i ps) ≡ false → draw i j (closed_links ps) ≡ draw i j ps

pub hung_shut : (draw : Drawing) → IsDrawing draw → (i j : ℕ) (ps : List Position) → is_open (position_at i ps) ≡ false → closed_links (with_child_drawn draw i j ps) ≡ with_child_drawn draw i j (closed_links ps)
hung_shut draw is i j ps e =
    map-set closed_link ps i (draw i j ps) ∙ ap (λ (p : Position). set (closed_links ps) i p) (shut_closed (draw i j ps) (is.hold i j ps ∙ e) ∙ sym (is.shut i j ps e))

pub sums_drawing : (d : Direction) → IsDrawing (drawn_by_sums d)
sums_drawing d = record { hold = drawn_hold d; shut = drawn_shut d }
