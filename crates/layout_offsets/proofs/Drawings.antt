-- Both ways to draw a glyph leave its link alone, and read no links of others.
use Rattle.std.proofs.Common.{ℕ, ℤ, ◌≡◌, ◌+◌, ◌==◌, ◌&&◌, nat_le, Bool, true, false, if◌then◌else◌, List, [], ◌∷◌, map, refl, ap, ◌∙◌}
use Rattle.std.specs.Prelude.{slice_range}
use Rattle.std.specs.List.{fold}
use Rattle.buffer_glyphs.specs.Items.{Position}
use Rattle.buffer_common.specs.declared.direction.Direction.{Direction}
use Rattle.buffer_common.specs.Direction.{is_forward, is_horizontal}
use Rattle.layout_offsets.specs.FollowedLinks.{offset_by, back_over, on_over, mark_drawn, child_drawn, drawn_position}
use Rattle.layout_offsets.specs.Links.{position_at}
use Rattle.layout_offsets.specs.AdvanceSums.{drawing}
use Rattle.layout_offsets.specs.Trees.{only_advances}
use Rattle.layout_offsets.specs.Walks.{is_link, is_open, closed_link_if, closed_link, closed_links}
use Rattle.layout_offsets.proofs.Shut.{shut_at, shut_closed, both_shut, child_drawn_shut, hold_of, child_hold, IsDrawing, sums_drawing}
use Rattle.layout_offsets.proofs.Drawn.{range_same, mark_keeps}

advances_shut : (p : Position) → only_advances (closed_link p) ≡ only_advances p
advances_shut p = elim (is_open p) as (λ b. only_advances (closed_link_if b p) ≡ only_advances p) [ true ↦ refl | false ↦ refl ]

all_advances_shut : (ps : List Position) → map only_advances (closed_links ps) ≡ map only_advances ps
all_advances_shut [] = refl
all_advances_shut (p ∷ ps) = ap (λ (q : Position). q ∷ map only_advances (closed_links ps)) (advances_shut p) ∙ ap (λ qs. only_advances p ∷ qs) (all_advances_shut ps)

mark_shut : (forward : Bool) (i j : ℕ) (ps : List Position) → is_open (position_at i ps) ≡ false → mark_drawn forward i j (closed_links ps) ≡ mark_drawn forward i j ps
mark_shut true i j ps e =
    ap (λ (p : Position). fold back_over p (slice_range (closed_links ps) j i)) (both_shut i j ps e)
    ∙ range_same back_over (λ p r. refl) (offset_by (position_at j ps) (position_at i ps)) j i (closed_links ps) ps (all_advances_shut ps)
mark_shut false i j ps e =
    ap (λ (p : Position). fold on_over p (slice_range (closed_links ps) (j + 1) (i + 1))) (both_shut i j ps e)
    ∙ range_same on_over (λ p r. refl) (offset_by (position_at j ps) (position_at i ps)) (j + 1) (i + 1) (closed_links ps) ps (all_advances_shut ps)

abbrev by_kind : Direction → ℕ → ℕ → List Position → Bool → Position
by_kind d i j ps cursive = if cursive then child_drawn (is_horizontal d) (position_at j ps) (position_at i ps) else mark_drawn (is_forward d) i j ps

by_kind_shut : (d : Direction) (i j : ℕ) (ps : List Position) (cursive : Bool) → is_open (position_at i ps) ≡ false → by_kind d i j (closed_links ps) cursive ≡ by_kind d i j ps cursive
by_kind_shut d i j ps true e =
    ap (λ (q : Position). child_drawn (is_horizontal d) q (position_at i (closed_links ps))) (shut_at j ps) ∙ child_drawn_shut (is_horizontal d) (position_at i (closed_links ps)) (position_at j ps) ∙ ap (child_drawn (is_horizontal d) (position_at j ps)) (shut_at i ps ∙ shut_closed (position_at i ps) e)
by_kind_shut d i j ps false e = mark_shut (is_forward d) i j ps e

drawn_shut : (d : Direction) (i j : ℕ) (ps : List Position) → is_open (position_at i ps) ≡ false → drawn_position d i j (closed_links ps) ≡ drawn_position d i j ps
drawn_shut d i j ps e = ap (λ (p : Position). by_kind d i j (closed_links ps) (p.attach_type == 2)) (shut_at i ps ∙ shut_closed (position_at i ps) e) ∙ by_kind_shut d i j ps ((position_at i ps).attach_type == 2) e

hold_by : (d : Direction) (i j : ℕ) (ps : List Position) (cursive : Bool) → hold_of (by_kind d i j ps cursive) ≡ hold_of (position_at i ps)
hold_by d i j ps true = child_hold (is_horizontal d) (position_at j ps) (position_at i ps)
hold_by d i j ps false = mark_keeps hold_of (λ p q. refl) (λ p r. refl) (λ p r. refl) (is_forward d) i j ps

drawn_hold : (d : Direction) (i j : ℕ) (ps : List Position) → is_open (drawn_position d i j ps) ≡ is_open (position_at i ps)
drawn_hold d i j ps = ap (λ (h : ℕ × ℤ). nat_le 128 h.0 && is_link h.1) (hold_by d i j ps ((position_at i ps).attach_type == 2))

pub is_drawing : (by_sums : Bool) (d : Direction) → IsDrawing (drawing by_sums d)
is_drawing true d = sums_drawing d
is_drawing false d = record { hold = drawn_hold d; shut = drawn_shut d }
