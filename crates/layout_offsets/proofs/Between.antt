-- Offsets moved over the glyphs of a range, one after another.
use Rattle.std.proofs.Common.{ℕ, ◌≡◌, ◌≤◌, ◌<◌, ◌+◌, ◌-◌, suc, List, ◌∷◌, length, take, drop, arith, ap, sym, ◌∙◌}
use Rattle.std.specs.Prelude.{slice_range}
use Rattle.std.specs.List.{fold}
use Rattle.std.proofs.lemmas.List.{drop_more}
use Rattle.buffer_glyphs.specs.Items.{Position, zero_position}
use Rattle.layout_offsets.specs.Links.{position_at}

range_more : (i to : ℕ) (ps : List Position) → i < to → to ≤ length ps → slice_range ps i to ≡ position_at i ps ∷ slice_range ps (i + 1) to
range_more i to ps lt le =
    let e : to - i ≡ suc (to - (i + 1)) = omega (arith, lt) in
    ap (λ (n : ℕ). take n (drop i ps)) e ∙ ap (take (suc (to - (i + 1)))) (drop_more ps i zero_position (omega (arith, lt, le)))

pub between_next : (move : Position → Position → Position) (goal p q : Position) (i to : ℕ) (ps : List Position) → fold move p (slice_range ps i to) ≡ goal → i < to → to ≤ length ps → q ≡ move p (position_at i ps)
    → fold move q (slice_range ps (i + 1) to) ≡ goal
between_next move goal p q i to ps e lt le is =
    ap (λ (r : Position). fold move r (slice_range ps (i + 1) to)) is ∙ sym (ap (fold move p) (range_more i to ps lt le)) ∙ e

pub between_last : (move : Position → Position → Position) (goal p : Position) (i to : ℕ) (ps : List Position) → fold move p (slice_range ps i to) ≡ goal → to ≤ i → p ≡ goal
between_last move goal p i to ps e le =
    let none : to - i ≡ 0 = omega (arith, le) in
    sym (ap (λ (n : ℕ). fold move p (take n (drop i ps))) none) ∙ e
