-- Positions of tiles that are laid one after another, from right to left.
use Rattle.std.proofs.Common.{ℕ, ℤ, suc, ◌≡◌, ◌<◌, ◌+◌, List, [], ◌∷◌, ◌++◌, Option, length, drop, get_or, sym, ap, ◌∙◌, append_assoc, arith}
use Rattle.std.specs.Prelude.{reverse}
use Rattle.std.specs.Int.{int_wrap, w32}
use Rattle.std.proofs.lemmas.List.{drop_more, reverse-append}
use Rattle.buffer_glyphs.specs.Items.{Position}
use Rattle.script_arabic.specs.declared.tile.Tile.{Tile}
use Rattle.script_arabic.specs.TilePositions.{begin, begins_at, copy_positions, copy_begin, all_positions, tile_positions, tile_at}

-- one copy more
pub next_laid : (p q : Position) (t : Tile) (at : ℤ) (n : ℕ) (out before new : List Position) → before ≡ out ++ reverse (copy_positions p t at n) → q ≡ tile_at p (copy_begin t at (n + 1)) → new ≡ before ++ q ∷ [] → new ≡ out ++ reverse (copy_positions p t at (n + 1))
next_laid p q t at n out before new h e f =
    let one : n + 1 ≡ suc n = omega arith in
    let now = tile_at p (copy_begin t at (suc n)) in
    f ∙ ap (λ r. before ++ r ∷ []) (e ∙ ap (λ m. tile_at p (copy_begin t at m)) one) ∙ ap (λ qs. qs ++ now ∷ []) h
    ∙ append_assoc out (reverse (copy_positions p t at n)) (now ∷ [])
    ∙ ap (λ qs. out ++ qs) (sym (reverse-append (now ∷ []) (copy_positions p t at n)))
    ∙ ap (λ m. out ++ reverse (copy_positions p t at m)) (sym one)

-- the positions of the glyphs from an index on, from the last to the first, and where they begin
pub record ArePlaced (ps : List Position) (ts : List (Option Tile)) (at : ℕ) (x : ℤ) (laid_positions : List Position) : Type 0 where
  pub positions_are : laid_positions ≡ reverse (all_positions (drop at ps) (drop at ts))
  pub begins : x ≡ int_wrap w32 (begin (drop at ts))

laid_more : (ps : List Position) (ts : List (Option Tile)) (at : ℕ) (d : Position) (e : Option Tile) → at < length ts → length ps ≡ length ts
    → all_positions (drop at ps) (drop at ts) ≡ tile_positions (get_or ps at d) (get_or ts at e) (begin (drop (at + 1) ts)) ++ all_positions (drop (at + 1) ps) (drop (at + 1) ts)
laid_more ps ts at d e lt same =
    ap (λ qs. all_positions qs (drop at ts)) (drop_more ps at d (omega (arith, lt, same)))
    ∙ ap (λ us. all_positions (get_or ps at d ∷ drop (at + 1) ps) us) (drop_more ts at e lt)

-- one glyph more, to the left of the others
pub one_placed : (ps : List Position) (ts : List (Option Tile)) (at next : ℕ) (d : Position) (e : Option Tile) (x y : ℤ) (before new : List Position) → at < length ts → next ≡ at + 1 → length ps ≡ length ts → ArePlaced ps ts next x before
    → ((z : ℤ) → x ≡ int_wrap w32 z → (y ≡ int_wrap w32 (begins_at (get_or ts at e) z)) × (new ≡ before ++ reverse (tile_positions (get_or ps at d) (get_or ts at e) z)))
    → ArePlaced ps ts at y new
one_placed ps ts at next d e x y before new lt is same h step =
    let s = step (begin (drop next ts)) h.begins in
    let z = begin (drop (at + 1) ts) in
    let now = tile_positions (get_or ps at d) (get_or ts at e) in
    record {
      positions_are =
          s.1 ∙ ap (λ n. before ++ reverse (now (begin (drop n ts)))) is
          ∙ ap (λ qs. qs ++ reverse (now z)) (h.positions_are ∙ ap (λ n. reverse (all_positions (drop n ps) (drop n ts))) is)
          ∙ sym (reverse-append (now z) (all_positions (drop (at + 1) ps) (drop (at + 1) ts)))
          ∙ ap reverse (sym (laid_more ps ts at d e lt same));
      begins = s.0 ∙ ap (λ n. int_wrap w32 (begins_at (get_or ts at e) (begin (drop n ts)))) is ∙ ap (λ us. int_wrap w32 (begin us)) (sym (drop_more ts at e lt));
    }
