-- The position of a drawn mark: at its recorded offset from where its base is drawn.
use Rattle.std.specs.Prelude.{ℕ, ℤ, pos, ◌+ℤ◌, ◌+◌, ◌≡◌, ◌<◌, Bool, true, false, List, [], ◌∷◌, take, drop, Some}
use Rattle.std.specs.Int.{int_wrap, w32}
use Rattle.buffer_glyphs.specs.Items.{Position}
use Rattle.buffer_common.specs.declared.direction.Direction.{Direction}
use Rattle.buffer_common.specs.Direction.{is_forward}
use Rattle.layout_offsets.specs.FollowedLinks.{kinds_tested, finished_positions}
use Rattle.layout_offsets.specs.Links.{position_at, parent}
use Rattle.layout_offsets.specs.Trees.{HaveDepths}

-- a sum over positions
abbrev pub total : (Position → ℤ) → List Position → ℤ
total v [] = pos 0
total v (p ∷ ps) = v p +ℤ total v ps

-- the pen where a glyph is drawn: forward the glyphs before it were drawn, backward those after it
abbrev pub pen : (Position → ℤ) → Bool → ℕ → List Position → ℤ
pen v true i ps = total v (take i ps)
pen v false i ps = total v (drop (i + 1) ps)

-- the horizontal coordinate of a drawn glyph
abbrev pub drawn_x : Direction → ℕ → List Position → ℤ
drawn_x d i ps = pen (λ (p : Position). p.x_advance) (is_forward d) i ps +ℤ (position_at i ps).x_offset

-- the vertical coordinate of a drawn glyph
abbrev pub drawn_y : Direction → ℕ → List Position → ℤ
drawn_y d i ps = pen (λ (p : Position). p.y_advance) (is_forward d) i ps +ℤ (position_at i ps).y_offset

-- glyph i is drawn at its recorded offset from where glyph j is drawn, modulo 2^32
pub record IsDrawnFrom (d : Direction) (recorded drawn : List Position) (i j : ℕ) : Type 0 where
  pub x : int_wrap w32 (drawn_x d i drawn) ≡ int_wrap w32 (drawn_x d j drawn +ℤ (position_at i recorded).x_offset)
  pub y : int_wrap w32 (drawn_y d i drawn) ≡ int_wrap w32 (drawn_y d j drawn +ℤ (position_at i recorded).y_offset)

-- each mark that is linked backward is drawn so, where links form no cycle
abbrev pub MarksAreDrawn : Type 0
MarksAreDrawn = (d : Direction) (depth : ℕ → ℕ) (ps : List Position) → HaveDepths depth (kinds_tested ps) → (i j : ℕ) → parent i ps ≡ Some j → (position_at i ps).attach_type ≡ 1 → j < i → IsDrawnFrom d ps (finished_positions d ps) i j
