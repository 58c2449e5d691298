-- What the code that makes carets keeps.
use Rattle.std.specs.Prelude.{ℕ, ℤ, pos, ◌≡◌, ◌*◌, ◌^◌, ◌==◌, ◌≤ℤ◌, neg_ℤ, Bool, true, not, List, [], ◌∷◌}
use Rattle.kuspveli.specs.buffer_common.declared.direction.Direction.{Direction}
use Rattle.kuspveli.specs.buffer_glyphs.declared.position.GlyphPosition.{GlyphPosition}
use Rattle.kuspveli.specs.shape_slices.declared.slices.SourceSlice.{SourceSlice}
use Rattle.caret_model.specs.Lines.{left_byte, pen_at, right_end}

-- the pen before the glyph at index k, which k advances of 32 bits bound
pub record IsPenAt (d : Direction) (ps : List GlyphPosition) (k : ℕ) (pen : ℤ) : Type 0 where
  pub sum : pen ≡ pen_at d ps k
  pub low : neg_ℤ (pos (2 ^ 31 * k)) ≤ℤ pen
  pub high : pen ≤ℤ pos (2 ^ 31 * k)

-- whether the first slice is at the beginning of the text, or on a backward line at its end
abbrev pub are_at_beginning : Bool → ℕ → List SourceSlice → Bool
are_at_beginning backward end [] = true
are_at_beginning backward end (s ∷ ss) = left_byte backward s == right_end (not backward) end
