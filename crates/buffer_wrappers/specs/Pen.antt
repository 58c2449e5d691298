-- The position of the pen in a run of glyphs.
use Rattle.std.specs.Prelude.{ℕ, if◌then◌else◌, List, map, fold, ℤ, pos, ◌+ℤ◌, ◌==◌, Bool, bit_and}
use Rattle.buffer_glyphs.specs.Coordinates.{IsNear}
use Rattle.buffer_glyphs.specs.declared.flags.SerializeFlags.{SerializeFlags}
use Rattle.buffer_glyphs.specs.declared.position.GlyphPosition.{GlyphPosition}
use Rattle.buffer_wrappers.specs.declared.pen.Pen.{Pen}

-- NO_ADVANCES: the advances are not printed, and offsets are counted from the start of the run
abbrev pub drops_advances : SerializeFlags → Bool
drops_advances flags = bit_and flags.0 32 == 32

-- the exact sum of numbers
abbrev pub total : List ℤ → ℤ
total numbers = fold ◌+ℤ◌ (pos 0) numbers

-- the pen after glyphs at these positions: the sums of their advances, or at rest where the advances are printed
abbrev pub pen_after : SerializeFlags → List GlyphPosition → Pen
pen_after flags positions = if drops_advances flags
    then record { x = total (map (λ position. position.x_advance) positions); y = total (map (λ position. position.y_advance) positions) }
    else record { x = pos 0; y = pos 0 }

-- the pen at a distance
abbrev pub shifted_pen : Pen → ℤ → ℤ → Pen
shifted_pen pen x y = record { x = pen.x +ℤ x; y = pen.y +ℤ y }

-- the pen moved on by one glyph
abbrev pub moved_pen : SerializeFlags → Pen → GlyphPosition → Pen
moved_pen flags pen position = if drops_advances flags then shifted_pen pen position.x_advance position.y_advance else pen

-- the pen is at most so far from the start in each direction
pub record IsWithin (bound : ℕ) (pen : Pen) : Type 0 where
  pub across : IsNear bound pen.x
  pub along : IsNear bound pen.y
