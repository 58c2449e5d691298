-- The carets of a line of glyphs. Left and right are said of a horizontal line; of a vertical one they are its upper and its lower side.
use Rattle.std.specs.Prelude.{ℕ, ℤ, pos, ◌≡◌, ◌≤◌, ◌<◌, ◌^◌, IsTrue, ◌+ℤ◌, Bool, true, false, if◌then◌else◌, List, [], ◌∷◌, ◌++◌, fold, length, map, take}
use Rattle.kuspveli.specs.buffer_common.Direction.{is_backward, is_horizontal}
use Rattle.kuspveli.specs.buffer_common.declared.direction.Direction.{Direction}
use Rattle.kuspveli.specs.buffer_glyphs.declared.position.GlyphPosition.{GlyphPosition}
use Rattle.kuspveli.specs.buffer_glyphs.Items.{clusters}
use Rattle.kuspveli.specs.buffer_glyphs.Order.{IsOrdered, has_number}
use Rattle.kuspveli.specs.buffer_parts.Slices.{AreJoined}
use Rattle.kuspveli.specs.shape_slices.declared.slices.SourceSlice.{SourceSlice}
use Rattle.kuspveli.specs.shape_slices.Fitting.{SlicesFit}
use Rattle.kuspveli.specs.shape_slices.Runs.{AreSourceSlices, along_glyphs, byte_range}
use Rattle.kuspveli.specs.shaping_buffer.buffer_core.Sides.{Sides, all_glyphs}
use Rattle.caret_model.specs.declared.carets.Caret.{Caret}
use Rattle.caret_model.specs.declared.carets.CaretFault.{CaretFault}
use Rattle.caret_model.specs.declared.carets.CaretFault.TheVariants.{OutOfMemory, NoSlices, TooManyGlyphs, InvalidStops}

-- the advance of a glyph along its line
abbrev pub advance_along : Direction → GlyphPosition → ℤ
advance_along d p = if is_horizontal d then p.x_advance else p.y_advance

-- the pen before the glyph at an index: the sum of the advances of all glyphs before it
abbrev pub pen_at : Direction → List GlyphPosition → ℕ → ℤ
pen_at d ps k = fold (λ pen p. pen +ℤ advance_along d p) (pos 0) (take k ps)

-- the byte at the left edge of a run: where its slice begins, or on a backward line where it ends
abbrev pub left_byte : Bool → SourceSlice → ℕ
left_byte false s = s.start
left_byte true s = s.end

-- the byte at the right end of a line: the end of the text, or on a backward line its beginning
abbrev pub right_end : Bool → ℕ → ℕ
right_end false end = end
right_end true end = 0

-- the bytes at which carets may stand, from left to right
abbrev pub caret_bytes : Bool → ℕ → List SourceSlice → List ℕ
caret_bytes backward end ss = map (left_byte backward) ss ++ right_end backward end ∷ []

-- the caret at the left edge of a run
abbrev pub run_caret : Direction → List GlyphPosition → SourceSlice → Caret
run_caret d ps s = record { byte = left_byte (is_backward d) s; position = pen_at d ps s.first_glyph }

-- the caret at the right end of a line
abbrev pub last_caret : Direction → List GlyphPosition → ℕ → Caret
last_caret d ps end = record { byte = right_end (is_backward d) end; position = pen_at d ps (length ps) }

-- the carets of a line: one at the left edge of each run, and one at the right end
abbrev pub carets_of : Direction → List GlyphPosition → ℕ → List SourceSlice → List Caret
carets_of d ps end ss = map (run_caret d ps) ss ++ last_caret d ps end ∷ []

-- a line of a text
pub record Line : Type 0 where
  -- the runs of glyphs, each with its bytes of the text, from left to right
  pub slices : List SourceSlice
  -- the carets, from left to right
  pub carets : List Caret
  -- whether the text runs from the right to the left
  pub backward : Bool
  -- how many bytes the text has
  pub end : ℕ

-- what holds of all lines: in the order of the text the slices join to the whole text, and there is a caret at the left edge of each and at the right end
pub record IsLine (l : Line) : Type 0 where
  pub joined : AreJoined 0 l.end (along_glyphs l.backward (map byte_range l.slices))
  pub bytes : map (λ (c : Caret). c.byte) l.carets ≡ caret_bytes l.backward l.end l.slices

-- the line of the result of a text of n bytes, or of other units that clusters are of, along a direction
pub record IsLineTo (d : Direction) (result : Sides) (n : ℕ) (l : Line) : Type 0 where
  pub slices : AreSourceSlices (clusters (all_glyphs result)) n l.slices
  pub carets : l.carets ≡ carets_of d result.positions n l.slices
  pub backward : l.backward ≡ is_backward d
  pub end : l.end ≡ n
  pub line : IsLine l

-- the line of the result of a text, along a direction
abbrev pub IsLineOf : Direction → Sides → List ℕ → Line → Type 0
IsLineOf d result text l = IsLineTo d result (length text) l

-- a result has a line along a direction: its glyphs can be traced to slices of the text, and these join to the text, from the last glyph on where the direction is backward
pub record HasLine (d : Direction) (result : Sides) (text : List ℕ) : Type 0 where
  pub fits : SlicesFit result text
  pub joined : (ss : List SourceSlice) → AreSourceSlices (clusters (all_glyphs result)) (length text) ss → AreJoined 0 (length text) (along_glyphs (is_backward d) (map byte_range ss))

-- the result of a text of `end` units has a line along a direction: its clusters are in order, each is that of a unit, 0 is among them, and their slices join to the text, from the last glyph on where the direction is backward
pub record HasLineTo (d : Direction) (result : Sides) (end : ℕ) : Type 0 where
  pub ordered : IsOrdered (clusters (all_glyphs result))
  pub within : (n : ℕ) → IsTrue (has_number (clusters (all_glyphs result)) n) → n < end
  pub zero_there : IsTrue (has_number (clusters (all_glyphs result)) 0)
  pub joined : (ss : List SourceSlice) → AreSourceSlices (clusters (all_glyphs result)) end ss → AreJoined 0 end (along_glyphs (is_backward d) (map byte_range ss))

-- why there are no carets of a result: of want of memory no clause says more
abbrev pub IsFaultOf : Direction → Sides → List ℕ → CaretFault → Type 0
IsFaultOf d result text OutOfMemory = Unit {0}
IsFaultOf d result text NoSlices = ¬ HasLine d result text
IsFaultOf d result text TooManyGlyphs = 2 ^ 32 ≤ length (all_glyphs result)
IsFaultOf d result text InvalidStops = ⊥

-- why there are no carets of the result of a text of `end` units, likewise
abbrev pub IsFaultTo : Direction → Sides → ℕ → CaretFault → Type 0
IsFaultTo d result end OutOfMemory = Unit {0}
IsFaultTo d result end NoSlices = ¬ HasLineTo d result end
IsFaultTo d result end TooManyGlyphs = 2 ^ 32 ≤ length (all_glyphs result)
IsFaultTo d result end InvalidStops = ⊥
