-- Lines of a paragraph with the glyphs that they have in the end: the paragraph's own, or those of their text shaped again.
use Rattle.std.specs.Prelude.{ℕ, ℤ, pos, ◌≡◌, ◌≤◌, ◌<◌, ◌^◌, ◌&&◌, ◌+ℤ◌, ◌≤ℤ◌, ◌<ℤ◌, ◌⊎◌, Bool, true, false, List, fold, length, map}
use Rattle.std.specs.List.{All}
use Rattle.kuspveli.specs.buffer_common.declared.direction.Direction.{Direction}
use Rattle.kuspveli.specs.buffer_glyphs.declared.position.GlyphPosition.{GlyphPosition}
use Rattle.kuspveli.specs.buffer_parts.Slices.{AreJoined}
use Rattle.kuspveli.specs.shaping_buffer.buffer_core.Sides.{Sides, all_glyphs}
use Rattle.line_pieces.specs.declared.lines.FillFault.{FillFault}
use Rattle.line_pieces.specs.declared.lines.FillFault.TheVariants as Fill
use Rattle.line_pieces.specs.declared.lines.FilledLine.{FilledLine}
use Rattle.line_pieces.specs.declared.lines.LineGlyphs.{LineGlyphs}
use Rattle.line_pieces.specs.declared.lines.LineGlyphs.TheVariants.{Own, Shaped}
use Rattle.line_pieces.specs.Lines.{CanBeCut, HasExactly, IsFaultOf, IsNextEnd, IsOnePiece, MayEnd, Paragraph, is_safe_at, paragraph_of, width_between, width_from}
use Rattle.line_pieces.specs.Steps.{advance_along}

-- whether breaks at both ends of a text are safe
abbrev pub are_safe_ends : Paragraph → ℕ → ℕ → Bool
are_safe_ends p from to = is_safe_at p.steps p.end from && is_safe_at p.steps p.end to

-- the pen after a position
abbrev pub pen_past : Direction → ℤ → GlyphPosition → ℤ
pen_past d pen p = pen +ℤ advance_along d p

-- the width of glyphs along a direction: the sum of their advances
abbrev pub width_of : Direction → Sides → ℤ
width_of d r = fold (pen_past d) (pos 0) r.positions

-- ---- lines by a relation `Shapes from to r`: shaping the text from one byte to another again may give the glyphs r

-- a text has a width, by whether breaks at both its ends are safe: that of the paragraph's glyphs of it, else that of its
-- glyphs shaped again
abbrev pub HasWidthBy : Direction → (ℕ → ℕ → Sides → Type 0) → Paragraph → ℕ → ℕ → Bool → ℤ → Type 0
HasWidthBy d Shapes p from to true width = width ≡ width_between p.steps from to
HasWidthBy d Shapes p from to false width = (r : Sides) × Shapes from to r × (width ≡ width_of d r)

-- a text, as a line, is wider than a line may be
pub record IsTooWide (d : Direction) (Shapes : ℕ → ℕ → Sides → Type 0) (p : Paragraph) (from to : ℕ) : Type 0 where
  pub width : ℤ
  pub has : HasWidthBy d Shapes p from to (are_safe_ends p from to) width
  pub over : width_from p.widths from <ℤ width

-- a line has glyphs, and the sum of their advances as its width: the paragraph's glyphs of its bytes exactly where breaks at
-- both its ends are safe, else what shaping its text again gives
abbrev pub HasGlyphs : Direction → (ℕ → ℕ → Sides → Type 0) → Paragraph → FilledLine → LineGlyphs → Type 0
HasGlyphs d Shapes p l (Own r) = (are_safe_ends p l.start l.end ≡ true) × HasExactly p.clusters (l.start, l.end) r × (l.width ≡ width_between p.steps l.start l.end)
HasGlyphs d Shapes p l (Shaped r) = (are_safe_ends p l.start l.end ≡ false) × Shapes l.start l.end r × (l.width ≡ width_of d r)

-- a line of a paragraph: it ends where one may end, and has its glyphs
pub record IsFilledLine (d : Direction) (Shapes : ℕ → ℕ → Sides → Type 0) (p : Paragraph) (l : FilledLine) : Type 0 where
  pub end : MayEnd p l.end
  pub glyphs : HasGlyphs d Shapes p l l.glyphs

-- the bytes of a line: the first, and one past the last
abbrev pub filled_range : FilledLine → ℕ × ℕ
filled_range l = (l.start, l.end)

-- the lines of a paragraph: one after another they are the whole text, and none is empty
pub record AreFilledLines (d : Direction) (Shapes : ℕ → ℕ → Sides → Type 0) (p : Paragraph) (ls : List FilledLine) : Type 0 where
  pub joined : AreJoined 0 p.end (map filled_range ls)
  pub each : All (IsFilledLine d Shapes p) ls

-- a line is no wider than it may be, or it is one piece
abbrev pub FitsWidth : Paragraph → FilledLine → Type 0
FitsWidth p l = (l.width ≤ℤ width_from p.widths l.start) ⊎ IsOnePiece p l.start l.end

-- with its next piece, if there is one, a line would be too wide
abbrev pub IsFull : Direction → (ℕ → ℕ → Sides → Type 0) → Paragraph → FilledLine → Type 0
IsFull d Shapes p l = (next : ℕ) → IsNextEnd p l.end next → IsTooWide d Shapes p l.start next

-- ---- faults

-- a line might have the bytes from one to another, and its text has to be shaped again
pub record IsShapedAgain (p : Paragraph) (from to : ℕ) : Type 0 where
  pub some : from < to
  pub may : MayEnd p to
  pub again : are_safe_ends p from to ≡ false

-- the text of a line that has to be shaped again is refused, for a reason
pub record IsRefusal {F : Type 0} (Refuses : ℕ → ℕ → F → Type 0) (p : Paragraph) (e : F) : Type 0 where
  pub from : ℕ
  pub to : ℕ
  pub line : IsShapedAgain p from to
  pub refused : Refuses from to e

-- the text of a line, shaped again, has 2^31 glyphs or more
pub record HasTooMany (Shapes : ℕ → ℕ → Sides → Type 0) (p : Paragraph) : Type 0 where
  pub from : ℕ
  pub to : ℕ
  pub glyphs : Sides
  pub line : IsShapedAgain p from to
  pub shaped : Shapes from to glyphs
  pub many : 2 ^ 31 ≤ length (all_glyphs glyphs)

-- why lines of a result of a text aren't filled: it isn't cut, or else the text of a line isn't shaped, or has too many glyphs
abbrev pub IsFillFaultOf : {F : Type 0} → (ℕ → ℕ → Sides → Type 0) → (ℕ → ℕ → F → Type 0) → Direction → Sides → List ℕ → List ℕ → ℤ → FillFault F → Type 0
IsFillFaultOf Shapes Refuses d r text breaks width (Fill.Cut e) = IsFaultOf d r text breaks e
IsFillFaultOf Shapes Refuses d r text breaks width (Fill.Shape e) = CanBeCut d r text breaks × IsRefusal Refuses (paragraph_of d r (length text) breaks width) e
IsFillFaultOf Shapes Refuses d r text breaks width Fill.TooManyGlyphs = CanBeCut d r text breaks × HasTooMany Shapes (paragraph_of d r (length text) breaks width)
