-- What the code that fills lines keeps.
use Rattle.std.specs.Prelude.{ℕ, ℤ, ◌≡◌, ◌≤◌, ◌<◌, ◌^◌, ◌-ℤ◌, List, get_or, length, map}
use Rattle.std.specs.List.{All}
use Rattle.kuspveli.specs.buffer_common.Direction.{is_backward}
use Rattle.kuspveli.specs.buffer_common.declared.direction.Direction.{Direction}
use Rattle.kuspveli.specs.buffer_glyphs.Items.{clusters}
use Rattle.kuspveli.specs.buffer_glyphs.Order.{IsInOrder}
use Rattle.kuspveli.specs.buffer_parts.Slices.{AreJoined}
use Rattle.kuspveli.specs.shaping_buffer.buffer_core.Sides.{Sides, all_glyphs}
use Rattle.line_pieces.specs.declared.cuts.Cut.{Cut}
use Rattle.line_pieces.specs.declared.filling.Frame.{Frame}
use Rattle.line_pieces.specs.declared.lines.FillFault.{FillFault}
use Rattle.line_pieces.specs.declared.lines.FillFault.TheVariants as Fill
use Rattle.line_pieces.specs.declared.lines.FilledLine.{FilledLine}
use Rattle.line_pieces.specs.declared.lines.LineFault.TheVariants.{OutOfMemory, TooManyGlyphs, ClustersOutOfOrder, InvalidBreaks}
use Rattle.line_pieces.specs.declared.lines.LineGlyphs.{LineGlyphs}
use Rattle.line_pieces.specs.declared.lines.LineGlyphs.TheVariants.{Own, Shaped}
use Rattle.line_pieces.specs.declared.shaped_lines.LineTo.{LineTo}
use Rattle.line_pieces.specs.Breaks.{AreBreaksTo}
use Rattle.line_pieces.specs.Cuts.{glyph_range}
use Rattle.line_pieces.specs.FilledLines.{FitsWidth, HasGlyphs, HasTooMany, IsFilledLine, IsFull, IsRefusal, filled_range, width_of}
use Rattle.line_pieces.specs.Lines.{IsNextEnd, Paragraph, paragraph_by}

-- a result whose lines can be filled by a frame and breaks
pub record IsPage (r : Sides) (f : Frame) (breaks : List ℕ) : Type 0 where
  pub count : f.count ≡ length (all_glyphs r)
  pub few : f.count < 2 ^ 31
  pub positions : length r.positions ≡ length (all_glyphs r)
  pub order : IsInOrder (is_backward f.direction) (clusters (all_glyphs r))
  pub rising : AreBreaksTo f.end 0 breaks

-- its paragraph
abbrev pub page_of : Sides → Frame → List ℕ → Paragraph
page_of r f breaks = paragraph_by f.direction r f.end breaks f.widths

-- the byte at which the piece of an index ends
abbrev pub piece_end : Paragraph → ℕ → ℕ
piece_end p i = get_or p.breaks i p.end

-- the piece of an index is the first one after a byte
abbrev pub IsFirstPiece : Paragraph → ℕ → ℕ → Type 0
IsFirstPiece p byte i = IsNextEnd p byte (piece_end p i)

-- the line between two safe cuts, with the paragraph's glyphs
abbrev pub own_line : Frame → Cut → Cut → FilledLine
own_line f start end = record { start = start.byte; end = end.byte; width = end.pen -ℤ start.pen; glyphs = Own (glyph_range f start.glyphs end.glyphs) }

-- a line has the glyphs of its text shaped again, and their width
abbrev pub HasShaped : Direction → (ℕ → ℕ → Sides → Type 0) → FilledLine → LineGlyphs → Type 0
HasShaped d Shapes l (Own r) = ⊥
HasShaped d Shapes l (Shaped r) = Shapes l.start l.end r × (l.width ≡ width_of d r)

-- the line from one byte to another, shaped again
pub record IsShapedTo (d : Direction) (Shapes : ℕ → ℕ → Sides → Type 0) (from to : ℕ) (l : FilledLine) : Type 0 where
  pub start : l.start ≡ from
  pub end : l.end ≡ to
  pub glyphs : HasShaped d Shapes l l.glyphs

-- why the text from one byte to another isn't shaped again as a line
abbrev pub IsShapeFault : {F : Type 0} → (ℕ → ℕ → Sides → Type 0) → (ℕ → ℕ → F → Type 0) → ℕ → ℕ → FillFault F → Type 0
IsShapeFault Shapes Refuses from to (Fill.Cut e) = ⊥
IsShapeFault Shapes Refuses from to (Fill.Shape e) = Refuses from to e
IsShapeFault Shapes Refuses from to Fill.TooManyGlyphs = (r : Sides) × Shapes from to r × (2 ^ 31 ≤ length (all_glyphs r))

-- a line from a byte to the end of a piece
pub record IsLineTo (d : Direction) (Shapes : ℕ → ℕ → Sides → Type 0) (p : Paragraph) (from i : ℕ) (l : FilledLine) : Type 0 where
  pub start : l.start ≡ from
  pub end : l.end ≡ piece_end p i
  pub some : from < l.end
  pub glyphs : HasGlyphs d Shapes p l l.glyphs

-- a line from a byte that fits, and its last piece
pub record IsReached (d : Direction) (Shapes : ℕ → ℕ → Sides → Type 0) (p : Paragraph) (from : ℕ) (t : LineTo) : Type 0 where
  pub line : IsLineTo d Shapes p from t.piece t.line
  pub fits : FitsWidth p t.line

-- and that is full
pub record IsTaken (d : Direction) (Shapes : ℕ → ℕ → Sides → Type 0) (p : Paragraph) (from : ℕ) (t : LineTo) : Type 0 where
  pub reached : IsReached d Shapes p from t
  pub full : IsFull d Shapes p t.line

-- a line in the end
pub record IsLineOfPage (d : Direction) (Shapes : ℕ → ℕ → Sides → Type 0) (p : Paragraph) (l : FilledLine) : Type 0 where
  pub line : IsFilledLine d Shapes p l
  pub fits : FitsWidth p l
  pub full : IsFull d Shapes p l

-- the lines of a text up to a byte
pub record AreLinesTo (d : Direction) (Shapes : ℕ → ℕ → Sides → Type 0) (p : Paragraph) (to : ℕ) (ls : List FilledLine) : Type 0 where
  pub joined : AreJoined 0 to (map filled_range ls)
  pub each : All (IsLineOfPage d Shapes p) ls

-- why a page's lines aren't filled
abbrev pub IsLineFault : {F : Type 0} → (ℕ → ℕ → Sides → Type 0) → (ℕ → ℕ → F → Type 0) → Paragraph → FillFault F → Type 0
IsLineFault Shapes Refuses p (Fill.Cut OutOfMemory) = Unit {0}
IsLineFault Shapes Refuses p (Fill.Cut TooManyGlyphs) = ⊥
IsLineFault Shapes Refuses p (Fill.Cut ClustersOutOfOrder) = ⊥
IsLineFault Shapes Refuses p (Fill.Cut InvalidBreaks) = ⊥
IsLineFault Shapes Refuses p (Fill.Shape e) = IsRefusal Refuses p e
IsLineFault Shapes Refuses p Fill.TooManyGlyphs = HasTooMany Shapes p
