-- Lines of a paragraph that was shaped as a whole.
use Rattle.std.specs.Prelude.{ℕ, ℤ, pos, ◌≡◌, ◌≤◌, ◌<◌, ◌^◌, ◌==◌, ◌&&◌, ◌||◌, ◌+ℤ◌, ◌-ℤ◌, ◌≤ℤ◌, ◌<ℤ◌, ◌⊎◌, ◌↔◌, Bool, true, false, not, nat_lt, if◌then◌else◌, IsTrue, List, Option, Some, None, fold, length, map, slice_get}
use Rattle.std.specs.List.{All, list_any}
use Rattle.kuspveli.specs.buffer_common.Direction.{is_backward}
use Rattle.kuspveli.specs.buffer_common.declared.direction.Direction.{Direction}
use Rattle.kuspveli.specs.buffer_glyphs.Items.{clusters}
use Rattle.kuspveli.specs.buffer_glyphs.Order.{IsInOrder, has_number}
use Rattle.kuspveli.specs.buffer_parts.Slices.{AreJoined, IsIn}
use Rattle.kuspveli.specs.shaping_buffer.buffer_core.Sides.{Sides, all_glyphs}
use Rattle.line_pieces.specs.declared.lines.GlyphRange.{GlyphRange}
use Rattle.line_pieces.specs.declared.lines.Line.{Line}
use Rattle.line_pieces.specs.declared.lines.LineFault.{LineFault}
use Rattle.line_pieces.specs.declared.lines.LineFault.TheVariants.{OutOfMemory, TooManyGlyphs, ClustersOutOfOrder, InvalidBreaks}
use Rattle.line_pieces.specs.declared.lines.Widths.{Widths}
use Rattle.line_pieces.specs.declared.steps.Step.{Step}
use Rattle.line_pieces.specs.Breaks.{AreBreaks, AreBreaksTo}
use Rattle.line_pieces.specs.Steps.{text_steps}

-- a paragraph that was shaped, and how it is to be cut into lines
pub record Paragraph : Type 0 where
  -- the clusters of its glyphs, in the order of the glyphs
  pub clusters : List ℕ
  -- its glyphs in the order of the text
  pub steps : List Step
  -- how many bytes its text has, or other units that its clusters are of
  pub end : ℕ
  -- the bytes at which a line may end, beside the end of the text
  pub breaks : List ℕ
  -- the widths that lines are to fit
  pub widths : Widths

-- a result along a direction as a paragraph: its text ends at a byte, and its lines may end at breaks and are to fit widths
abbrev pub paragraph_by : Direction → Sides → ℕ → List ℕ → Widths → Paragraph
paragraph_by d r end breaks widths = record { clusters = clusters (all_glyphs r); steps = text_steps d r; end = end; breaks = breaks; widths = widths }

-- one width for all lines
abbrev pub same_widths : ℤ → Widths
same_widths width = record { first = width; rest = width }

-- a result along a direction as a paragraph whose lines are all to fit one width
abbrev pub paragraph_of : Direction → Sides → ℕ → List ℕ → ℤ → Paragraph
paragraph_of d r end breaks width = paragraph_by d r end breaks (same_widths width)

-- the width that a line is to fit, by the byte at which it begins: the first line has one of its own
abbrev pub width_from : Widths → ℕ → ℤ
width_from w start = if start == 0 then w.first else w.rest

-- the pen with a glyph, if its cluster is before a byte
abbrev pub pen_with : ℕ → ℤ → Step → ℤ
pen_with byte pen s = if nat_lt s.cluster byte then pen +ℤ s.advance else pen

-- the pen before a byte of the text: the sum of the advances of the glyphs whose clusters are before it
abbrev pub pen_before : List Step → ℕ → ℤ
pen_before ss byte = fold (pen_with byte) (pos 0) ss

-- the width of the text from one byte to another: the sum of the advances of the glyphs whose clusters are between
abbrev pub width_between : List Step → ℕ → ℕ → ℤ
width_between ss from to = pen_before ss to -ℤ pen_before ss from

-- whether a glyph is of a cluster
abbrev pub is_of : ℕ → Step → Bool
is_of c s = s.cluster == c

-- whether a glyph is of a cluster, and has UNSAFE_TO_BREAK
abbrev pub is_unsafe_of : ℕ → Step → Bool
is_unsafe_of c s = s.cluster == c && s.is_unsafe

-- whether the flags show that a break at a byte is safe: it is at an end of the text, or there are glyphs of the cluster, and none of these has UNSAFE_TO_BREAK
abbrev pub is_safe_at : List Step → ℕ → ℕ → Bool
is_safe_at ss end byte = (byte == 0 || byte == end) || (list_any (is_of byte) ss && not (list_any (is_unsafe_of byte) ss))

-- a line may end at a byte
abbrev pub MayEnd : Paragraph → ℕ → Type 0
MayEnd p byte = IsTrue (has_number p.breaks byte) ⊎ (byte ≡ p.end)

-- the first byte after another one at which a line may end
pub record IsNextEnd (p : Paragraph) (from next : ℕ) : Type 0 where
  pub may : MayEnd p next
  pub after : from < next
  pub first : (byte : ℕ) → MayEnd p byte → from < byte → next ≤ byte

-- no line may end between two bytes
abbrev pub IsOnePiece : Paragraph → ℕ → ℕ → Type 0
IsOnePiece p from to = (byte : ℕ) → MayEnd p byte → from < byte → to ≤ byte

-- the text from one byte to another fits a line: its width does, or it is one piece
abbrev pub Fits : Paragraph → ℕ → ℕ → Type 0
Fits p from to = (width_between p.steps from to ≤ℤ width_from p.widths from) ⊎ IsOnePiece p from to

-- a line takes as many pieces as fit: it fits up to each byte at which it might have ended and to its end, and with the next piece its width wouldn't fit
pub record IsFilled (p : Paragraph) (l : Line) : Type 0 where
  pub fits : (byte : ℕ) → MayEnd p byte → l.start < byte → byte ≤ l.end → Fits p l.start byte
  pub full : (next : ℕ) → IsNextEnd p l.end next → width_from p.widths l.start <ℤ width_between p.steps l.start next

-- whether breaks at both ends of a line are safe
abbrev pub is_own : Paragraph → Line → Bool
is_own p l = is_safe_at p.steps p.end l.start && is_safe_at p.steps p.end l.end

-- a range of glyphs is exactly those whose clusters are among some bytes
pub record HasExactly (ns : List ℕ) (bytes : ℕ × ℕ) (r : GlyphRange) : Type 0 where
  pub ordered : r.start ≤ r.end
  pub within : r.end ≤ length ns
  pub exact : (k n : ℕ) → slice_get ns k ≡ Some n → IsIn (r.start, r.end) k ↔ IsIn bytes n

-- a line has the paragraph's glyphs of its bytes exactly where breaks at both its ends are safe
abbrev pub AreGlyphsOf : Paragraph → Line → Option GlyphRange → Type 0
AreGlyphsOf p l None = is_own p l ≡ false
AreGlyphsOf p l (Some r) = (is_own p l ≡ true) × HasExactly p.clusters (l.start, l.end) r

-- a line of a paragraph
pub record IsLine (p : Paragraph) (l : Line) : Type 0 where
  pub end : MayEnd p l.end
  pub width : l.width ≡ width_between p.steps l.start l.end
  pub glyphs : AreGlyphsOf p l l.glyphs
  pub filled : IsFilled p l

-- the bytes of a line: the first, and one past the last
abbrev pub byte_range : Line → ℕ × ℕ
byte_range l = (l.start, l.end)

-- the lines of a paragraph: one after another they are the whole text, and none is empty
pub record AreLines (p : Paragraph) (ls : List Line) : Type 0 where
  pub joined : AreJoined 0 p.end (map byte_range ls)
  pub each : All (IsLine p) ls

-- a result along a direction has fewer than 2^31 glyphs, whose clusters are in order along the line
pub record IsInLine (d : Direction) (r : Sides) : Type 0 where
  pub few : length (all_glyphs r) < 2 ^ 31
  pub order : IsInOrder (is_backward d) (clusters (all_glyphs r))

-- a result of a text can be cut into lines along a direction
pub record CanBeCut (d : Direction) (r : Sides) (text breaks : List ℕ) : Type 0 where
  pub line : IsInLine d r
  pub ends : AreBreaks text 0 breaks

-- a result of a text of `end` units can be cut into lines along a direction
pub record CanBeCutTo (d : Direction) (r : Sides) (end : ℕ) (breaks : List ℕ) : Type 0 where
  pub line : IsInLine d r
  pub ends : AreBreaksTo end 0 breaks

-- why a result isn't cut into lines: the first of these faults; of want of memory no clause says more
abbrev pub IsFaultOf : Direction → Sides → List ℕ → List ℕ → LineFault → Type 0
IsFaultOf d r text breaks OutOfMemory = Unit {0}
IsFaultOf d r text breaks TooManyGlyphs = 2 ^ 31 ≤ length (all_glyphs r)
IsFaultOf d r text breaks ClustersOutOfOrder = length (all_glyphs r) < 2 ^ 31 × (¬ IsInOrder (is_backward d) (clusters (all_glyphs r)))
IsFaultOf d r text breaks InvalidBreaks = IsInLine d r × (¬ AreBreaks text 0 breaks)

-- why the result of a text of `end` units isn't cut into lines, likewise
abbrev pub IsFaultTo : Direction → Sides → ℕ → List ℕ → LineFault → Type 0
IsFaultTo d r end breaks OutOfMemory = Unit {0}
IsFaultTo d r end breaks TooManyGlyphs = 2 ^ 31 ≤ length (all_glyphs r)
IsFaultTo d r end breaks ClustersOutOfOrder = length (all_glyphs r) < 2 ^ 31 × (¬ IsInOrder (is_backward d) (clusters (all_glyphs r)))
IsFaultTo d r end breaks InvalidBreaks = IsInLine d r × (¬ AreBreaksTo end 0 breaks)
