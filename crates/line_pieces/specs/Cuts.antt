-- What the code that cuts a paragraph keeps.
use Rattle.std.specs.Prelude.{ℕ, ℤ, pos, ◌≡◌, ◌≤◌, ◌<◌, ◌*◌, ◌-◌, ◌^◌, ◌==◌, ◌&&◌, ◌||◌, ◌+ℤ◌, ◌-ℤ◌, ◌≤ℤ◌, ◌↔◌, neg_ℤ, int_le, Bool, true, false, if◌then◌else◌, List, [], ◌∷◌, ◌++◌, Option, Some, None, fold, length, slice_get, take}
use Rattle.kuspveli.specs.buffer_common.Direction.{is_backward}
use Rattle.line_pieces.specs.declared.cuts.Cut.{Cut}
use Rattle.line_pieces.specs.declared.filling.Frame.{Frame}
use Rattle.line_pieces.specs.declared.lines.GlyphRange.{GlyphRange}
use Rattle.line_pieces.specs.declared.lines.Line.{Line}
use Rattle.line_pieces.specs.declared.steps.Step.{Step}
use Rattle.line_pieces.specs.Lines.{is_safe_at}

-- the first `at` glyphs of the text are those whose clusters are before a byte
abbrev pub IsSplit : List Step → ℕ → ℕ → Type 0
IsSplit ss byte at = (k : ℕ) (s : Step) → slice_get ss k ≡ Some s → (k < at) ↔ (s.cluster < byte)

-- the pen after a glyph
abbrev pub pen_after : ℤ → Step → ℤ
pen_after pen s = pen +ℤ s.advance

-- the sum of the advances of the first `at` glyphs of the text
abbrev pub pen_to : List Step → ℕ → ℤ
pen_to ss at = fold pen_after (pos 0) (take at ss)

-- a pen that `at` advances of 32 bits bound
pub record IsBounded (at : ℕ) (pen : ℤ) : Type 0 where
  pub low : neg_ℤ (pos (2 ^ 31 * at)) ≤ℤ pen
  pub high : pen ≤ℤ pos (2 ^ 31 * at)

-- the first `at` glyphs are those before a byte, and the pen is after them
pub record IsWalked (ss : List Step) (byte at : ℕ) (pen : ℤ) : Type 0 where
  pub within : at ≤ length ss
  pub split : IsSplit ss byte at
  pub sum : pen ≡ pen_to ss at
  pub bounded : IsBounded at pen

-- the text up to a byte, by the glyphs of the text
pub record IsCut (ss : List Step) (end : ℕ) (c : Cut) : Type 0 where
  pub walked : IsWalked ss c.byte c.glyphs c.pen
  pub safe : c.is_safe ≡ is_safe_at ss end c.byte

-- whether glyphs begin with some of a cluster, or some were found before, none of them unsafe to break before
abbrev pub run_is_safe : ℕ → Bool → List Step → Bool
run_is_safe c found [] = found
run_is_safe c found (s ∷ ss) = if s.cluster == c then (if s.is_unsafe then false else run_is_safe c true ss) else found

-- a cut whose pen fits in 63 bits
pub record IsMeasured (c : Cut) : Type 0 where
  pub few : c.glyphs < 2 ^ 31
  pub bounded : IsBounded c.glyphs c.pen

-- two cuts of the glyphs of a paragraph, the first no later than the second
pub record IsCountedTo (f : Frame) (start end : Cut) : Type 0 where
  pub ordered : start.glyphs ≤ end.glyphs
  pub within : end.glyphs ≤ f.count

-- the glyphs from one to another index in the order of the text
abbrev pub glyph_range : Frame → ℕ → ℕ → GlyphRange
glyph_range f from to = if is_backward f.direction then record { start = f.count - to; end = f.count - from } else record { start = from; end = to }

-- the glyphs between two cuts, if both are safe
abbrev pub own_glyphs : Frame → Cut → Cut → Option GlyphRange
own_glyphs f start end = if start.is_safe && end.is_safe then Some (glyph_range f start.glyphs end.glyphs) else None

-- the line between two cuts
abbrev pub line_of : Frame → Cut → Cut → Line
line_of f start end = record { start = start.byte; end = end.byte; width = end.pen -ℤ start.pen; glyphs = own_glyphs f start end }

-- lines, and the one between two cuts unless it is empty
abbrev pub with_line : Frame → Cut → Cut → List Line → List Line
with_line f start end ls = if start.byte == end.byte then ls else ls ++ line_of f start end ∷ []

-- whether a piece stays in the line that is being filled: it is the first one, or the line fits the width with it
abbrev pub stays : ℤ → Cut → Cut → Cut → Bool
stays width start last next = start.byte == last.byte || int_le (next.pen -ℤ start.pen) width

-- a piece stays in a line, which starts where it did, or the line ends before it
abbrev pub IsPieceAdded : Bool → Cut → Cut → Line → Cut → List Line → List Line → Type 0
IsPieceAdded true start last line cut old new = (cut ≡ start) × (new ≡ old)
IsPieceAdded false start last line cut old new = (cut ≡ last) × (new ≡ old ++ line ∷ [])
