-- Lines of a text that C reads.
use Rattle.std.specs.Prelude.{ℕ, ◌≡◌, true, false, List, length, map, Option, Some, None}
use Rattle.buffer_common.specs.declared.direction.Direction.{Direction}
use Rattle.buffer_core.specs.Sides.{Sides}
use Rattle.c_lines.specs.declared.types.kus_line_t.{kus_line_t}
use Rattle.c_lines.specs.Numbers.{line_fault_number}
use Rattle.c_text.specs.Fonts.{KeptFont}
use Rattle.c_text.specs.Written.{with_front}
use Rattle.line_pieces.specs.declared.lines.GlyphRange.{GlyphRange}
use Rattle.line_pieces.specs.declared.lines.Line.{Line}
use Rattle.line_pieces.specs.declared.lines.LineFault.{LineFault}
use Rattle.line_pieces.specs.declared.lines.Widths.{Widths}
use Rattle.line_pieces.specs.Lines.{AreLines, CanBeCutTo, IsFaultTo, paragraph_by}

-- a line with the text's own glyphs in a range; without one it has to be shaped again
abbrev pub line_with : Line → Option GlyphRange → kus_line_t
line_with l None = record { start = l.start; end = l.end; width = l.width; first_glyph = 0; end_glyph = 0; is_own = false }
line_with l (Some r) = record { start = l.start; end = l.end; width = l.width; first_glyph = r.start; end_glyph = r.end; is_own = true }

-- a line as C reads it
abbrev pub line_of : Line → kus_line_t
line_of l = line_with l l.glyphs

-- the lines of a result along a direction, whose text has `end` units: as `cut_unit_lines` cuts it by breaks and widths; as
-- many as there is room for are written, and all are counted
pub record AreLinesOf (d : Direction) (glyphs : Sides) (end : ℕ) (breaks : List ℕ) (widths : Widths) (room now : List kus_line_t) (count : ℕ) : Type 0 where
  pub lines : List Line
  pub are : AreLines (paragraph_by d glyphs end breaks widths) lines
  pub may : CanBeCutTo d glyphs end breaks
  pub all : count ≡ length lines
  pub written : now ≡ with_front (map line_of lines) room

-- the number of why a result isn't cut into lines
pub record IsLinesRefusal (d : Direction) (glyphs : Sides) (end : ℕ) (breaks : List ℕ) (number : ℕ) : Type 0 where
  pub fault : LineFault
  pub same : number ≡ line_fault_number fault
  pub holds : IsFaultTo d glyphs end breaks fault

-- the number of why there are no lines: no font, or what the font's glyphs have
abbrev pub IsLinesFault : Option KeptFont → ℕ → List ℕ → ℕ → Type 0
IsLinesFault None end breaks number = number ≡ 16
IsLinesFault (Some f) end breaks number = IsLinesRefusal f.segment.direction f.glyphs end breaks number
