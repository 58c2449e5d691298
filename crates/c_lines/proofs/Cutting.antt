-- Lines that C reads.
use Rattle.std.proofs.Common.{ℕ, ◌≡◌, List, length, map, ap, subst, ◌∙◌}
use Rattle.buffer_common.specs.declared.direction.Direction.{Direction}
use Rattle.buffer_core.specs.Sides.{Sides}
use Rattle.c_lines.specs.Lines.{AreLinesOf, IsLinesRefusal, line_of}
use Rattle.c_lines.specs.Numbers.{line_fault_number}
use Rattle.c_lines.specs.declared.types.kus_line_t.{kus_line_t}
use Rattle.c_text.specs.Fonts.{KeptFont}
use Rattle.c_text.specs.Written.{with_front}
use Rattle.c_text.specs.declared.segment.Segment.{Segment}
use Rattle.line_pieces.specs.declared.lines.Line.{Line}
use Rattle.line_pieces.specs.declared.lines.LineFault.{LineFault}
use Rattle.line_pieces.specs.declared.lines.Widths.{Widths}
use Rattle.line_pieces.specs.Lines.{AreLines, CanBeCutTo, IsFaultTo, paragraph_by}

pub lines_found : (d : Direction) (glyphs : Sides) (end : ℕ) (breaks : List ℕ) (widths : Widths) (found : List Line) (room now : List kus_line_t) (count : ℕ)
    → AreLines (paragraph_by d glyphs end breaks widths) found → CanBeCutTo d glyphs end breaks → count ≡ length found → now ≡ with_front (map line_of found) room
    → AreLinesOf d glyphs end breaks widths room now count
lines_found d glyphs end breaks widths found room now count are may all written = record { lines = found; are = are; may = may; all = all; written = written }

pub lines_refused : (d : Direction) (glyphs : Sides) (end : ℕ) (breaks : List ℕ) (e : LineFault) (number : ℕ) → number ≡ line_fault_number e → IsFaultTo d glyphs end breaks e → IsLinesRefusal d glyphs end breaks number
lines_refused d glyphs end breaks e number same holds = record { fault = e; same = same; holds = holds }

-- ---- of a font's glyphs

pub lines_of_taken : (f : KeptFont) (s : Segment) (glyphs : Sides) (end : ℕ) (breaks : List ℕ) (widths : Widths) (room now : List kus_line_t) (count : ℕ)
    → s ≡ f.segment → glyphs ≡ f.glyphs → AreLinesOf s.direction glyphs end breaks widths room now count → AreLinesOf f.segment.direction f.glyphs end breaks widths room now count
lines_of_taken f s glyphs end breaks widths room now count along same are =
    let P : Sides → Type 0 = λ gs. AreLinesOf f.segment.direction gs end breaks widths room now count in
    let Q : Segment → Type 0 = λ (t : Segment). AreLinesOf t.direction glyphs end breaks widths room now count in
    subst P same (subst Q along are)

pub taken_refuse_lines : (f : KeptFont) (s : Segment) (glyphs : Sides) (end : ℕ) (breaks : List ℕ) (number : ℕ)
    → s ≡ f.segment → glyphs ≡ f.glyphs → IsLinesRefusal s.direction glyphs end breaks number → IsLinesRefusal f.segment.direction f.glyphs end breaks number
taken_refuse_lines f s glyphs end breaks number along same refused =
    let P : Sides → Type 0 = λ gs. IsLinesRefusal f.segment.direction gs end breaks number in
    let Q : Segment → Type 0 = λ (t : Segment). IsLinesRefusal t.direction glyphs end breaks number in
    subst P same (subst Q along refused)
