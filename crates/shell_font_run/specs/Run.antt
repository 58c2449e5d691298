-- What is printed for the bytes of a font file and a text, or of a font, or the first fault in them.
use Rattle.std.specs.Prelude.{ℕ, ◌≡◌, List, Result, Ok, Err, not, true}
use Rattle.buffer_glyphs.specs.declared.flags.SerializeFlags.{SerializeFlags}
use Rattle.buffer_wrappers.specs.Printed.{drops_names}
use Rattle.font_file.specs.Parts.{all_parts}
use Rattle.layout_face.specs.declared.parts.FaceParts.{FaceParts}
use Rattle.shell_face_print.specs.Face.{font_text}
use Rattle.font_file.specs.declared.parts.FontParts.{FontParts}
use Rattle.shell_readers.specs.declared.fault.RunFault.{RunFault}
use Rattle.shell_readers.specs.declared.options.Options.{Options}
use Rattle.shell_readers.specs.Input.{RunParts}
use Rattle.shell_fonts.specs.Fonts.{IsFontInput, font_of}
use Rattle.shell_run.specs.Answer.{answer_by}
use Rattle.shell_run.specs.Lines.{Answer, printed_answer, refusal, with_line_feed}

-- the parts of a font that are read: all, without the names of glyphs where they aren't printed (NO_GLYPH_NAMES)
abbrev pub parts_of : SerializeFlags → FontParts
parts_of flags = record { extents = true; names = not (drops_names flags) }

-- the answer to a font file, the index of its font, and a text
unfoldable pub IsFontAnswer : Options → ℕ → List ℕ → List ℕ → Answer → Type 0
IsFontAnswer options face font text answer = (read : Result RunParts RunFault) × IsFontInput (parts_of options.flags) font face read × (answer ≡ answer_by options read text)

-- the answer to a font that is printed, its JSON and a line feed, or to the fault of reading it
abbrev pub answer_of_font : Result FaceParts RunFault → Answer
answer_of_font (Ok face) = printed_answer (with_line_feed (font_text face))
answer_of_font (Err fault) = refusal fault

-- the answer to the index of a font that is printed, and a font file
abbrev pub font_answer : ℕ → List ℕ → Answer
font_answer face font = answer_of_font (font_of all_parts font face)
