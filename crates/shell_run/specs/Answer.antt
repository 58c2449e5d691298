-- What is printed for the bytes of tables, a font and a text, or the first fault in them.
use Rattle.std.specs.Prelude.{ℕ, ◌≡◌, ◌==◌, ◌-◌, if◌then◌else◌, List, [], ◌∷◌, ◌++◌, length, map, take, slice_index, Result, Ok, Err}
use Rattle.std.specs.Str.{is_utf8}
use Rattle.buffer_glyphs.specs.declared.info.hb_glyph_info_t.{hb_glyph_info_t}
use Rattle.buffer_glyphs.specs.declared.flags.SerializeFlags.{SerializeFlags}
use Rattle.buffer_tags.specs.declared.feature.Feature.{Feature}
use Rattle.buffer_glyphs.specs.declared.cause.ShapeCause.{ShapeCause}
use Rattle.buffer_glyphs.specs.declared.cause.ShapeCause.TheVariants.{TooLong}
use Rattle.shell_readers.specs.declared.fault.RunFault.{RunFault}
use Rattle.shell_readers.specs.declared.fault.RunFault.TheVariants.{NotUtf8, Shape}
use Rattle.shell_readers.specs.declared.options.Options.{Options}
use Rattle.shell_readers.specs.Fault.{fault_of_cause}
use Rattle.layout_common.specs.Rows.{value_of}
use Rattle.layout_face.specs.Glyphs.{name_of}
use Rattle.layout_face.specs.declared.parts.FaceParts.{FaceParts}
use Rattle.shape_pipeline.specs.Shaping.{Shaping}
use Rattle.shape_pipeline.specs.Shaped.{by_text, text_reading}
use Rattle.shell_run.specs.Asked.{text_buffer}
use Rattle.shell_readers.specs.Input.{IsInput, RunParts}
use Rattle.shell_readers.specs.Tables.{RunTables, language_tags}
use Rattle.shell_readers.specs.Values.{then_run}
use Rattle.buffer_glyphs.specs.Items.{Position}
use Rattle.buffer_glyphs.specs.Origins.{numbers}
use Rattle.buffer_core.specs.Readings.{Reading, BufferState, state_after}
use Rattle.buffer_wrappers.specs.Printed.{printed_text}
use Rattle.buffer_core.specs.Sides.{Sides, empty_buffer, state_of}
use Rattle.buffer_core.specs.Text.{fits_text}
use Rattle.script_categories.specs.LongestMatch.{syllable_at}
use Rattle.shell_run.specs.Lines.{Answer, answer_of_lines, answer_of_text, refusal, text_lines}
use Rattle.shell_run.specs.Output.{glyphs_of}
use Rattle.shell_run.specs.Slices.{requested_lines}

-- ---- bytes

-- a text without the one line feed at its end
abbrev pub without_line_feed : List ℕ → List ℕ
without_line_feed text = if slice_index text (length text - 1) == 10 then take (length text - 1) text else text

-- the text of bytes, which must be UTF-8
abbrev pub text_of : List ℕ → Result (List ℕ) RunFault
text_of bytes = if is_utf8 bytes then Ok (without_line_feed bytes) else Err NotUtf8

-- ---- glyphs

-- the printed text of glyphs, with the font's names and extents, and a line feed
abbrev pub printed_line : FaceParts → SerializeFlags → List hb_glyph_info_t → List Position → List ℕ
printed_line font flags gs ps = printed_text (λ glyph. name_of glyph font) (λ glyph. value_of glyph font.extents) flags gs ps ++ 10 ∷ []

-- the `Shaping` of a run's text
abbrev pub shaping : RunTables → FaceParts → List Feature → Sides → Shaping
shaping t font features s = by_text font t.characters (language_tags t.languages) (syllable_at t.syllables) features s

-- the line of a run: its items with the clusters and the glyph flags of their origins
abbrev pub line_of_run : FaceParts → SerializeFlags → BufferState → List ℕ
line_of_run font flags run = printed_line font flags (glyphs_of run.view.items run.origins) run.view.positions

-- the lines of a run: that of its glyphs, and after it, where they are requested, those of the text's slices by the clusters of its origins
abbrev pub lines_of_run : FaceParts → Options → List ℕ → BufferState → List ℕ
lines_of_run font options text run = line_of_run font options.flags run ++ requested_lines options.slices (numbers run.origins) text

-- the lines of a reading, whose clusters and glyph flags are those of the text after its events at the level
abbrev pub lines_of_reading : FaceParts → Options → List ℕ → BufferState → Reading → Result (List ℕ) RunFault
lines_of_reading font options text run (Ok r) = Ok (lines_of_run font options text (state_after r run))
lines_of_reading font options text run (Err e) = Err (fault_of_cause e)

-- the lines of a text that is shaped in a buffer
abbrev pub lines_of_text : Options → RunTables → FaceParts → List ℕ → Sides → Result (List ℕ) RunFault
lines_of_text options t font text s =
    lines_of_reading font options text (state_of s) (text_reading (shaping t font options.features.items s) (state_of s))

-- the fault of a text whose reading refuses names the reading's cause
abbrev pub IsUnshaped : Reading → RunFault → Type 0
IsUnshaped reading e = (cause : ShapeCause) × (reading ≡ Err cause) × (e ≡ fault_of_cause cause)

-- the lines of a text
abbrev pub lines_of : Options → RunTables → FaceParts → List ℕ → Result (List ℕ) RunFault
lines_of options t font text = if fits_text text empty_buffer then lines_of_text options t font text (text_buffer options text) else Err (Shape TooLong)

-- ---- a whole run

-- the lines of a text's bytes
unfoldable pub lines_in : Options → RunTables → FaceParts → List ℕ → Result (List ℕ) RunFault
lines_in options t font bytes = then_run (text_of bytes) (lines_of options t font)

-- the printed lines of each line of a text, or its fault
abbrev pub line_answers : Options → RunParts → List ℕ → List (Result (List ℕ) RunFault)
line_answers options input text = map (lines_in options input.tables input.font) (text_lines text)

-- what a text gives; with `lines` each of its lines is a text of its own
abbrev pub answer_in : Options → RunParts → List ℕ → Answer
answer_in options input text =
    if options.lines then answer_of_lines options.keep_going (line_answers options input text)
    else answer_of_text (lines_in options input.tables input.font text)

-- what a text gives, where tables and a font were read; their faults come before the text's, and then nothing is written
unfoldable pub answer_by : Options → Result RunParts RunFault → List ℕ → Answer
answer_by options (Ok input) text = answer_in options input text
answer_by options (Err fault) text = refusal fault

-- the answer to tables, a font and a text
unfoldable pub IsAnswer : Options → List ℕ → List ℕ → List ℕ → Answer → Type 0
IsAnswer options tables font text answer =
    (read : Result RunParts RunFault) × IsInput tables font read × (answer ≡ answer_by options read text)
