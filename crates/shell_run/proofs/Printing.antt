-- What is printed of a buffer is what is printed of its reading.
use Rattle.std.proofs.Common.{ℕ, ◌≡◌, ◌+◌, ◌++◌, true, List, [], ◌∷◌, Ok, Err, refl, sym, ap, subst, ◌∙◌, arith}
use Rattle.std.specs.Prelude.{bit_and}
use Rattle.std.proofs.lemmas.Nat.{and_mask}
use Rattle.buffer_glyphs.specs.declared.info.hb_glyph_info_t.{hb_glyph_info_t}
use Rattle.buffer_glyphs.specs.Items.{clusters, item_of, strip, without_flags}
use Rattle.buffer_glyphs.specs.Origins.{numbers, origin_of, origins}
use Rattle.buffer_core.specs.Readings.{Follows, Reading, BufferState}
use Rattle.buffer_core.specs.Segment.{after_guess_segment_properties}
use Rattle.buffer_core.specs.Settings.{with_language}
use Rattle.buffer_core.specs.Text.{added_text, fits_text}
use Rattle.shell_run.specs.Output.{glyph_of, glyphs_of}
use Rattle.shape_pipeline.specs.Shaped.{text_reading}
use Rattle.shell_run.specs.Asked.{plain_buffer, text_buffer}
use Rattle.shell_readers.specs.Tables.{RunTables}
use Rattle.layout_face.specs.declared.parts.FaceParts.{FaceParts}
use Rattle.shell_readers.specs.declared.fault.RunFault.{RunFault}
use Rattle.shell_readers.specs.declared.options.Options.{Options}
use Rattle.buffer_core.specs.Sides.{Sides, all_glyphs, empty_buffer, state_of, with_added}
use Rattle.shell_run.specs.Answer.{IsUnshaped, lines_of, lines_of_reading, lines_of_run, printed_line, shaping}
use Rattle.shell_run.specs.Slices.{requested_lines}
use Rattle.buffer_glyphs.specs.Lemmas.Origins.{numbers_origins as clusters_again}
use Rattle.shape_pipeline.proofs.Agreeing.{whole_mask}

-- ---- a glyph is its item and its origin

glyph_again : (g : hb_glyph_info_t) → glyph_of (item_of g) (origin_of g) ≡ g
glyph_again g = rw (whole_mask g.mask) refl

glyphs_again : (gs : List hb_glyph_info_t) → glyphs_of (strip gs) (origins gs) ≡ gs
glyphs_again [] = refl
glyphs_again (g ∷ gs) = rw (glyph_again g, glyphs_again gs) refl

-- ---- the lines

-- what is printed of a buffer
abbrev pub printed_lines : FaceParts → Options → List ℕ → Sides → List ℕ
printed_lines font options text s = printed_line font options.flags (all_glyphs s) s.positions ++ requested_lines options.slices (clusters (all_glyphs s)) text

-- the lines of a buffer are those of its run
buffer_lines : (font : FaceParts) (options : Options) (text : List ℕ) (s : Sides) → lines_of_run font options text (state_of s) ≡ printed_lines font options text s
buffer_lines font options text s = rw (glyphs_again (all_glyphs s), clusters_again (all_glyphs s)) refl

lines_follow : (font : FaceParts) (options : Options) (text : List ℕ) (r : Reading) (old : BufferState) (s : Sides) → Follows r old (state_of s) → lines_of_reading font options text old r ≡ Ok (printed_lines font options text s)
lines_follow font options text (Ok r) old s f = ap (λ (run : BufferState). Ok (lines_of_run font options text run)) (sym f) ∙ ap Ok (buffer_lines font options text s)
lines_follow font options text (Err e) old s f = absurd f

-- a text that was not shaped has no lines
unshaped_lines : (font : FaceParts) (options : Options) (text : List ℕ) (run : BufferState) (r : Reading) (e : RunFault) → IsUnshaped r e → lines_of_reading font options text run r ≡ Err e
unshaped_lines font options text run r e h = ap (lines_of_reading font options text run) h.1 ∙ ap Err (sym h.2)

-- the buffer of a text, once the run's language is set
with_run_language : (options : Options) (text : List ℕ) (b : Sides) → b ≡ with_added (added_text text) (plain_buffer options)
    → with_language options.language (after_guess_segment_properties b) ≡ text_buffer options text
with_run_language options text b is = ap (λ (s : Sides). with_language options.language (after_guess_segment_properties s)) is

-- the lines of a text that fits
lines_of_fitting : (options : Options) (t : RunTables) (font : FaceParts) (text : List ℕ) (s : Sides) → s ≡ text_buffer options text → fits_text text empty_buffer ≡ true
    → lines_of options t font text ≡ lines_of_reading font options text (state_of s) (text_reading (shaping t font options.features.items s) (state_of s))
lines_of_fitting options t font text s is fits =
    let L : Sides → Type 0 = λ x. lines_of options t font text ≡ lines_of_reading font options text (state_of x) (text_reading (shaping t font options.features.items x) (state_of x)) in
    subst L (sym is) (rw fits refl)

module _ (options : Options) (t : RunTables) (font : FaceParts) (text : List ℕ) (b : Sides) (is : b ≡ with_added (added_text text) (plain_buffer options)) (fits : fits_text text empty_buffer ≡ true) where
  abbrev guessed : Sides
  guessed = after_guess_segment_properties b

  abbrev own : Reading
  own = text_reading (shaping t font options.features.items (with_language options.language guessed)) (state_of guessed)

  own_lines : lines_of options t font text ≡ lines_of_reading font options text (state_of guessed) own
  own_lines = lines_of_fitting options t font text (with_language options.language guessed) (with_run_language options text b is) fits

  -- the lines of a text that is shaped
  pub lines_shaped : (glyphs : Sides) (lines : List ℕ) → Follows own (state_of guessed) (state_of glyphs) → lines ≡ printed_lines font options text glyphs → lines_of options t font text ≡ Ok lines
  lines_shaped glyphs lines f e = own_lines ∙ lines_follow font options text own (state_of guessed) glyphs f ∙ ap Ok (sym e)

  -- the fault of a text that is not
  pub lines_unshaped : (e : RunFault) → IsUnshaped own e → lines_of options t font text ≡ Err e
  lines_unshaped e h = own_lines ∙ unshaped_lines font options text (state_of guessed) own e h
