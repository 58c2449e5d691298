-- What is read of a font, and texts that are shaped in it.
use Rattle.std.proofs.Common.{ℕ, ◌≡◌, ◌≢◌, List, inl, inr, sym, ap, subst, ◌∙◌}
use Rattle.std.specs.Prelude.{Some, None, Ok, Err}
use Rattle.buffer_core.specs.Segment.{after_guess_segment_properties}
use Rattle.buffer_core.specs.Sides.{Sides}
use Rattle.buffer_tags.specs.declared.feature.Feature.{Feature}
use Rattle.c_text.specs.declared.segment.Segment.{Segment}
use Rattle.c_text.specs.declared.types.kus_text_t.{kus_text_t}
use Rattle.c_text.specs.Fonts.{AreGlyphsOf, AreShaped, HasSegmentOf, IsFaultOf, IsFaultOfFile, IsUnshaped, KeptFont, new_font}
use Rattle.c_text.specs.Replacements.{with_replacements}
use Rattle.c_text.specs.declared.replacements.ReplacementGlyphs.{ReplacementGlyphs}
use Rattle.c_text.specs.Texts.{IsTextOf, features_of, text_fault}
use Rattle.font_file.specs.declared.parts.FontParts.{FontParts}
use Rattle.shell_fonts.specs.Fonts.{AreLibraryTables, font_of}
use Rattle.shell_readers.specs.declared.fault.RunFault.{RunFault}
use Rattle.shell_readers.specs.declared.fault.RunFault.TheVariants.{OutOfMemory}
use Rattle.shell_readers.specs.declared.input.RunInput.{RunInput}
use Rattle.shell_readers.specs.declared.tables.TextTables.{TextTables}
use Rattle.shell_readers.specs.Input.{IsInput, font_in, input_value}
use Rattle.shell_readers.specs.Tables.{AreLawfulTables, tables_value}
use Rattle.shell_readers.proofs.Reading.{both_read, font_refused, tables_faulty}

-- ---- tables and fonts

-- a font that was read over lawful tables is, with them, what reading both gives
pub input_of_font : (tables font : List ℕ) (t : TextTables) (i : RunInput) (f : KeptFont)
    → AreLawfulTables tables (Ok (tables_value t)) → i.tables ≡ t → font_in font ≡ Ok i.face → f ≡ new_font i → IsInput tables font (Ok (input_value f.input))
input_of_font tables font t i f lawful same is new =
    let P : TextTables → Type 0 = λ x. AreLawfulTables tables (Ok (tables_value x)) in
    let Q : RunInput → Type 0 = λ x. IsInput tables font (Ok (input_value x)) in
    subst Q (sym (ap (λ (k : KeptFont). k.input) new)) (both_read tables font (tables_value i.tables) i.face (subst P (sym same) lawful) is)

pub fault_of_tables : (tables font : List ℕ) (e : RunFault) → (e ≢ OutOfMemory → AreLawfulTables tables (Err e)) → e ≢ OutOfMemory → IsInput tables font (Err e)
fault_of_tables tables font e fault memory = tables_faulty tables font e (fault memory)

pub fault_of_font : (tables font : List ℕ) (t : TextTables) (e : RunFault)
    → AreLawfulTables tables (Ok (tables_value t)) → (e ≢ OutOfMemory → font_in font ≡ Err e) → e ≢ OutOfMemory → IsInput tables font (Err e)
fault_of_font tables font t e lawful fault memory = font_refused tables font (tables_value t) e lawful (fault memory)

-- ---- font files

pub fault_of_library : (parts : FontParts) (bytes : List ℕ) (index : ℕ) (e : RunFault)
    → (e ≢ OutOfMemory → AreLibraryTables (Err e)) → e ≢ OutOfMemory → IsFaultOfFile parts bytes index e
fault_of_library parts bytes index e fault memory = inl (fault memory)

pub fault_of_file : (parts : FontParts) (bytes : List ℕ) (index : ℕ) (e : RunFault)
    → (e ≢ OutOfMemory → font_of parts bytes index ≡ Err e) → e ≢ OutOfMemory → IsFaultOfFile parts bytes index e
fault_of_file parts bytes index e fault memory = inr (fault memory)

-- ---- texts

pub glyphs_of_text : (input : RunInput) (r : ReplacementGlyphs) (t : kus_text_t) (features : List Feature) (buffer replaced glyphs : Sides)
    → features ≡ features_of t → IsTextOf t buffer → replaced ≡ with_replacements r buffer → AreShaped input features replaced glyphs → AreGlyphsOf input r t glyphs
glyphs_of_text input r t features buffer replaced glyphs same is set shaped =
    let P : List Feature → Type 0 = λ fs. AreShaped input fs replaced glyphs in
    let Q : Sides → Type 0 = λ s. AreShaped input (features_of t) s glyphs in
    record { buffer = buffer; of_text = is; shaped = subst Q set (subst P same shaped) }

pub fault_of_bytes : (input : RunInput) (r : ReplacementGlyphs) (t : kus_text_t) (e : RunFault) → (e ≢ OutOfMemory → text_fault t ≡ Some e) → e ≢ OutOfMemory → IsFaultOf input r t e
fault_of_bytes input r t e fault memory = inl (fault memory)

pub fault_of_reading : (input : RunInput) (r : ReplacementGlyphs) (t : kus_text_t) (features : List Feature) (buffer replaced : Sides) (e : RunFault)
    → features ≡ features_of t → IsTextOf t buffer → replaced ≡ with_replacements r buffer → (e ≢ OutOfMemory → IsUnshaped input features replaced e) → e ≢ OutOfMemory → IsFaultOf input r t e
fault_of_reading input r t features buffer replaced e same is set fault memory =
    let P : List Feature → Type 0 = λ fs. IsUnshaped input fs replaced e in
    let Q : Sides → Type 0 = λ s. IsUnshaped input (features_of t) s e in
    inr (record { buffer = buffer; of_text = is; unshaped = subst Q set (subst P same (fault memory)) })

-- the direction and the script that a text was shaped by are the text's, which replacements leave
pub segment_of_text : (r : ReplacementGlyphs) (t : kus_text_t) (buffer replaced shaped : Sides) (segment : Segment) → IsTextOf t buffer → replaced ≡ with_replacements r buffer
    → shaped.direction ≡ (after_guess_segment_properties replaced).direction → shaped.script ≡ (after_guess_segment_properties replaced).script
    → segment.direction ≡ shaped.direction → segment.script ≡ shaped.script → HasSegmentOf t segment
segment_of_text r t buffer replaced shaped segment is set direction script same_direction same_script =
    record {
      buffer = buffer;
      of_text = is;
      direction = same_direction ∙ direction ∙ ap (λ (s : Sides). (after_guess_segment_properties s).direction) set;
      script = same_script ∙ script ∙ ap (λ (s : Sides). (after_guess_segment_properties s).script) set;
    }
