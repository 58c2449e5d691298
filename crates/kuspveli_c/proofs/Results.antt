-- What the calls leave in handles and arrays, and the numbers that they answer.
use Rattle.std.proofs.Common.{ℕ, ◌≡◌, ◌≢◌, ◌++◌, List, [], map, length, sym, ap, subst, ◌∙◌}
use Rattle.std.specs.Prelude.{Bool, true, false, IsTrue, ◌↔◌, Option, Some, None, Ok}
use Rattle.std.proofs.lemmas.Bool.{false≢true}
use Rattle.std.proofs.Math.Seq.{take-nil}
use Rattle.buffer_core.specs.Sides.{all_glyphs}
use Rattle.c_text.specs.declared.types.kus_glyph_info_t.{kus_glyph_info_t}
use Rattle.c_text.specs.declared.types.kus_glyph_position_t.{kus_glyph_position_t}
use Rattle.c_text.specs.Fonts.{HasLibraryTables, HasRead, HasReadFile, HasReadFileOver, HasReadOver, HasReadTables, IsNumberOf, KeptFont, file_font, glyphs_of, new_font, positions_of}
use Rattle.c_text.specs.Numbers.{fault_number}
use Rattle.c_text.specs.Written.{info_of, with_front}
use Rattle.font_file.specs.declared.parts.FontParts.{FontParts}
use Rattle.shell_fonts.specs.Fonts.{AreLibraryTables, font_of}
use Rattle.shell_readers.specs.declared.fault.RunFault.{RunFault}
use Rattle.shell_readers.specs.declared.fault.RunFault.TheVariants.{OutOfMemory}
use Rattle.shell_readers.specs.declared.tables.TextTables.{TextTables}
use Rattle.shell_readers.specs.Input.{IsInput, font_in, input_value}
use Rattle.shell_readers.specs.Tables.{AreLawfulTables, tables_value}

-- a fault whose number is not that of lack of memory is no lack of memory
pub number_of_fault : (Holds : RunFault → Type 0) (e : RunFault) (number : ℕ) → number ≡ fault_number e → (e ≢ OutOfMemory → Holds e) → number ≢ 1 → IsNumberOf Holds number
number_of_fault Holds e number same holds memory =
    record { fault = e; same = same; holds = holds (λ none. memory (same ∙ ap fault_number none)) }

-- ---- formats

-- JSON says that it is of the other format
pub other_format : (b : Bool) (number : ℕ) → b ≡ true → number ≡ 19 → (number ≡ 19) ↔ IsTrue b
other_format b number is same = (λ _. is, λ _. same)

-- JSON doesn't say so
pub own_format : (b : Bool) (number : ℕ) → b ≡ false → number ≢ 19 → (number ≡ 19) ↔ IsTrue b
own_format b number not_so other = (λ same. absurd (other same), λ so. absurd (false≢true (sym not_so ∙ so)))

-- ---- tables, and fonts over them

pub tables_were_read : (bytes : List ℕ) (t : TextTables) (kept : Option TextTables) → kept ≡ Some t → AreLawfulTables bytes (Ok (tables_value t)) → HasReadTables bytes kept
tables_were_read bytes t kept same read = record { tables = t; read = read; same = same }

pub font_was_read_over : (tables : Option TextTables) (t : TextTables) (font : List ℕ) (f : KeptFont) (kept : Option KeptFont) → tables ≡ Some t → kept ≡ Some f
    → f ≡ new_font f.input → f.input.tables ≡ t → font_in font ≡ Ok f.input.face → HasReadOver tables font kept
font_was_read_over tables t font f kept there same new shared read = record { input = f.input; tables = there ∙ ap Some (sym shared); read = read; new = same ∙ ap Some new }

pub library_tables_were_read : (t : TextTables) (kept : Option TextTables) → kept ≡ Some t → AreLibraryTables (Ok (tables_value t)) → HasLibraryTables kept
library_tables_were_read t kept same read = record { tables = t; read = read; same = same }

pub file_was_read_over : (tables : Option TextTables) (t : TextTables) (parts : FontParts) (bytes : List ℕ) (index : ℕ) (f : KeptFont) (kept : Option KeptFont) → tables ≡ Some t → kept ≡ Some f
    → f ≡ file_font bytes index f.input → f.input.tables ≡ t → font_of parts bytes index ≡ Ok f.input.face → HasReadFileOver tables parts bytes index kept
file_was_read_over tables t parts bytes index f kept there same new shared read =
    record { input = f.input; tables = there ∙ ap Some (sym shared); read = read; new = same ∙ ap Some new }

pub file_was_read : (parts : FontParts) (bytes : List ℕ) (index : ℕ) (f : KeptFont) (kept : Option KeptFont) → kept ≡ Some f → f ≡ file_font bytes index f.input
    → AreLibraryTables (Ok (tables_value f.input.tables)) → font_of parts bytes index ≡ Ok f.input.face → HasReadFile parts bytes index kept
file_was_read parts bytes index f kept same new tables read = record { input = f.input; tables = tables; read = read; new = same ∙ ap Some new }

pub font_was_read : (tables font : List ℕ) (f : KeptFont) (kept : Option KeptFont) → kept ≡ Some f → f ≡ new_font f.input → IsInput tables font (Ok (input_value f.input)) → HasRead tables font kept
font_was_read tables font f kept same new read = record { input = f.input; read = read; new = same ∙ ap Some new }

-- ---- where there is no font, nothing is written

pub none_written : {A : Type 0} (room : List A) → with_front [] room ≡ room
none_written room = ap (λ l. l ++ room) (take-nil (length room))

pub no_infos : (font : Option KeptFont) (room now : List kus_glyph_info_t) → font ≡ None → now ≡ room → now ≡ with_front (map info_of (all_glyphs (glyphs_of font))) room
no_infos font room now none same =
    let P : Option KeptFont → Type 0 = λ f. now ≡ with_front (map info_of (all_glyphs (glyphs_of f))) room in
    subst P (sym none) (same ∙ sym (none_written room))

pub no_positions : (font : Option KeptFont) (room now : List kus_glyph_position_t) → font ≡ None → now ≡ room → now ≡ with_front (positions_of font) room
no_positions font room now none same =
    let P : Option KeptFont → Type 0 = λ f. now ≡ with_front (positions_of f) room in
    subst P (sym none) (same ∙ sym (none_written room))
