-- Lines and carets of a handle's font.
use Rattle.std.proofs.Common.{ℕ, ◌≡◌, ◌≢◌, List, sym, ap, subst}
use Rattle.std.specs.Prelude.{IfSome, Option, Some}
use Rattle.c_lines.specs.Checked.{AreChecked, premises_numbered}
use Rattle.c_lines.specs.Carets.{AreCaretsOf, IsCaretsFault, IsCaretsRefusal}
use Rattle.c_lines.specs.Lines.{AreLinesOf, IsLinesFault, IsLinesRefusal}
use Rattle.c_lines.specs.declared.types.kus_caret_t.{kus_caret_t}
use Rattle.c_lines.specs.declared.types.kus_line_t.{kus_line_t}
use Rattle.c_text.specs.Fonts.{IsNumberOf, KeptFont, glyphs_of, ligatures_of, segment_in}
use Rattle.c_text.specs.Numbers.{fault_number}
use Rattle.c_text.specs.Texts.{text_fault}
use Rattle.c_text.specs.declared.types.kus_text_t.{kus_text_t}
use Rattle.line_pieces.specs.declared.lines.Widths.{Widths}
use Rattle.shape_breaks.specs.Cuts.{AreTested}
use Rattle.shape_breaks.specs.declared.premises.BreakPremises.{BreakPremises}
use Rattle.shell_readers.specs.declared.fault.RunFault.{RunFault}
use Rattle.shell_readers.specs.declared.fault.RunFault.TheVariants.{OutOfMemory}
use Rattle.kuspveli_c.proofs.Results.{number_of_fault}

pub lines_of_font : (font : Option KeptFont) (f : KeptFont) (end : ℕ) (breaks : List ℕ) (widths : Widths) (room now : List kus_line_t) (count : ℕ)
    → font ≡ Some f → AreLinesOf f.segment.direction f.glyphs end breaks widths room now count → AreLinesOf (segment_in font).direction (glyphs_of font) end breaks widths room now count
lines_of_font font f end breaks widths room now count there are =
    let P : Option KeptFont → Type 0 = λ k. AreLinesOf (segment_in k).direction (glyphs_of k) end breaks widths room now count in
    subst P (sym there) are

pub font_refuses_lines : (font : Option KeptFont) (f : KeptFont) (end : ℕ) (breaks : List ℕ) (number : ℕ) → font ≡ Some f → IsLinesRefusal f.segment.direction f.glyphs end breaks number → IsLinesFault font end breaks number
font_refuses_lines font f end breaks number there refused =
    let P : Option KeptFont → Type 0 = λ k. IsLinesFault k end breaks number in
    subst P (sym there) refused

pub carets_of_font : (font : Option KeptFont) (f : KeptFont) (end : ℕ) (stops : List ℕ) (room now : List kus_caret_t) (count : ℕ)
    → font ≡ Some f → AreCaretsOf f.segment.direction f.ligatures f.glyphs end stops room now count → AreCaretsOf (segment_in font).direction (ligatures_of font) (glyphs_of font) end stops room now count
carets_of_font font f end stops room now count there are =
    let P : Option KeptFont → Type 0 = λ k. AreCaretsOf (segment_in k).direction (ligatures_of k) (glyphs_of k) end stops room now count in
    subst P (sym there) are

pub font_refuses_carets : (font : Option KeptFont) (f : KeptFont) (end : ℕ) (stops : List ℕ) (number : ℕ) → font ≡ Some f → IsCaretsRefusal f.segment.direction f.glyphs end stops number → IsCaretsFault font end stops number
font_refuses_carets font f end stops number there refused =
    let P : Option KeptFont → Type 0 = λ k. IsCaretsFault k end stops number in
    subst P (sym there) refused

-- ---- premises of safe breaks

pub premises_of_font : (font : Option KeptFont) (f : KeptFont) (n : ℕ) → font ≡ Some f → AreTested f.input.tables.characters f.input.face (premises_numbered n)
    → IfSome font (λ (k : KeptFont). AreTested k.input.tables.characters k.input.face (premises_numbered n))
premises_of_font font f n there tested =
    let P : Option KeptFont → Type 0 = λ o. IfSome o (λ (k : KeptFont). AreTested k.input.tables.characters k.input.face (premises_numbered n)) in
    subst P (sym there) tested

pub checked_of_font : (font : Option KeptFont) (f : KeptFont) (b : BreakPremises) (text : kus_text_t) (before now : List kus_line_t) → font ≡ Some f → AreChecked f.input b text before now
    → IfSome font (λ (k : KeptFont). AreChecked k.input b text before now)
checked_of_font font f b text before now there checked =
    let P : Option KeptFont → Type 0 = λ o. IfSome o (λ (k : KeptFont). AreChecked k.input b text before now) in
    subst P (sym there) checked

pub check_refused : (font : Option KeptFont) (f : KeptFont) (text : kus_text_t) (e : RunFault) (number : ℕ) → font ≡ Some f → number ≡ fault_number e → (e ≢ OutOfMemory → text_fault text ≡ Some e) → number ≢ 1
    → IfSome font (λ (k : KeptFont). IsNumberOf (λ (x : RunFault). text_fault text ≡ Some x) number)
check_refused font f text e number there same holds memory =
    let P : Option KeptFont → Type 0 = λ o. IfSome o (λ (k : KeptFont). IsNumberOf (λ (x : RunFault). text_fault text ≡ Some x) number) in
    subst P (sym there) (number_of_fault (λ (x : RunFault). text_fault text ≡ Some x) e number same holds memory)
