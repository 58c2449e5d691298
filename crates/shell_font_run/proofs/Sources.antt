-- What the program does with the sources that it asks for.
use Rattle.std.proofs.Common.{ℕ, ◌≡◌, true, List, [], ◌∷◌, Result, Ok, Err, sym, subst}
use Rattle.std.specs.Prelude.{⊤, Bool, Option, Some, None, IsErrAnd}
use Rattle.std.proofs.KnownBytes.{Keeps-refl}
use Rattle.shell_readers.specs.declared.fault.RunFault.{RunFault}
use Rattle.shell_words.specs.declared.font_options.FontLine.{FontLine}
use Rattle.shell_words.specs.Words.{font_settings_in}
use Rattle.shell_run.specs.Program.{Asks, Opening, Source}
use Rattle.shell_run.specs.Program.Source.{File, Input}
use Rattle.shell_run.proofs.Openings.{asks_none, asks_then}
use Rattle.shell_font_run.specs.declared.fault.FaultSubject.{FaultSubject}
use Rattle.shell_font_run.specs.declared.fault.FaultSubject.TheVariants as subject
use Rattle.shell_font_run.specs.declared.fault.FontRunFault.{FontRunFault}
use Rattle.shell_font_run.specs.Program.{AreBytes, DoesFont, FailsToRead, IsFontPrint, IsFontRun, PrintsFont, ReadsFont, RunsText, result_of}
use Rattle.shell_font_run.specs.Program.PrintsFont.{printed}
use Rattle.shell_font_run.specs.Program.ReadsFont.{read as font_read, unread as no_font}
use Rattle.shell_font_run.specs.Program.RunsText.{given, input, unread as no_text}

-- a fault that `?` passes on
pub passed_as : (result : Result ⊤ FontRunFault) (e : FontRunFault) (P : Result ⊤ FontRunFault → Type 0) → IsErrAnd result (λ (f : FontRunFault). f ≡ e) → P (Err e) → P result
passed_as (Ok done) e P h p = absurd h
passed_as (Err f) e P h p = subst (λ (x : FontRunFault). P (Err x)) (sym h) p

-- ---- a text

module _ (line : FontLine) (bytes : Source → Option (List ℕ)) (asked asked' : Option (List Opening)) (old new : Option (List ℕ)) (font : List ℕ) where
  -- the text is among the words
  pub text_given : (text : List ℕ) (result : Result ⊤ FontRunFault) → (font_settings_in line).text ≡ Some text
      → (end : Option RunFault) × (result ≡ result_of end) × IsFontRun line font text old new end
      → (openings : List Opening) × Asks asked asked openings × RunsText line bytes old new font openings result
  text_given text result is (end, same, run) =
      ([], asks_none asked, subst (λ (r : Result ⊤ FontRunFault). RunsText line bytes old new font [] r) (sym same) (given text end is run))

  -- the text is standard input's
  pub text_read : (opened : Bool) (text : List ℕ) (result : Result ⊤ FontRunFault) → (font_settings_in line).text ≡ None
      → Asks asked asked' ((Input, opened) ∷ []) → opened ≡ true → AreBytes (bytes Input) text
      → (end : Option RunFault) × (result ≡ result_of end) × IsFontRun line font text old new end
      → (openings : List Opening) × Asks asked asked' openings × RunsText line bytes old new font openings result
  text_read opened text result none asks is_open are (end, same, run) = (
    (Input, true) ∷ [],
    subst (λ (b : Bool). Asks asked asked' ((Input, b) ∷ [])) is_open asks,
    subst (λ (r : Result ⊤ FontRunFault). RunsText line bytes old new font ((Input, true) ∷ []) r) (sym same) (input text end none are run),
  )

  -- standard input can't be read
  pub text_unread : (opened : Bool) (cause : RunFault) → (font_settings_in line).text ≡ None
      → Asks asked asked' ((Input, opened) ∷ []) → FailsToRead (bytes Input) cause
      → (openings : List Opening) × Asks asked asked' openings × RunsText line bytes old old font openings (Err (record { cause = cause; subject = subject.Text }))
  text_unread opened cause none asks fails = ((Input, opened) ∷ [], asks, no_text opened cause none fails (Keeps-refl old))

-- sources whose bytes are the same
module _ (bytes bytes' : Source → Option (List ℕ)) (same : (source : Source) → bytes' source ≡ bytes source) where
  are_bytes_of : (source : Source) (bs : List ℕ) → AreBytes (bytes' source) bs → AreBytes (bytes source) bs
  are_bytes_of source bs are = let P : Option (List ℕ) → Type 0 = λ known. AreBytes known bs in subst P (same source) are

  fails_of : (source : Source) (cause : RunFault) → FailsToRead (bytes' source) cause → FailsToRead (bytes source) cause
  fails_of source cause fails = let P : Option (List ℕ) → Type 0 = λ known. FailsToRead known cause in subst P (same source) fails

  text_of_same : (line : FontLine) (old new : Option (List ℕ)) (font : List ℕ) (openings : List Opening) (result : Result ⊤ FontRunFault)
      → RunsText line bytes' old new font openings result → RunsText line bytes old new font openings result
  text_of_same line old new font openings result (given text end is run) = given text end is run
  text_of_same line old new font openings result (input text end none are run) = input text end none (are_bytes_of Input text are) run
  text_of_same line old new font openings result (no_text opened cause none fails kept) = no_text opened cause none (fails_of Input cause fails) kept

-- ---- a font file

module _ (name : List ℕ) (bytes : Source → Option (List ℕ)) (asked asked' : Option (List Opening)) (old : Option (List ℕ)) where
  -- the font file can't be read
  pub font_unread : (Then : List ℕ → List Opening → Result ⊤ FontRunFault → Type 0) (fault : FontRunFault)
      → (opened : Bool) × Asks asked asked' ((File name, opened) ∷ []) × (fault.subject ≡ subject.Font) × FailsToRead (bytes (File name)) fault.cause
      → DoesFont name bytes asked asked' old old Then (Err fault)
  font_unread Then fault (opened, asks, same, fails) =
      let P : FaultSubject → Type 0 = λ s. ReadsFont name bytes old old Then ((File name, opened) ∷ []) (Err (record { cause = fault.cause; subject = s })) in
      ((File name, opened) ∷ [], asks, subst P (sym same) (no_font opened fault.cause fails (Keeps-refl old)))

  -- a font is printed
  pub font_printed : (new : Option (List ℕ)) (face : ℕ) (font : List ℕ) (result : Result ⊤ FontRunFault) → Asks asked asked' ((File name, true) ∷ []) → AreBytes (bytes (File name)) font
      → (end : Option RunFault) × (result ≡ result_of end) × IsFontPrint face font old new end
      → DoesFont name bytes asked asked' old new (PrintsFont face old new) result
  font_printed new face font result asks are (end, same, print) = (
    (File name, true) ∷ [],
    asks,
    font_read font [] result are (subst (λ (r : Result ⊤ FontRunFault). PrintsFont face old new font [] r) (sym same) (printed end print)),
  )

  -- a text is shaped, with sources that reading the font leaves as they were
  pub font_shaped : (asked'' : Option (List Opening)) (bytes' : Source → Option (List ℕ)) (new : Option (List ℕ)) (line : FontLine) (font : List ℕ) (result : Result ⊤ FontRunFault)
      → ((source : Source) → bytes' source ≡ bytes source)
      → Asks asked asked' ((File name, true) ∷ []) → AreBytes (bytes (File name)) font
      → (openings : List Opening) × Asks asked' asked'' openings × RunsText line bytes' old new font openings result
      → DoesFont name bytes asked asked'' old new (RunsText line bytes old new) result
  font_shaped asked'' bytes' new line font result same asks are (openings, more, runs) = (
    (File name, true) ∷ openings,
    asks_then asked asked' asked'' ((File name, true) ∷ []) openings asks more,
    font_read font openings result are (text_of_same bytes bytes' same line old new font openings result runs),
  )
