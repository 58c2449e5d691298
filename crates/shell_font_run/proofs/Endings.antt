-- How the program ends, by what its command-line words request.
use Rattle.std.proofs.Common.{ℕ, ◌≡◌, ◌≢◌, List, [], Result, Ok, Err, sym, subst}
use Rattle.std.specs.Prelude.{⊤, Option, Some, None, string_bytes}
use Rattle.std.specs.Io.KnownBytes.{Appends}
use Rattle.std.proofs.KnownBytes.{Keeps-refl}
use Rattle.shell_readers.specs.declared.fault.RunFault.{RunFault}
use Rattle.shell_readers.specs.declared.fault.RunFault.TheVariants.{OutOfMemory, Write}
use Rattle.shell_words.specs.declared.font_options.FontLine.{FontLine}
use Rattle.shell_words.specs.Words.{font_request_of, font_settings_in}
use Rattle.shell_words.specs.Words.FontRequest.{PrintingFont, Shaping, Usage, Version}
use Rattle.shell_run.specs.declared.program.Ending.{Ending}
use Rattle.shell_run.specs.Program.{Opening, Reports, Source}
use Rattle.shell_run.specs.Run.{AppendsFront}
use Rattle.shell_run.proofs.Openings.{asks_none}
use Rattle.shell_font_run.specs.declared.fault.FontRunFault.{FontRunFault}
use Rattle.shell_font_run.specs.declared.texts.TheConstants.{USAGE, VERSION_LINE}
use Rattle.shell_font_run.specs.Program.{DoesFont, EndsFontProgram, IsFontProgram, IsSaying, PrintsFont, RunsText, cause_of, fault_of_run, line_of, line_of_fault, result_of}
use Rattle.shell_font_run.specs.Program.IsFontProgram.{no_memory, printing, refused, shaping, usage, version}
use Rattle.shell_font_run.specs.Program.IsSaying.{cut, said}

module _ (words : List (List ℕ)) (bytes : Source → Option (List ℕ)) (asked : Option (List Opening)) (old err_old err_new : Option (List ℕ)) (ending : Ending) where
  refused_as : (e : RunFault) → (e ≢ OutOfMemory → font_request_of words ≡ Err e) → IsFontProgram words bytes old old [] (Some e) (line_of_fault [] (fault_of_run e))
  refused_as OutOfMemory h = no_memory (Keeps-refl old)
  refused_as e h = refused e (h (λ bad. cc)) (Keeps-refl old)

  -- the words are refused, or memory is short
  pub ends_with_words : (e : RunFault) → (e ≢ OutOfMemory → font_request_of words ≡ Err e) → ending.fault ≡ Some e
      → Reports ending.is_reported err_old err_new (line_of_fault [] (fault_of_run e))
      → EndsFontProgram words bytes asked asked old old err_old err_new ending
  ends_with_words e h fault reported =
      let P : Option RunFault → Type 0 = λ end. IsFontProgram words bytes old old [] end (line_of_fault [] (fault_of_run e)) in
      ([], line_of_fault [] (fault_of_run e), asks_none asked, subst P (sym fault) (refused_as e h), reported)

  -- a text of the program's own is written
  pub ends_with_usage : (new : Option (List ℕ)) → font_request_of words ≡ Ok Usage → IsSaying USAGE.now old new ending.fault
      → Reports ending.is_reported err_old err_new (line_of [] (result_of ending.fault))
      → EndsFontProgram words bytes asked asked old new err_old err_new ending
  ends_with_usage new request is reported =
      ([], line_of [] (result_of ending.fault), asks_none asked, usage ending.fault request is, reported)

  pub ends_with_version : (new : Option (List ℕ)) → font_request_of words ≡ Ok Version → IsSaying VERSION_LINE.now old new ending.fault
      → Reports ending.is_reported err_old err_new (line_of [] (result_of ending.fault))
      → EndsFontProgram words bytes asked asked old new err_old err_new ending
  ends_with_version new request is reported =
      ([], line_of [] (result_of ending.fault), asks_none asked, version ending.fault request is, reported)

  -- a text is shaped
  pub ends_with_shaping : (asked' : Option (List Opening)) (new : Option (List ℕ)) (line : FontLine) → font_request_of words ≡ Ok (Shaping (font_settings_in line))
      → (ran : Result ⊤ FontRunFault) × DoesFont (string_bytes line.font) bytes asked asked' old new (RunsText line bytes old new) ran
      × (ending.fault ≡ cause_of ran) × Reports ending.is_reported err_old err_new (line_of (string_bytes line.font) ran)
      → EndsFontProgram words bytes asked asked' old new err_old err_new ending
  ends_with_shaping asked' new line request (ran, does, fault, reported) =
      let told = line_of (string_bytes line.font) ran in
      let P : Option RunFault → Type 0 = λ end. IsFontProgram words bytes old new does.0 end told in
      (does.0, told, does.1, subst P (sym fault) (shaping line does.0 ran request does.2), reported)

  -- a font is printed
  pub ends_with_printing : (asked' : Option (List Opening)) (new : Option (List ℕ)) (name : List ℕ) (face : ℕ) → font_request_of words ≡ Ok (PrintingFont name face)
      → (ran : Result ⊤ FontRunFault) × DoesFont name bytes asked asked' old new (PrintsFont face old new) ran
      × (ending.fault ≡ cause_of ran) × Reports ending.is_reported err_old err_new (line_of name ran)
      → EndsFontProgram words bytes asked asked' old new err_old err_new ending
  ends_with_printing asked' new name face request (ran, does, fault, reported) =
      let told = line_of name ran in
      let P : Option RunFault → Type 0 = λ end. IsFontProgram words bytes old new does.0 end told in
      (does.0, told, does.1, subst P (sym fault) (printing name face does.0 ran request does.2), reported)

-- what writing a text of the program's own does, by the result of writing
pub is_said : (text : List ℕ) (old new : Option (List ℕ)) (end : Option RunFault) → end ≡ None → Appends old new text → IsSaying text old new end
is_said text old new end same written = let P : Option RunFault → Type 0 = λ e. IsSaying text old new e in subst P (sym same) (said written)

pub is_cut : (text : List ℕ) (old new : Option (List ℕ)) (end : Option RunFault) (cause : RunFault) → end ≡ Some cause → cause ≡ Write → AppendsFront old new text → IsSaying text old new end
is_cut text old new end cause same write front = let P : Option RunFault → Type 0 = λ e. IsSaying text old new e in
    let Q : RunFault → Type 0 = λ c. IsSaying text old new (Some c) in subst P (sym same) (subst Q (sym write) (cut front))
