-- What a run over a font file gives.
use Rattle.std.proofs.Common.{ℕ, ◌≡◌, List, [], Ok, Err, refl, sym}
use Rattle.std.specs.Prelude.{Option, Some}
use Rattle.std.specs.Io.KnownBytes.{Appends}
use Rattle.std.proofs.KnownBytes.{Appends-nil}
use Rattle.shell_readers.specs.declared.fault.RunFault.{RunFault}
use Rattle.shell_readers.specs.declared.options.Options.{Options}
use Rattle.shell_readers.specs.Input.{RunParts}
use Rattle.shell_fonts.specs.Fonts.{IsFontInput}
use Rattle.shell_run.specs.Answer.{answer_by, answer_in}
use Rattle.shell_run.specs.Lines.{Answer, refusal}
use Rattle.shell_run.specs.Run.{OfAnswer, SomeBytes}
use Rattle.shell_font_run.specs.Run.{IsFontAnswer, parts_of}

module _ (options : Options) (face : ℕ) (font text : List ℕ) where
  answered : (input : RunParts) (answer : Answer) → IsFontInput (parts_of options.flags) font face (Ok input) → answer_in options input text ≡ answer → IsFontAnswer options face font text answer
  unfolding IsFontAnswer answer_by
  answered input answer read same = (Ok input, read, sym same)

  refused : (e : RunFault) → IsFontInput (parts_of options.flags) font face (Err e) → IsFontAnswer options face font text (refusal e)
  unfolding IsFontAnswer answer_by
  refused e read = (Err e, read, refl)

  -- a font file that is refused writes nothing
  pub was_refused : (e : RunFault) (out : Option (List ℕ)) → IsFontInput (parts_of options.flags) font face (Err e) → SomeBytes (IsFontAnswer options face font text) (Some e) (Appends out out)
  was_refused e out read = ([], refused e read, Appends-nil out)

  -- the bytes of an answer by what was read are those of the whole answer
  pub some_bytes : (input : RunParts) (fault : Option RunFault) (P : List ℕ → Type 0) → IsFontInput (parts_of options.flags) font face (Ok input)
      → SomeBytes (λ answer. answer_in options input text ≡ answer) fault P → SomeBytes (IsFontAnswer options face font text) fault P
  some_bytes input fault P read (bytes, same, p) = (bytes, answered input _ read same, p)

  -- a prefix of the answer by what was read is one of the whole answer
  pub of_answer : (input : RunParts) (P : List ℕ → Type 0) → IsFontInput (parts_of options.flags) font face (Ok input) → P (answer_in options input text).written → OfAnswer (IsFontAnswer options face font text) P
  of_answer input P read p = (answer_in options input text, answered input _ read refl, p)
