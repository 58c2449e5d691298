-- What a run gives, by its options.
use Rattle.std.proofs.Common.{ℕ, ◌≡◌, ◌≢◌, ◌&&◌, Bool, true, false, List, Result, Ok, Err, refl, sym, ap, subst, ◌∙◌, inl, inr}
use Rattle.std.specs.Prelude.{◌⊎◌, Option, Some, None, IfErr, IfSome, OnOk, OnErr}
use Rattle.std.specs.List.{flat_map}
use Rattle.shell_readers.specs.declared.fault.RunFault.{RunFault}
use Rattle.shell_readers.specs.declared.fault.RunFault.TheVariants.{Line, OutOfMemory, ReadLimit, Write}
use Rattle.shell_readers.specs.declared.options.Options.{Options}
use Rattle.shell_readers.specs.Faults.{IsOfBytes, IsOfRun}
use Rattle.shell_readers.specs.Input.{IsInput, RunParts}
use Rattle.shell_run.specs.Answer.{IsAnswer, answer_by, answer_in, line_answers}
use Rattle.shell_run.specs.Lines.{Answer, IsOfLine, first_fault, printed_answer, printed_or_named, refusal, up_to_fault}
use Rattle.shell_run.specs.Run.{OfAnswer, OnKnown, SomeBytes, keeps_going, may_have_written}

-- ---- what a text gives

module _ (options : Options) (input : RunParts) (text : List ℕ) where
  ends_by : (lines keeps : Bool) → lines ≡ true → (lines && keeps) ≡ false → keeps ≡ false
  ends_by true keeps is not = not
  ends_by false keeps is not = cc

  up_to : options.lines ≡ true → keeps_going options ≡ false → answer_in options input text ≡ up_to_fault (first_fault 1 (line_answers options input text)) (flat_map printed_or_named (line_answers options input text))
  up_to lines stops = let ends = ends_by options.lines options.keep_going lines stops in rw (lines, ends) refl

  -- the lines are printed
  pub lines_printed : (printed : List ℕ) → options.lines ≡ true → keeps_going options ≡ false → flat_map printed_or_named (line_answers options input text) ≡ printed → first_fault 1 (line_answers options input text) ≡ None
      → answer_in options input text ≡ printed_answer printed
  lines_printed printed lines stops are none =
      up_to lines stops ∙ ap (λ (o : Option RunFault). up_to_fault o (flat_map printed_or_named (line_answers options input text))) none ∙ ap printed_answer are

  -- a line is refused
  pub line_refuses : (e : RunFault) → options.lines ≡ true → keeps_going options ≡ false → first_fault 1 (line_answers options input text) ≡ Some e → answer_in options input text ≡ refusal e
  line_refuses e lines stops first =
      up_to lines stops ∙ ap (λ (o : Option RunFault). up_to_fault o (flat_map printed_or_named (line_answers options input text))) first

  -- refused lines are named
  pub lines_named : options.lines ≡ true → options.keep_going ≡ true
      → answer_in options input text ≡ record { written = flat_map printed_or_named (line_answers options input text); fault = first_fault 1 (line_answers options input text) }
  lines_named lines going = rw (lines, going) refl

-- ---- a run

module _ (options : Options) (tables font text : List ℕ) where
  pub answered : (input : RunParts) (answer : Answer) → IsInput tables font (Ok input) → answer_in options input text ≡ answer → IsAnswer options tables font text answer
  unfolding IsAnswer answer_by
  answered input answer read same = (Ok input, read, sym same)

  pub refused : (e : RunFault) → IsInput tables font (Err e) → IsAnswer options tables font text (refusal e)
  unfolding IsAnswer answer_by
  refused e read = (Err e, read, refl)

  pub some_bytes : (input : RunParts) (fault : Option RunFault) (P : List ℕ → Type 0) → IsInput tables font (Ok input) → SomeBytes (λ answer. answer_in options input text ≡ answer) fault P → SomeBytes (IsAnswer options tables font text) fault P
  some_bytes input fault P read (bytes, same, p) = (bytes, answered input _ read same, p)

  pub of_answer : (input : RunParts) (P : List ℕ → Type 0) → IsInput tables font (Ok input) → P (answer_in options input text).written → OfAnswer (IsAnswer options tables font text) P
  of_answer input P read p = (answer_in options input text, answered input _ read refl, p)

-- what holds of the bytes that were read holds of those that the readers had, where they are known
pub on_known : (P : List ℕ → List ℕ → List ℕ → Type 0) (ts fs xs : Option (List ℕ)) (a b c : List ℕ) → IfSome ts (λ x. a ≡ x) → IfSome fs (λ x. b ≡ x) → IfSome xs (λ x. c ≡ x) → P a b c → OnKnown ts fs xs P
on_known P (Some ts) (Some fs) (Some xs) a b c p q r h = rw (← p, ← q, ← r) h
on_known P (Some ts) (Some fs) None a b c p q r h = tt
on_known P (Some ts) None xs a b c p q r h = tt
on_known P None fs xs a b c p q r h = tt

pub not_memory : (e : RunFault) → IsOfBytes e → e ≢ OutOfMemory
not_memory OutOfMemory h = absurd h
not_memory _ h = λ bad. cc

-- where refused lines are named, bytes may have been written before all faults that come after the reading
pub may_be_written : (options : Options) (e : RunFault) → options.lines ≡ true → options.keep_going ≡ true → (e ≡ Write) ⊎ (e ≡ OutOfMemory) ⊎ IsOfLine e → may_have_written options e ≡ true
may_be_written options e lines going (inl write) = rw write refl
may_be_written options e lines going (inr (inl memory)) = rw (memory, lines, going) refl
may_be_written options (Line number fault) lines going (inr (inr line)) = rw (lines, going) refl
may_be_written options _ lines going (inr (inr line)) = absurd line

-- ---- results

pub on_ok : {A E : Type 0} (r : Result A E) (P Q : Type 0) → (P → Q) → OnOk r P → OnOk r Q
on_ok (Ok a) P Q f p = f p
on_ok (Err e) P Q f p = tt

pub on_this : {A E : Type 0} (r : Result A E) (e : E) (P : Type 0) → r ≡ Err e → OnErr r P → P
on_this (Ok a) e P same p = cc
on_this (Err f) e P same p = p

pub on_any_ok : {A E : Type 0} (r : Result A E) (P : Type 0) → P → OnOk r P
on_any_ok (Ok a) P p = p
on_any_ok (Err e) P p = tt

pub on_any_of_bytes : {A : Type 0} (r : Result A RunFault) (P : Type 0) → P → IfErr r (λ e. IsOfBytes e → P)
on_any_of_bytes (Ok a) P p = tt
on_any_of_bytes (Err e) P p = λ _. p

-- a fault of writing, or of a run, is no limit of reading
pub no_read_limit : {A : Type 0} (r : Result A RunFault) → IfErr r (λ e. (e ≡ Write) ⊎ IsOfRun e) → r ≡ Err ReadLimit → ⊥
no_read_limit (Ok a) kind same = cc
no_read_limit (Err e) (inl write) same = cc
no_read_limit (Err e) (inr of) same = let is : e ≡ ReadLimit = cc in subst IsOfRun is of
