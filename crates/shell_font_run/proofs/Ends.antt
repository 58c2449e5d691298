-- How runs end, by the results of what writes an answer.
use Rattle.std.proofs.Common.{ℕ, ◌≡◌, List, Ok, Err, arith, false, refl, inr, length, sym, subst}
use Rattle.std.specs.Prelude.{◌⊎◌, Bool, Option, Some, None}
use Rattle.std.specs.Io.KnownBytes.{Appends, Keeps}
use Rattle.std.proofs.lemmas.List.{take_all}
use Rattle.shell_readers.specs.declared.fault.RunFault.{RunFault}
use Rattle.shell_readers.specs.Faults.{IsOfBytes}
use Rattle.shell_run.specs.Lines.{Answer}
use Rattle.shell_run.specs.Run.{AppendsFront, OfAnswer, SomeBytes}
use Rattle.shell_font_run.specs.Program.{IsRunOf, fault_of_run, result_of}

module _ (Answers : Answer → Type 0) (may_have_written : RunFault → Bool) (old new : Option (List ℕ)) where
  whole : (end : Option RunFault) → SomeBytes Answers end (Appends old new) → OfAnswer Answers (AppendsFront old new)
  whole end (bytes, is, appended) = (record { written = bytes; fault = end }, is, (length bytes, subst (λ (bs : List ℕ). Appends old new bs) (sym (take_all (length bytes) bytes (omega arith))) appended))

  -- a run without a fault
  pub ends_well : SomeBytes Answers None (Appends old new)
      → (end : Option RunFault) × (Ok tt ≡ result_of end) × IsRunOf Answers may_have_written old new end
  ends_well written = (None, refl, record { answered = λ _. written; front = inr (whole None written); kept = tt })

  -- a run with a fault
  pub ends_by : (e : RunFault) → (IsOfBytes e → SomeBytes Answers (Some e) (Appends old new)) → Keeps old new ⊎ OfAnswer Answers (AppendsFront old new)
      → (may_have_written e ≡ false → Keeps old new)
      → (end : Option RunFault) × (Err (fault_of_run e) ≡ result_of end) × IsRunOf Answers may_have_written old new end
  ends_by e refused front kept = (Some e, refl, record { answered = refused; front = front; kept = kept })
