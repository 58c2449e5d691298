-- Sources that are read, and those that can't be.
use Rattle.std.proofs.Common.{ℕ, ◌≡◌, List, sym, subst, inl, inr}
use Rattle.std.specs.Prelude.{◌⊎◌, Option, Some, None, IfSome}
use Rattle.shell_readers.specs.declared.fault.RunFault.{RunFault}
use Rattle.shell_readers.specs.declared.fault.RunFault.TheVariants.{OutOfMemory, Read, ReadLimit}
use Rattle.shell_run.specs.Program.{HasBytes, ReachesReadLimit}
use Rattle.shell_font_run.specs.Program.{AreBytes, FailsToRead}
use Rattle.shell_font_run.specs.Program.FailsToRead.{failed, limit as at_limit, no_memory}
use Rattle.shell_run.proofs.ProgramRuns.{reaches_known as reaches}

-- the bytes that were read are those of the source
pub are_bytes : (known remaining : Option (List ℕ)) (items : List ℕ) → HasBytes known remaining → IfSome remaining (λ bs. items ≡ bs) → AreBytes known items
are_bytes None remaining items has is = tt
are_bytes (Some k) remaining items has is = let P : Option (List ℕ) → Type 0 = λ r. IfSome r (λ bs. items ≡ bs) in subst P has is

-- why a source wasn't read, by the reader's fault
pub fails : (known remaining : Option (List ℕ)) (e : RunFault) → HasBytes known remaining → (e ≡ Read) ⊎ (e ≡ ReadLimit) ⊎ (e ≡ OutOfMemory)
    → (e ≡ ReadLimit → ReachesReadLimit remaining) → FailsToRead known e
fails known remaining e has (inl same) limit = subst (λ (x : RunFault). FailsToRead known x) (sym same) failed
fails known remaining e has (inr (inl same)) limit = subst (λ (x : RunFault). FailsToRead known x) (sym same) (at_limit (reaches known remaining has (limit same)))
fails known remaining e has (inr (inr same)) limit = subst (λ (x : RunFault). FailsToRead known x) (sym same) no_memory
