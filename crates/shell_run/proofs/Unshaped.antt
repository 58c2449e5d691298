-- Texts that are not shaped.
use Rattle.std.proofs.Common.{◌≡◌, ◌≢◌, Err, ap, ◌∙◌}
use Rattle.shell_readers.specs.declared.fault.RunFault.{RunFault}
use Rattle.shell_readers.specs.declared.fault.RunFault.TheVariants.{OutOfMemory}
use Rattle.shell_readers.specs.Fault.{fault_of_cause}
use Rattle.buffer_glyphs.specs.declared.cause.ShapeCause.{ShapeCause}
use Rattle.buffer_glyphs.specs.declared.cause.ShapeCause.TheVariants.{OutOfMemory as NoMemory}
use Rattle.buffer_core.specs.Readings.{Reading}
use Rattle.shell_run.specs.Answer.{IsUnshaped}

-- a text whose reading refuses
pub refused_as : (r : Reading) (cause : ShapeCause) (e : RunFault) → e ≡ fault_of_cause cause → (cause ≢ NoMemory → r ≡ Err cause) → e ≢ OutOfMemory → IsUnshaped r e
refused_as r cause e is h not_memory = (cause, h (λ m. not_memory (is ∙ ap fault_of_cause m)), is)
