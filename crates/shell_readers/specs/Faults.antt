-- The kinds of a run's faults.
use Rattle.std.specs.Prelude.{⊤}
use Rattle.shell_readers.specs.declared.fault.RunFault.{RunFault}
use Rattle.shell_readers.specs.declared.fault.RunFault.TheVariants.{Words, Read, ReadLimit, Write, OutOfMemory}

-- a fault of the bytes that were read, and not of reading, writing, memory or command-line words
abbrev pub IsOfBytes : RunFault → Type 0
IsOfBytes Words = ⊥
IsOfBytes Read = ⊥
IsOfBytes ReadLimit = ⊥
IsOfBytes Write = ⊥
IsOfBytes OutOfMemory = ⊥
IsOfBytes _ = ⊤

-- a fault of those bytes, or lack of memory
abbrev pub IsOfRun : RunFault → Type 0
IsOfRun Words = ⊥
IsOfRun Read = ⊥
IsOfRun ReadLimit = ⊥
IsOfRun Write = ⊥
IsOfRun _ = ⊤
