-- Tables without faulty rows that have too long a chain of decompositions.
use Rattle.std.specs.Prelude.{Result, Ok, Err}
use Rattle.shell_json.specs.declared.fault.JsonFault.{JsonFault}
use Rattle.buffer_unicode_tables.specs.Expansion.{HasDeepChain}
use Rattle.buffer_unicode_tables.specs.Tables.{Tables, split_of}

-- the rows have no fault, and a chain of first halves has more than eight decompositions
abbrev pub HasDeepSplits : Result Tables JsonFault → Type 0
HasDeepSplits (Ok t) = HasDeepChain (split_of t) 8
HasDeepSplits (Err e) = ⊥
