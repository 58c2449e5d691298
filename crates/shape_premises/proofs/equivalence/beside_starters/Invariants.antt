use Rattle.std.proofs.Common.{◌≡◌, ◌++◌, drop}
use Rattle.buffer_unicode_tables.specs.ClassOrder.{beside_starters}
use Rattle.buffer_unicode_tables.specs.Tables.{class_of}
use Rattle.shape_premises.proofs.equivalence.beside_starters.Given as goal

-- what is kept, and then what is kept of the rest, is kept of all
abbrev pub invariant-loop-x : goal.invariant-loop-x
invariant-loop-x l = l.kept.items ++ beside_starters (class_of l.tables) l.class (drop l.x-index l.xs) ≡ beside_starters (class_of l.tables) l.class l.xs
