use Rattle.std.proofs.Common.{◌≡◌, ◌≤◌, ◌++◌, drop}
use Rattle.arrayvec.specs.ArrayVec.{array_vec_len}
use Rattle.buffer_unicode_tables.specs.ClassOrder.{beside_starters}
use Rattle.buffer_unicode_tables.specs.Tables.{class_of}
use Rattle.buffer_unicode_tables.proofs.tables.UnicodeTables.beside_starters.Given as goal

abbrev pub invariant-loop-x : goal.invariant-loop-x
invariant-loop-x l = record {
  kept : l.kept.items ++ beside_starters (class_of l.self) l.class (drop l.x-index l.xs) ≡ beside_starters (class_of l.self) l.class l.xs;
  room : array_vec_len l.kept ≤ l.x-index;
}
