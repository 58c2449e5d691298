use Rattle.std.proofs.Common.{◌≡◌, drop}
use Rattle.buffer_unicode_tables.specs.Tables.{are_of_characters}
use Rattle.buffer_unicode_tables.proofs.tables.see_characters.Given as goal

abbrev pub invariant-loop-row : goal.invariant-loop-row
invariant-loop-row l = are_of_characters (drop l.row-index l.rows) ≡ are_of_characters l.rows
