use Rattle.std.proofs.Common.{◌≡◌, ◌++◌, drop}
use Rattle.font_lists.specs.Definition.{attachment_rows}
use Rattle.font_lists.proofs.definition.attachment_rows.Given as goal

-- the rows so far and those of the rest are all
abbrev pub invariant-loop-row : goal.invariant-loop-row
invariant-loop-row l = l.kept.items ++ attachment_rows (drop l.row-index l.rows) ≡ attachment_rows l.rows
