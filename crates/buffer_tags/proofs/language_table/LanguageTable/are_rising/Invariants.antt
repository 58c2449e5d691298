use Rattle.std.proofs.Common.{◌≡◌, ◌<◌, true}
use Rattle.std.specs.List.{AllAdjacentBelow}
use Rattle.buffer_tags.specs.LanguageRows.{is_before}
use Rattle.buffer_tags.proofs.language_table.LanguageTable.are_rising.Given as goal

abbrev pub invariant-loop-index : goal.invariant-loop-index
invariant-loop-index l = (0 < l.index) × AllAdjacentBelow (λ row next. is_before row next ≡ true) l.rows l.index
