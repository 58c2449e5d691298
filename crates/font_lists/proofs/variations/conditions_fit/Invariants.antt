use Rattle.std.proofs.Common.{◌≡◌, ◌+◌, ◌-◌, ◌*◌}
use Rattle.font_bytes.specs.Words.{long}
use Rattle.font_bytes.specs.Records.{records}
use Rattle.font_lists.specs.Variations.{conditions_fit}
use Rattle.font_lists.proofs.variations.conditions_fit.Given as goal

-- those that are left hold exactly where all do
abbrev pub invariant-loop-index : goal.invariant-loop-index
invariant-loop-index l = conditions_fit l.table l.base (records (long l.table) 4 (l.at + 4 * l.index) (l.count - l.index)) ≡ conditions_fit l.table l.base (records (long l.table) 4 l.at l.count)
