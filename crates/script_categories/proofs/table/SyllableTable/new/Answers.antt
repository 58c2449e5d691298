use Rattle.std.proofs.Common.{sym, ◌∙◌}
use Rattle.script_categories.specs.Machines.{machines_in}
use Rattle.script_categories.proofs.Rising.{are_rising}
use Rattle.script_categories.proofs.table.SyllableTable.new.Goals as goal

pub invariant_of-result : goal.invariant_of-result
invariant_of-result c = record { rising = are_rising (machines_in c.args.machines) (sym c.machines_fault.ensures ∙ c.in-None.is) }
