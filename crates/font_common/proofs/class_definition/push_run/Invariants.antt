use Rattle.std.proofs.Common.{◌≡◌, ◌+◌, ◌-◌, ◌++◌}
use Rattle.font_common.specs.ClassDefinition.{class_run}
use Rattle.font_common.proofs.class_definition.push_run.Given as goal

-- the rows so far and those that are left are all
abbrev pub invariant-loop-offset : goal.invariant-loop-offset
invariant-loop-offset l = l.rows.items ++ class_run l.class (l.first + l.offset) (l.count - l.offset) ≡ l.initial.rows.items ++ class_run l.class l.first l.count
