use Rattle.std.proofs.Common.{◌≡◌, drop}
use Rattle.script_categories.specs.Machines.{is_step_in_range, machine_in, steps_fault}
use Rattle.buffer_unicode.specs.Keys.{row_fault}
use Rattle.script_categories.specs.declared.machine.Step.{Step}
use Rattle.script_categories.proofs.faults.steps_fault.Given as goal

-- the first fault of the rows from here on is that of all
abbrev pub invariant-loop-step : goal.invariant-loop-step
invariant-loop-step l =
    row_fault (is_step_in_range (machine_in l.machine)) (λ (step : Step). step.state) (λ (step : Step). step.category) l.before (drop l.step-index l.machine.next.items)
    ≡ steps_fault (machine_in l.machine)
