use Rattle.std.proofs.Common.{◌≡◌, drop}
use Rattle.script_categories.specs.Machines.{accepts_fault, is_accept_in_range, machine_in}
use Rattle.buffer_unicode.specs.Keys.{row_fault}
use Rattle.script_categories.specs.declared.machine.Accept.{Accept}
use Rattle.script_categories.proofs.faults.accepts_fault.Given as goal

-- the first fault of the rows from here on is that of all
abbrev pub invariant-loop-accept : goal.invariant-loop-accept
invariant-loop-accept l =
    row_fault (is_accept_in_range l.shaper (machine_in l.machine)) (λ _. 0) (λ (accept : Accept). accept.state) l.before (drop l.accept-index l.machine.accept.items)
    ≡ accepts_fault l.shaper (machine_in l.machine)
