use Rattle.std.proofs.Common.{◌≡◌, ◌≤◌, ◌-◌, length, take, Some}
use Rattle.script_categories.specs.LongestMatch.{longest_up_to, state_after}
use Rattle.script_categories.specs.Machines.{machine_in}
use Rattle.script_categories.proofs.scan.walk.Given as goal

-- the longest prefix so far, and the state that they lead to
abbrev pub invariant-loop-i : goal.invariant-loop-i
invariant-loop-i l = record {
  within : l.i ≤ length l.categories;
  found : l.found ≡ longest_up_to (machine_in l.machine) l.categories l.i;
  state : Some l.state ≡ state_after (machine_in l.machine) (take l.i l.categories);
}

-- categories that are left
abbrev pub decreases-loop-i : goal.decreases-loop-i
decreases-loop-i l = length l.categories - l.i
