use Rattle.std.proofs.Common.{◌-◌, ◌≤◌, length, take}
use Rattle.std.specs.Io.KnownBytes.{Appends}
use Rattle.shell_run.proofs.write.write_lines.Given as goal

-- a front of the lines was written
abbrev pub invariant-loop-count : goal.invariant-loop-count
invariant-loop-count g l = record {
  written : Appends (g.W.Write.contents l.initial.out) (g.W.Write.contents l.out) (take l.count l.lines);
  inside : l.count ≤ length l.lines;
}

abbrev pub decreases-loop-count : goal.decreases-loop-count
decreases-loop-count g l = length l.lines - l.count
