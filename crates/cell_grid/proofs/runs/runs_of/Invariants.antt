use Rattle.std.proofs.Common.{◌≡◌, ◌≤◌, ◌*◌, ◌++◌, drop, length, map}
use Rattle.kuspveli.specs.buffer_parts.Slices.{AreJoined}
use Rattle.kuspveli.specs.shape_slices.Runs.{byte_range}
use Rattle.cell_grid.specs.Walk.{runs_from, runs_of}
use Rattle.cell_grid.proofs.runs.runs_of.Given as goal

-- the runs so far, then those of the slices that are left; and no run has more than two cells for each byte
abbrev pub invariant-loop-i : goal.invariant-loop-i
invariant-loop-i l = (l.runs.items ++ runs_from l.backward l.text l.run (drop l.i l.slices) ≡ runs_of l.backward l.text l.slices) × (l.run.end_cell ≤ 2 * l.run.end) × AreJoined l.run.end (length l.text) (map byte_range (drop l.i l.slices))
