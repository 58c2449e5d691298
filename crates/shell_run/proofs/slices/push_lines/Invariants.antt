use Rattle.std.proofs.Common.{◌≡◌, ◌++◌, drop, map, string_bytes}
use Rattle.std.specs.List.{flat_map}
use Rattle.shape_slices.specs.Runs.{byte_range}
use Rattle.shell_run.specs.Slices.{slice_line}
use Rattle.shell_run.proofs.slices.push_lines.Given as goal

-- the lines so far, and those of what is left
abbrev pub invariant-loop-slice : goal.invariant-loop-slice
invariant-loop-slice l = string_bytes l.initial.lines ++ flat_map slice_line (map byte_range l.slices)
    ≡ string_bytes l.lines ++ flat_map slice_line (map byte_range (drop l.slice-index l.slices))
