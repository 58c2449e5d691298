use Rattle.std.proofs.Common.{◌≡◌, ◌++◌, length, map, take, drop}
use Rattle.layout_offsets.specs.Starting.{unattached_position}
use Rattle.layout_offsets.proofs.finish.clear_links.Given as goal

-- those in front are cleared
abbrev pub invariant-loop-i : goal.invariant-loop-i
invariant-loop-i l = (l.positions ≡ map unattached_position (take l.i l.fn.positions) ++ drop l.i l.fn.positions) × (length l.positions ≡ length l.fn.positions)
