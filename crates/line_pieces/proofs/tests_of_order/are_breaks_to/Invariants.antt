use Rattle.std.proofs.Common.{◌↔◌, drop}
use Rattle.line_pieces.specs.Breaks.{AreBreaksTo}
use Rattle.line_pieces.proofs.tests_of_order.are_breaks_to.Given as goal

-- lines may end at the units that are left exactly where they may at all
abbrev pub invariant-loop-unit : goal.invariant-loop-unit
invariant-loop-unit l = AreBreaksTo l.end l.last (drop l.unit-index l.breaks) ↔ AreBreaksTo l.end 0 l.breaks
