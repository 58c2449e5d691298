use Rattle.std.proofs.Common.{◌↔◌, drop}
use Rattle.line_pieces.specs.Breaks.{AreBreaks}
use Rattle.line_pieces.proofs.tests_of_order.are_breaks.Given as goal

-- lines may end at the bytes that are left exactly where they may at all
abbrev pub invariant-loop-byte : goal.invariant-loop-byte
invariant-loop-byte l = AreBreaks l.text l.last (drop l.byte-index l.breaks) ↔ AreBreaks l.text 0 l.breaks
