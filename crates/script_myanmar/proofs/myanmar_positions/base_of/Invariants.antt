use Rattle.script_myanmar.proofs.Placing.{IsSought, kinds}
use Rattle.script_myanmar.proofs.myanmar_positions.base_of.Given as goal

abbrev pub invariant-loop-i : goal.invariant-loop-i
invariant-loop-i l = IsSought l.i (kinds l.glyphs)
