use Rattle.std.specs.List.{IsFirstBest}
use Rattle.caret_model.specs.Moves.{is_nearer}
use Rattle.caret_model.proofs.moves.nearest.Given as goal

abbrev pub invariant-loop-i : goal.invariant-loop-i
invariant-loop-i l = IsFirstBest (is_nearer l.position) l.carets l.i l.best
