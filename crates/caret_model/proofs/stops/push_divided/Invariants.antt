use Rattle.std.proofs.Common.{◌≡◌, ◌+◌, ◌++◌, drop}
use Rattle.caret_model.specs.Stops.{carets_between, divided_carets}
use Rattle.caret_model.proofs.stops.push_divided.Given as goal

-- the carets so far, then those at the stops that are left
abbrev pub invariant-loop-k : goal.invariant-loop-k
invariant-loop-k l = l.found.items ++ divided_carets l.first l.last l.steps (l.k + 1) (drop l.k l.stops) ≡ l.fn.found.items ++ carets_between l.first l.last l.stops
