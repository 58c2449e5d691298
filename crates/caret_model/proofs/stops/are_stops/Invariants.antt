use Rattle.std.proofs.Common.{◌↔◌, drop}
use Rattle.caret_model.specs.Stops.{AreStops}
use Rattle.caret_model.proofs.stops.are_stops.Given as goal

-- the stops that are left rise exactly where all do
abbrev pub invariant-loop-stop : goal.invariant-loop-stop
invariant-loop-stop l = AreStops l.end l.last (drop l.stop-index l.stops) ↔ AreStops l.end 0 l.stops
