use Rattle.std.proofs.Common.{◌≡◌, ◌++◌, drop}
use Rattle.caret_model.specs.Stops.{given_carets, in_text_order}
use Rattle.caret_model.proofs.stops.push_given.Given as goal

-- the carets so far, then those at the stops that are left
abbrev pub invariant-loop-k : goal.invariant-loop-k
invariant-loop-k l =
    l.found.items ++ given_carets l.backward l.ends.0 l.ends.1 (drop l.k l.stops) (drop l.k (in_text_order l.backward l.own)) ≡ l.fn.found.items ++ given_carets l.backward l.ends.0 l.ends.1 l.stops (in_text_order l.backward l.own)
