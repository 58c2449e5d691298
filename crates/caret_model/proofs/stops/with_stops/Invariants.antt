use Rattle.std.proofs.Common.{◌≡◌, ◌++◌, drop}
use Rattle.caret_model.specs.Stops.{carets_after, in_text_order, own_carets, with_stops}
use Rattle.caret_model.proofs.stops.with_stops.Given as goal

-- the carets so far, then those after the last one
abbrev pub invariant-loop-i : goal.invariant-loop-i
invariant-loop-i l =
    l.found.items ++ carets_after l.backward (own_carets l.ligatures l.glyphs l.slices l.backward) l.stops l.i l.last (drop l.i (in_text_order l.backward l.carets)) ≡ with_stops l.backward (own_carets l.ligatures l.glyphs l.slices l.backward) l.stops (in_text_order l.backward l.carets)
