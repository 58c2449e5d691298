-- Stages one after another.
use Rattle.std.specs.Prelude.{Bool, if◌then◌else◌, List, [], ◌∷◌}
use Rattle.buffer_core.specs.Readings.{Stage, and_then, as_it_is}

-- each stage on what the one before it left, until one refuses
abbrev pub in_order : List Stage → Stage
in_order [] v = as_it_is v
in_order (stage ∷ stages) v = and_then (stage v) (in_order stages)

-- a stage that is done only where a condition holds
abbrev pub only_if : Bool → Stage → Stage
only_if b stage v = if b then stage v else as_it_is v
