use Rattle.buffer_core.specs.Sides.{items_of}
use Rattle.buffer_properties.specs.Composing.{composed_list}
use Rattle.shape_normalize.proofs.Walk.{IsComposing}
use Rattle.shape_normalize.proofs.starters.compose_list.Given as goal

abbrev pub invariant-loop : goal.invariant-loop
invariant-loop g l = IsComposing (g.N.Normalizing.normalizer l.by) (composed_list (g.N.Normalizing.normalizer l.by) (items_of l.initial.buffer)) l.count l.counter l.starter l.initial.buffer l.buffer
