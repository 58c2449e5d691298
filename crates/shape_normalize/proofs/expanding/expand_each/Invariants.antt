use Rattle.buffer_properties.specs.Expanding.{item_expansion}
use Rattle.shape_normalize.proofs.Each.{IsUnderway}
use Rattle.shape_normalize.proofs.expanding.expand_each.Given as goal

-- that many are output
abbrev pub invariant-loop : goal.invariant-loop
invariant-loop g l = IsUnderway (item_expansion (g.N.Normalizing.normalizer l.by) l.reach) l.count l.counter l.initial.buffer l.buffer
