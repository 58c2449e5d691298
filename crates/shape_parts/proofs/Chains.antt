-- Properties of stages one after another.
use Rattle.std.proofs.Common.{Bool, true, false, List, [], ◌∷◌}
use Rattle.buffer_core.specs.Readings.{Stage, and_then, as_it_is}
use Rattle.shape_pipeline.specs.Chains.{in_order, only_if}

-- stages one after another have a property where each has it
pub record IsOfChains (P : Stage → Type 0) : Type 0 where
  pub same : P as_it_is
  pub steps : (s t : Stage) → P s → P t → P (λ v. and_then (s v) t)

-- each of some stages has a property
abbrev pub AllHave : (Stage → Type 0) → List Stage → Type 0
AllHave P [] = Unit {0}
AllHave P (s ∷ rest) = P s × AllHave P rest

pub chain_has : (P : Stage → Type 0) (stages : List Stage) → IsOfChains P → AllHave P stages → P (in_order stages)
chain_has P [] w h = w.same
chain_has P (s ∷ rest) w h = w.steps s (in_order rest) h.0 (chain_has P rest w h.1)

pub wanted_has : (P : Stage → Type 0) (b : Bool) (s : Stage) → IsOfChains P → P s → P (only_if b s)
wanted_has P true s w p = p
wanted_has P false s w p = w.same
