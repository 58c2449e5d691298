-- Machines whose rows are sorted for binary search.
use Rattle.std.specs.Prelude.{◌≡◌, true}
use Rattle.script_categories.specs.declared.machine.Accept.{Accept}
use Rattle.script_categories.specs.declared.machine.Step.{Step}
use Rattle.buffer_unicode.specs.Keys.{is_rising}
use Rattle.script_categories.specs.Machines.{Machine, Machines}

-- the rows of a machine rise by their keys
pub record IsRising (m : Machine) : Type 0 where
  pub steps : is_rising (λ (step : Step). step.state) (λ (step : Step). step.category) m.next ≡ true
  pub accepts : is_rising (λ _. 0) (λ (accept : Accept). accept.state) m.accept ≡ true

-- the rows of all machines rise by their keys
pub record AreRising (ms : Machines) : Type 0 where
  pub indic : IsRising ms.indic
  pub khmer : IsRising ms.khmer
  pub myanmar : IsRising ms.myanmar
  pub universal : IsRising ms.universal
