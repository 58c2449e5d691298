-- The invariant of a table of machines.
use Rattle.script_categories.specs.Machines.{machines_in}
use Rattle.script_categories.specs.Sound.{AreRising}
use Rattle.script_categories.specs.declared.table.SyllableTable.TheInside.{Inside}

-- the rows of each machine rise by their keys
pub record IsSound (t : Inside) : Type 0 where
  pub rising : AreRising (machines_in t.machines)
