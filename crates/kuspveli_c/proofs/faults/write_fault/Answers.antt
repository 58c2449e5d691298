use Rattle.std.proofs.Common.{inr}
use Rattle.kuspveli_c.proofs.faults.write_fault.Goals as goal

pub returns-in_default : goal.returns-in_default
returns-in_default c = inr c.write_text.ensures
