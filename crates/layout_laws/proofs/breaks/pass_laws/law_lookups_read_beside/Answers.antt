use Rattle.layout_laws.proofs.BreakLemmas.Lossless.{lookups_read_beside}
use Rattle.layout_laws.proofs.breaks.pass_laws.law_lookups_read_beside.Goals as goal

pub returns : goal.returns
returns c = lookups_read_beside
