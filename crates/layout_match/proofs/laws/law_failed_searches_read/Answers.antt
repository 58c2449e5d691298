use Rattle.layout_match.proofs.Law.{failed_read}
use Rattle.layout_match.proofs.laws.law_failed_searches_read.Goals as goal

pub returns : goal.returns
returns c = failed_read
