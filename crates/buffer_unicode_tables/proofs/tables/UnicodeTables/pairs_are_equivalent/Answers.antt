use Rattle.buffer_unicode_tables.proofs.Decisions.{pairs_decided}
use Rattle.buffer_unicode_tables.proofs.tables.UnicodeTables.pairs_are_equivalent.Goals as goal

pub returns : goal.returns
returns c = λ stay. rw c.all_pairs_pass.ensures (pairs_decided c.args.self.now (rw c.splits-splits.ensures.rows at c.splits-splits.ensures.shallow) stay)
