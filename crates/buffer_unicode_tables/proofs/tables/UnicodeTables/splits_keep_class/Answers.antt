use Rattle.buffer_unicode_tables.proofs.Decisions.{keeps_decided}
use Rattle.buffer_unicode_tables.proofs.tables.UnicodeTables.splits_keep_class.Goals as goal

pub returns : goal.returns
returns c = rw c.all_classes_pass.ensures (keeps_decided c.args.self.now)
