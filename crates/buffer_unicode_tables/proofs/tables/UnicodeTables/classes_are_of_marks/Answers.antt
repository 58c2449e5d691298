use Rattle.buffer_unicode_tables.proofs.Decisions.{marks_decided}
use Rattle.buffer_unicode_tables.proofs.tables.UnicodeTables.classes_are_of_marks.Goals as goal

pub returns : goal.returns
returns c = rw (c.marks_pass.ensures, c.classes.ensures.rows) (marks_decided c.args.self.now (rw c.classes.ensures.rows at c.classes.ensures.rising))
