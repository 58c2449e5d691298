use Rattle.std.proofs.Common.{Some, ap, ◌∙◌}
use Rattle.kuspveli_c.proofs.Results.{library_tables_were_read}
use Rattle.kuspveli_c.proofs.calls.kus_tables_create_default.Goals as goal

pub returns-clause-read : goal.returns-clause-read
returns-clause-read c done = library_tables_were_read c.in-Ok.read _ (c.put.ensures ∙ ap Some c.in-Ok-new.ensures.ok) c.in-Ok.ensures.ok
