use Rattle.std.proofs.Common.{rules}
use Rattle.kuspveli_c.proofs.Results.{font_was_read_over}
use Rattle.kuspveli_c.proofs.calls.kus_font_create_with_tables.Goals as goal

pub returns-clause-read : goal.returns-clause-read
returns-clause-read c done =
    font_was_read_over c.args.tables.now.value c.in-Some.shared.value c.args.json.now c.in-Ok.read.value _ c.in-Some.ensures.tables c.put-3.ensures c.in-Ok.ensures.new (search rules) c.in-Ok.ensures.ok
