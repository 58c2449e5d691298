use Rattle.kuspveli_c.proofs.Results.{font_was_read}
use Rattle.kuspveli_c.proofs.calls.kus_font_create.Goals as goal

pub returns-clause-read : goal.returns-clause-read
returns-clause-read c done = font_was_read c.args.tables.now c.args.json.now c.in-Ok.read.value _ c.put.ensures c.in-Ok.ensures.new c.in-Ok.ensures.ok
