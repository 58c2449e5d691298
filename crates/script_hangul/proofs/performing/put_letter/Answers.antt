use Rattle.script_hangul.proofs.Put.{letter_walked}
use Rattle.script_hangul.proofs.performing.put_letter.Goals as goal

pub returns-clause-ok : goal.returns-clause-ok
returns-clause-ok c = letter_walked c.args.kind c.placed-letter.result c.cur.result.now c.args.buffer.now c.advance_as.new.buffer c.cur.ensures c.placed-letter.ensures.item c.in_ok-advance_as.ensures.ok
