use Rattle.script_hangul.proofs.Put.{two_parted}
use Rattle.script_hangul.proofs.performing.put_two.Goals as goal

pub returns-clause-ok : goal.returns-clause-ok
returns-clause-ok c = two_parted c.args.l c.args.v c.cur.result.now c.letter_of-leading.result c.letter_of-vowel.result c.args.buffer.now c.replace_current.new.buffer c.cur.ensures c.letter_of-leading.ensures.item c.letter_of-vowel.ensures.item c.in_ok-replace_current.ensures.ok
