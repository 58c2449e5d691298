use Rattle.script_hangul.proofs.Put.{before_stepped}
use Rattle.script_hangul.proofs.tones.put_before.Goals as goal

pub returns-clause-ok : goal.returns-clause-ok
returns-clause-ok c = before_stepped c.args.start c.out_len-middle.result c.out_len-end.result c.args.buffer.now c.advance.new.buffer c.move_behind.new.buffer c.requires.before c.out_len-middle.ensures c.out_len-end.ensures c.requires.current.current c.in_ok-advance.ensures.ok c.move_behind.ensures
