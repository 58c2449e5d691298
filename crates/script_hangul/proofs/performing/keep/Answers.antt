use Rattle.script_hangul.proofs.Put.{kept_whole, kept_other}
use Rattle.script_hangul.proofs.performing.keep.Goals as goal

pub returns-then-is_whole-clause-ok : goal.returns-then-is_whole-clause-ok
returns-then-is_whole-clause-ok c = kept_whole c.args.is_whole c.out_len-at.result c.args.buffer.now c.advance.new.buffer c.if-is_whole.true c.out_len-at.ensures c.in_ok-advance.ensures.ok

pub returns-clause-ok : goal.returns-clause-ok
returns-clause-ok c = kept_other c.args.is_whole c.out_len-end.result c.args.buffer.now c.advance.new.buffer c.if-is_whole.false c.out_len-end.ensures c.in_ok-advance.ensures.ok
