use Rattle.std.proofs.Common.{length}
use Rattle.script_hangul.proofs.Fits.{apart_is_two}
use Rattle.script_hangul.proofs.Put.{apart_three, apart_two, two_letters}
use Rattle.script_hangul.proofs.performing.put_apart.Goals as goal

pub returns-then-count-eq3-clause-ok : goal.returns-then-count-eq3-clause-ok
returns-then-count-eq3-clause-ok c =
    let s = c.args.buffer.now in
    apart_three c.args.count c.out_len-at.result s c.put_letter-2.new.buffer c.put_letter-then-count-eq3.new.buffer c.if-count-eq3.true c.out_len-at.ensures
    (two_letters s c.put_letter.new.buffer c.put_letter-2.new.buffer c.in_ok-put_letter.ensures.ok c.in_ok-put_letter-2.ensures.ok) c.in_ok-put_letter-3.ensures.ok

pub returns-clause-ok : goal.returns-clause-ok
returns-clause-ok c =
    let s = c.args.buffer.now in
    apart_two c.args.count c.out_len-at.result s c.put_letter-2.new.buffer (apart_is_two c.args.count (length s.ahead) c.requires.there c.if-count-eq3.false) c.out_len-at.ensures
    (two_letters s c.put_letter.new.buffer c.put_letter-2.new.buffer c.in_ok-put_letter.ensures.ok c.in_ok-put_letter-2.ensures.ok)
