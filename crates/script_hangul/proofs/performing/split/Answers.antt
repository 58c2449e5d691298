use Rattle.std.proofs.Common.{length, arith}
use Rattle.script_hangul.proofs.Fits.{joined_there}
use Rattle.script_hangul.proofs.Put.{joined_exceeds, pieces_ahead, split_alone, split_joined}
use Rattle.script_hangul.proofs.performing.split.Goals as goal
use Rattle.buffer_facts.proofs.Results.{passed_on}

pub put_letter-requires : goal.put_letter-requires
put_letter-requires c =
    let more = (joined_there c.args.letters c.args.joins (length c.args.buffer.now.ahead) c.if-joins.true c.requires.there).0 in
    let rest = pieces_ahead c.args.letters c.args.buffer.now c.put_pieces.new.buffer c.in_ok-put_pieces.ensures.ok in
    record { current = record { opened = c.in_ok-put_pieces.ensures.ok.opened; current = omega (arith, more, rest) } }

pub returns-in_err-put_letter-clause-err : goal.returns-in_err-put_letter-clause-err
returns-in_err-put_letter-clause-err c =
    let e = c.in_err-put_letter.field-0.0 in
    let there = joined_there c.args.letters c.args.joins (length c.args.buffer.now.ahead) c.if-joins.true c.requires.there in
    passed_on c.from_residual-in_err-put_letter.result e _ c.from_residual-in_err-put_letter.ensures.1
    (joined_exceeds c.args.letters c.args.joins e c.args.buffer.now c.put_pieces.new.buffer c.if-joins.true there.1 there.0 c.in_ok-put_pieces.ensures.ok c.in_err-put_letter.ensures.err)

pub returns-then-joins-clause-ok : goal.returns-then-joins-clause-ok
returns-then-joins-clause-ok c =
    let s = c.args.buffer.now in
    let there = joined_there c.args.letters c.args.joins (length s.ahead) c.if-joins.true c.requires.there in
    let more = there.0 in
    split_joined c.args.letters c.args.joins c.out_len-at.result s c.put_pieces.new.buffer c.put_letter.new.buffer c.if-joins.true there.1 (omega (arith, more)) c.out_len-at.ensures c.in_ok-put_pieces.ensures.ok c.in_ok-put_letter.ensures.ok

pub returns-clause-ok : goal.returns-clause-ok
returns-clause-ok c = split_alone c.args.letters c.args.joins c.out_len-at.result c.args.buffer.now c.put_pieces.new.buffer c.if-joins.false c.out_len-at.ensures c.in_ok-put_pieces.ensures.ok
