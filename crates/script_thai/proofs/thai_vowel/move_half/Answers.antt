use Rattle.std.proofs.Common.{◌-◌, arith, ne_eqb}
use Rattle.buffer_stages.proofs.Lemmas.Walked.{nothing_walked}
use Rattle.script_thai.proofs.Vowel.{joined_placed, moved_placed}
use Rattle.script_thai.proofs.thai_vowel.move_half.Goals as goal

pub returns-then-marks-eq0 : goal.returns-then-marks-eq0
returns-then-marks-eq0 c = joined_placed c.args.at c.args.marks c.args.buffer.now c.args.buffer.now c.if-marks-eq0.true (nothing_walked c.args.buffer.now c.requires.open)

pub returns : goal.returns
returns c =
    let r = c.requires in
    let end = c.out_len-end.ensures in
    let a = c.args.at in
    let m = c.args.marks in
    moved_placed a m (a - (a - m)) (c.out_len-end.result - 1 - a) c.args.buffer.now c.move_behind.new.buffer (omega (arith, r.before)) (omega (arith, r.parts, end)) (ne_eqb m 0 c.if-marks-eq0.false) c.move_behind.ensures
