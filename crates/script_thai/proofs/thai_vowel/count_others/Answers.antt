use Rattle.std.proofs.Common.{arith, sym, ◌∙◌}
use Rattle.script_thai.proofs.Vowels.{one_other}
use Rattle.script_thai.proofs.thai_vowel.count_others.Goals as goal

pub loop-i-preserved : goal.loop-i-preserved
loop-i-preserved c =
    (one_other c.loop-i.i c.cur.result.now c.args.buffer.now.ahead c.cur.ensures (sym c.is_sara_am.ensures ∙ c.if-is_sara_am.false) c.loop-i.invariant.0, omega arith)
