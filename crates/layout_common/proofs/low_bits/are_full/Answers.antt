use Rattle.std.proofs.Common.{arith, refl, rules}
use Rattle.layout_common.proofs.LowBits.{all_full, full_step, is_full}
use Rattle.layout_common.proofs.low_bits.are_full.Goals as goal

pub loop-i-preserved : goal.loop-i-preserved
loop-i-preserved c = full_step c.loop-i.i _ c.args.words.now (omega arith) c.if-words-i.false c.loop-i.invariant

pub returns-then-words-i : goal.returns-then-words-i
returns-then-words-i c = (λ e. cc, λ all. absurd (c.if-words-i.true (is_full c.loop-i.i 0 c.args.words.now c.loop-i-test.true (omega arith) (search rules) all)))

pub returns : goal.returns
returns c = (λ e. all_full c.args.words.now c.loop-i.i (omega (arith, c.loop-i-test.false)) c.loop-i.invariant, λ all. refl)
