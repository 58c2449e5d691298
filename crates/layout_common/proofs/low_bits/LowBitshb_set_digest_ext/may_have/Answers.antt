use Rattle.std.proofs.Common.{arith, rules}
use Rattle.layout_common.proofs.LowBits.{apart_step, no_common_word}
use Rattle.layout_common.proofs.low_bits.LowBitshb_set_digest_ext.may_have.Goals as goal

pub loop-i-preserved : goal.loop-i-preserved
loop-i-preserved c =
    apart_step c.loop-i.i _ _ c.args.self.now.words c.args.other.now.words (omega (arith, c.loop-i-test.true, c.type_inv.self)) (omega (arith, c.loop-i-test.true, c.type_inv.other))
    c.if-self-i-ne0.false c.loop-i.invariant

pub returns-then-self-i-ne0-clause-exact : goal.returns-then-self-i-ne0-clause-exact
returns-then-self-i-ne0-clause-exact c apart =
    absurd (c.if-self-i-ne0.true (no_common_word c.loop-i.i 0 0 c.args.self.now.words c.args.other.now.words c.loop-i-test.true (omega (arith, c.loop-i-test.true, c.type_inv.self)) (omega (arith, c.loop-i-test.true, c.type_inv.other)) (search rules) apart))
