use Rattle.std.proofs.Common.{◌+◌, ◌-◌, arith}
use Rattle.layout_common.specs.Buckets.{numbers_from}
use Rattle.layout_common.specs.LowBits.{shares_low_bits}
use Rattle.layout_common.proofs.LowBits.{all_adds, low_there, more_low, none_low, number_step, range_low}
use Rattle.layout_common.proofs.low_bits.LowBitshb_set_digest_ext.add_range.Goals as goal

pub returns-then-last-first-clause-buckets : goal.returns-then-last-first-clause-buckets
returns-then-last-first-clause-buckets c = none_low c.args.first c.args.last c.args.self.now.words c.if-last-first.true

pub returns-then-last-first-clause-exact : goal.returns-then-last-first-clause-exact
returns-then-last-first-clause-exact c others is =
    more_low c.args.self.now.words c.args.self.now.words others (numbers_from c.args.first (c.args.last + 1 - c.args.first)) (returns-then-last-first-clause-buckets c) is

pub returns-then-last-first-2-clause-buckets : goal.returns-then-last-first-2-clause-buckets
returns-then-last-first-2-clause-buckets c = all_adds c.args.first c.args.last c.args.self.now.words c.full.result.words c.if-last-first-2.true c.full.ensures

pub returns-then-last-first-2-clause-exact : goal.returns-then-last-first-2-clause-exact
returns-then-last-first-2-clause-exact c others is =
    more_low c.args.self.now.words c.full.result.words others (numbers_from c.args.first (c.args.last + 1 - c.args.first)) (returns-then-last-first-2-clause-buckets c) is

pub loop-k-preserved : goal.loop-k-preserved
loop-k-preserved c = number_step c.args.first c.loop-k.k c.args.self.now.words c.loop-k.self.words c.add.new.self.words c.loop-k.invariant c.add.ensures.buckets

pub returns-clause-added : goal.returns-clause-added
returns-clause-added c g low high =
    low_there (shares_low_bits (numbers_from c.args.first c.loop-k.k)) c.args.self.now.words c.loop-k.self.words g c.loop-k.invariant
    (range_low c.args.first c.loop-k.k g low (omega (arith, low, high, c.loop-k-test.false)))
