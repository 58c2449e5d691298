use Rattle.std.proofs.Common.{bit_and, arith}
use Rattle.layout_common.specs.Buckets.{bucket}
use Rattle.layout_common.proofs.Bits.{buckets_apart, none_common}
use Rattle.layout_common.proofs.digest.Hb_set_digest_bits_pattern_thb_set_digest_ext.may_have.Goals as goal
use Rattle.buffer_facts.proofs.Numbers.{zero_by_test as is_zero}

pub returns-clause-apart : goal.returns-clause-apart
returns-clause-apart g c e h there = buckets_apart c.args.self.now.mask c.args.other.now.mask (bucket g.row.SHIFT h) (is_zero (bit_and c.args.self.now.mask c.args.other.now.mask) e) there

pub returns-clause-exact : goal.returns-clause-exact
returns-clause-exact g c apart = none_common c.args.self.now.mask c.args.other.now.mask g.row.SHIFT (omega arith) apart
