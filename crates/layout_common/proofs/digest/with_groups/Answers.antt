use Rattle.std.proofs.Common.{◌+◌}
use Rattle.layout_common.proofs.Bits.{group_step, in_bucket}
use Rattle.layout_common.proofs.digest.with_groups.Goals as goal

pub loop-k-preserved : goal.loop-k-preserved
loop-k-preserved c = group_step c.args.first c.loop-k.k c.args.mask c.loop-k.set _ _ c.loop-k.invariant c.with_bucket-set.ensures (in_bucket (c.args.first + c.loop-k.k))
