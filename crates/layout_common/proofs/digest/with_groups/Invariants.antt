use Rattle.layout_common.specs.Buckets.{is_bucket_from}
use Rattle.layout_common.proofs.Bits.{Adds}
use Rattle.layout_common.proofs.digest.with_groups.Given as goal

-- the buckets of so many groups were added
abbrev pub invariant-loop-k : goal.invariant-loop-k
invariant-loop-k l = Adds (is_bucket_from l.first l.k) l.mask l.set
