use Rattle.layout_common.proofs.Bits.{bucket_added, shifted}
use Rattle.layout_common.proofs.digest.with_bucket.Goals as goal

pub returns : goal.returns
returns c b = let set = shifted c.args.bucket c.requires in rw set (bucket_added c.args.mask c.args.bucket b)
