use Rattle.std.proofs.Common.{◌+◌, ◌-◌}
use Rattle.layout_common.specs.Buckets.{bucket, is_bucket_of, numbers_from}
use Rattle.layout_common.proofs.Bits.{added_there, full_has, has_all, more_added, old_stays, range_there}
use Rattle.layout_common.proofs.digest.Hb_set_digest_bits_pattern_thb_set_digest_ext.add_range.Goals as goal

pub returns-clause-added : goal.returns-clause-added
returns-clause-added g c h low high =
    let s = g.row.SHIFT in
    added_there (is_bucket_of s (numbers_from c.args.first (c.args.last + 1 - c.args.first))) c.args.self.now.mask _ (bucket s h) c.with_range-self.ensures (range_there s c.args.first c.args.last h low high)

pub returns-clause-stays : goal.returns-clause-stays
returns-clause-stays g c h e =
    let s = g.row.SHIFT in
    old_stays (is_bucket_of s (numbers_from c.args.first (c.args.last + 1 - c.args.first))) c.args.self.now.mask _ (bucket s h) c.with_range-self.ensures e

pub returns-clause-all : goal.returns-clause-all
returns-clause-all g c = (λ e h. full_has c.with_range-self.result g.row.SHIFT h e, λ all. has_all c.with_range-self.result g.row.SHIFT c.with_range-self.type_inv all)

pub returns-clause-exact : goal.returns-clause-exact
returns-clause-exact g c others is = more_added g.row.SHIFT c.args.self.now.mask _ others (numbers_from c.args.first (c.args.last + 1 - c.args.first)) c.with_range-self.ensures is
