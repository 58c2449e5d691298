use Rattle.std.proofs.Common.{◌/◌, ◌^◌, ◌+◌, ◌-◌, ◌||◌, ap, ◌∙◌}
use Rattle.std.proofs.lemmas.Nat.{pow_pos}
use Rattle.layout_common.specs.Buckets.{has_bucket}
use Rattle.layout_common.proofs.Bits.{div_rises, empty_range, full_adds, is_long, past_mask, range_buckets, same_range}
use Rattle.layout_common.proofs.digest.with_range.Goals as goal

pub returns-then-last-first : goal.returns-then-last-first
returns-then-last-first g c = empty_range g.row.SHIFT c.args.mask c.args.first c.args.last c.if-last-first.true

pub returns-then-past-ge63 : goal.returns-then-past-ge63
returns-then-past-ge63 g c b =
    let d = 2 ^ g.row.SHIFT in
    let long = is_long _ _ (c.args.first / d) (c.args.last / d) c.group-from.ensures c.group.ensures c.if-past-ge63.true in
    full_adds (c.args.first / d) (c.args.last / d + 1 - c.args.first / d) c.args.mask long (λ i le. past_mask c.args.mask i c.ranges.mask.fits le) b
    ∙ ap (λ t. has_bucket c.args.mask b || t) (range_buckets g.row.SHIFT c.args.first c.args.last b c.if-last-first.false)

pub returns : goal.returns
returns g c b =
    let d = 2 ^ g.row.SHIFT in
    let rises = div_rises c.args.first c.args.last d (pow_pos g.row.SHIFT) c.if-last-first.false in
    c.with_groups.ensures b ∙ ap (λ t. has_bucket c.args.mask b || t) (same_range _ _ (c.args.first / d) (c.args.last / d) b c.group-from.ensures c.group.ensures rises ∙ range_buckets g.row.SHIFT c.args.first c.args.last b c.if-last-first.false)
