use Rattle.std.proofs.Common.{◌==◌, ◌||◌, ap, ◌∙◌}
use Rattle.layout_common.specs.Buckets.{bucket, has_bucket}
use Rattle.layout_common.proofs.Bits.{one_added, added_there, old_stays}
use Rattle.layout_common.proofs.digest.Hb_set_digest_bits_pattern_thb_set_digest_ext.add.Goals as goal
use Rattle.buffer_facts.proofs.Numbers.{test_of_itself as same_bucket}

pub returns-clause-buckets : goal.returns-clause-buckets
returns-clause-buckets g c b = c.with_bucket-self.ensures b ∙ ap (λ k. has_bucket c.args.self.now.mask b || b == k) c.bucket.ensures.is

pub returns-clause-added : goal.returns-clause-added
returns-clause-added g c = added_there (λ b. b == bucket g.row.SHIFT c.args.glyph) c.args.self.now.mask _ (bucket g.row.SHIFT c.args.glyph) (returns-clause-buckets g c) (same_bucket (bucket g.row.SHIFT c.args.glyph))

pub returns-clause-stays : goal.returns-clause-stays
returns-clause-stays g c h e = old_stays (λ b. b == bucket g.row.SHIFT c.args.glyph) c.args.self.now.mask _ (bucket g.row.SHIFT h) (returns-clause-buckets g c) e

pub returns-clause-exact : goal.returns-clause-exact
returns-clause-exact g c glyphs is = one_added g.row.SHIFT c.args.self.now.mask _ c.args.glyph glyphs (returns-clause-buckets g c) is
