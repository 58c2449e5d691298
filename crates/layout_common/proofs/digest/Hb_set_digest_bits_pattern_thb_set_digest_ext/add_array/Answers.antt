use Rattle.layout_common.specs.Buckets.{bucket, is_bucket_of}
use Rattle.layout_common.proofs.Bits.{more_added, added_there, covered_bucket, old_stays}
use Rattle.layout_common.proofs.digest.Hb_set_digest_bits_pattern_thb_set_digest_ext.add_array.Goals as goal

pub returns-clause-added : goal.returns-clause-added
returns-clause-added g c h e = added_there (is_bucket_of g.row.SHIFT c.args.glyphs.now) c.args.self.now.mask _ (bucket g.row.SHIFT h) c.with_glyphs-self.ensures (covered_bucket g.row.SHIFT h c.args.glyphs.now e)

pub returns-clause-stays : goal.returns-clause-stays
returns-clause-stays g c h e = old_stays (is_bucket_of g.row.SHIFT c.args.glyphs.now) c.args.self.now.mask _ (bucket g.row.SHIFT h) c.with_glyphs-self.ensures e

pub returns-clause-exact : goal.returns-clause-exact
returns-clause-exact g c others is = more_added g.row.SHIFT c.args.self.now.mask _ others c.args.glyphs.now c.with_glyphs-self.ensures is
