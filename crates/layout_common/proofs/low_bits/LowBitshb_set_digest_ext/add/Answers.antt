use Rattle.std.proofs.Common.{arith}
use Rattle.layout_common.proofs.LowBits.{low_added, one_low}
use Rattle.layout_common.proofs.low_bits.LowBitshb_set_digest_ext.add.Goals as goal

pub returns-clause-buckets : goal.returns-clause-buckets
returns-clause-buckets c =
    rw c.put_word.ensures (low_added c.args.glyph c.from-index.result c.from.result c.with_bucket-word.result _ c.args.self.now.words c.from-index.ensures c.from.ensures
    (omega (arith, c.well_formed, c.from-index.ensures)) c.with_bucket-word.ensures)

pub returns-clause-exact : goal.returns-clause-exact
returns-clause-exact c glyphs is = one_low c.args.self.now.words _ glyphs c.args.glyph (returns-clause-buckets c) is
