use Rattle.std.proofs.Common.{arith}
use Rattle.layout_common.proofs.Words.{bit_added_to}
use Rattle.layout_common.proofs.glyph_bits.GlyphBits.add.Goals as goal

pub returns-clause-added : goal.returns-clause-added
returns-clause-added c = λ g.
    bit_added_to c.args.self.now.start c.args.glyph g c.with_bucket.result c.from-index.result c.from.result c.index.result.now c.index.result.now c.args.self.now.words.items c.lengthen.new.words.items
    c.requires c.from-index.ensures c.from.ensures (omega (arith, c.in_ok-lengthen.ensures.long)) c.index.ensures c.with_bucket.ensures (c.in_ok-lengthen.ensures.same c.args.self.now.start g)
