use Rattle.std.proofs.Common.{sym}
use Rattle.layout_common.proofs.Bits.{no_bits}
use Rattle.layout_common.proofs.digest.group.Goals as goal

pub returns-else-this-lt16 : goal.returns-else-this-lt16
returns-else-this-lt16 g c = sym (no_bits c.args.glyph g.row.SHIFT c.ranges.glyph.fits c.if-this-lt16.false)
