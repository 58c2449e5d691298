use Rattle.std.proofs.Common.{take}
use Rattle.layout_common.specs.Buckets.{is_bucket_of}
use Rattle.layout_common.proofs.Bits.{Adds}
use Rattle.layout_common.proofs.digest.with_glyphs.Given as goal

-- the buckets of the glyphs so far were added
abbrev pub invariant-loop-glyph : goal.invariant-loop-glyph
invariant-loop-glyph g l = Adds (is_bucket_of g.row.SHIFT (take l.glyph-index l.glyphs)) l.mask l.set
