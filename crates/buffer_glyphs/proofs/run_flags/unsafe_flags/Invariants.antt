use Rattle.std.proofs.Common.{◌≡◌, drop}
use Rattle.std.specs.Int.RustNames.{bit_or}
use Rattle.buffer_glyphs.specs.Origins.{origins, unsafe_flags}
use Rattle.buffer_glyphs.proofs.run_flags.unsafe_flags.Given as goal

abbrev pub invariant-loop-glyph : goal.invariant-loop-glyph
invariant-loop-glyph l = bit_or l.flags (unsafe_flags l.cluster (origins (drop l.glyph-index l.glyphs))) ≡ unsafe_flags l.cluster (origins l.glyphs)
