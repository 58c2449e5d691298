use Rattle.std.proofs.Common.{◌≡◌}
use Rattle.font_cff.specs.Charset.{subset_sids}
use Rattle.font_cff.proofs.charset.read_subset.Given as goal

-- the numbers so far
abbrev pub invariant-loop-glyph : goal.invariant-loop-glyph
invariant-loop-glyph l = l.sids.items ≡ subset_sids l.glyph
