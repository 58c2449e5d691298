use Rattle.std.proofs.Common.{◌≡◌}
use Rattle.font_cff.specs.Charset.{expert_sids}
use Rattle.font_cff.proofs.charset.read_expert.Given as goal

-- the numbers so far
abbrev pub invariant-loop-glyph : goal.invariant-loop-glyph
invariant-loop-glyph l = l.sids.items ≡ expert_sids l.glyph
