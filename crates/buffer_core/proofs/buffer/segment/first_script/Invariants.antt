use Rattle.std.proofs.Common.{◌≡◌, drop}
use Rattle.buffer_core.specs.Segment.{first_script}
use Rattle.buffer_core.proofs.buffer.segment.first_script.Given as goal

-- what is left decides
abbrev pub invariant-loop-glyph : goal.invariant-loop-glyph
invariant-loop-glyph l = first_script (drop l.glyph-index l.glyphs) ≡ first_script l.glyphs
