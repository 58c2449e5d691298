use Rattle.std.proofs.Common.{◌≡◌, ◌++◌, take, drop}
use Rattle.buffer_glyphs.specs.Items.{clusters}
use Rattle.buffer_glyphs.specs.Glyphs.{glyphs_merged}
use Rattle.buffer_glyphs.proofs.merges.spread.Given as goal

-- the glyphs that were passed are merged
abbrev pub invariant-loop-glyph : goal.invariant-loop-glyph
invariant-loop-glyph l = l.glyphs ≡ glyphs_merged (clusters l.range) (take l.glyph-index l.initial.glyphs) ++ drop l.glyph-index l.initial.glyphs
