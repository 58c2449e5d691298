use Rattle.std.proofs.Common.{◌≡◌, drop}
use Rattle.std.specs.List.{list_any}
use Rattle.buffer_glyphs.specs.Items.{strip}
use Rattle.script_syllabic.specs.Circles.{is_broken}
use Rattle.script_syllabic.proofs.circles.has_broken.Given as goal

-- what is left has a broken syllable where all has one
abbrev pub invariant-loop-glyph : goal.invariant-loop-glyph
invariant-loop-glyph l = list_any (is_broken l.rule) (strip (drop l.glyph-index l.glyphs)) ≡ list_any (is_broken l.rule) (strip l.glyphs)
