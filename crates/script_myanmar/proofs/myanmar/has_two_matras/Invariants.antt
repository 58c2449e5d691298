use Rattle.std.proofs.Common.{◌≡◌, drop}
use Rattle.buffer_glyphs.specs.Items.{strip}
use Rattle.script_myanmar.specs.Myanmar.{has_two_matras}
use Rattle.script_myanmar.proofs.MyanmarSteps.{are_two}
use Rattle.script_myanmar.proofs.myanmar.has_two_matras.Given as goal

abbrev pub invariant-loop-glyph : goal.invariant-loop-glyph
invariant-loop-glyph l = are_two l.is_second (drop l.glyph-index l.glyphs) ≡ has_two_matras (strip l.glyphs)
