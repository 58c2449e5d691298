use Rattle.std.proofs.Common.{◌≡◌}
use Rattle.buffer_glyphs.specs.Items.{strip}
use Rattle.script_myanmar.specs.Myanmar.{matras_of}
use Rattle.script_myanmar.proofs.MyanmarSteps.{matras_from}
use Rattle.script_myanmar.proofs.myanmar.matras_of.Given as goal

abbrev pub invariant-loop-i : goal.invariant-loop-i
invariant-loop-i l = matras_from l.glyphs l.i ≡ matras_of (strip l.glyphs)
