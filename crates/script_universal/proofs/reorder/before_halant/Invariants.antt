use Rattle.std.proofs.Common.{◌≡◌}
use Rattle.buffer_glyphs.specs.Items.{strip}
use Rattle.script_universal.proofs.Steps.{before_halant, halant_from}
use Rattle.script_universal.proofs.reorder.before_halant.Given as goal

abbrev pub invariant-loop-i : goal.invariant-loop-i
invariant-loop-i l = halant_from l.glyphs l.i ≡ before_halant (strip l.glyphs)
