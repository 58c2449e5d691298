use Rattle.std.proofs.Common.{◌≡◌}
use Rattle.buffer_glyphs.specs.Items.{strip}
use Rattle.script_universal.proofs.Steps.{passed, passed_from}
use Rattle.script_universal.proofs.reorder.passed_by_reph.Given as goal

abbrev pub invariant-loop-i : goal.invariant-loop-i
invariant-loop-i l = passed_from l.glyphs l.i ≡ passed (strip l.glyphs)
