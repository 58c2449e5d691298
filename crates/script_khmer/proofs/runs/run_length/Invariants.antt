use Rattle.std.proofs.Common.{◌≡◌}
use Rattle.buffer_glyphs.specs.Items.{strip}
use Rattle.script_khmer.specs.Runs.{run_length}
use Rattle.script_khmer.proofs.KhmerScan.{run_from}
use Rattle.script_khmer.proofs.runs.run_length.Given as goal

abbrev pub invariant-loop-i : goal.invariant-loop-i
invariant-loop-i l = run_from l.forms l.few l.glyphs l.i ≡ run_length l.forms l.few (strip l.glyphs)
