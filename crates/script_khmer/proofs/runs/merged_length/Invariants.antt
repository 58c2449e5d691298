use Rattle.std.proofs.Common.{◌≡◌, ◌≤◌, length}
use Rattle.buffer_glyphs.specs.Items.{strip}
use Rattle.buffer_stages.specs.Moves.{reach}
use Rattle.script_khmer.proofs.KhmerScan.{moves_from}
use Rattle.script_khmer.proofs.runs.merged_length.Given as goal

abbrev pub invariant-loop-i : goal.invariant-loop-i
invariant-loop-i l =
    (reach l.merged (moves_from l.forms l.i (strip l.glyphs)) ≡ reach 1 (moves_from l.forms l.index (strip l.glyphs))) × (l.merged ≤ length l.glyphs)
