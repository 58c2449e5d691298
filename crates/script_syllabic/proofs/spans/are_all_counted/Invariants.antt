use Rattle.std.proofs.Common.{◌≡◌, drop}
use Rattle.buffer_glyphs.specs.Items.{strip}
use Rattle.script_syllabic.specs.Spans.{are_all_counted}
use Rattle.script_syllabic.proofs.spans.are_all_counted.Given as goal

-- the rest counts where the whole does
abbrev pub invariant-loop-at : goal.invariant-loop-at
invariant-loop-at l = are_all_counted (strip (drop l.at l.glyphs)) ≡ are_all_counted (strip l.glyphs)
