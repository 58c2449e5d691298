use Rattle.std.proofs.Common.{◌≡◌, ◌≤◌, ◌-◌, drop, length, None}
use Rattle.buffer_glyphs.specs.Items.{strip}
use Rattle.script_indic_reordering.specs.Indices.{begins_with, last_at}
use Rattle.script_indic_reordering.specs.Sought.{picks}
use Rattle.script_indic_reordering.proofs.sought.Sought.last_from.Given as goal

abbrev pub invariant-loop-i : goal.invariant-loop-i
invariant-loop-i l = (last_at (begins_with (λ x. picks l.self x)) l.i (drop l.i (strip l.glyphs)) ≡ None) × (l.i ≤ length l.glyphs)

abbrev pub decreases-loop-i : goal.decreases-loop-i
decreases-loop-i l = l.i - l.from
