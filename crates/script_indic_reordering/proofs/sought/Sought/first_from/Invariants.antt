use Rattle.std.proofs.Common.{◌≡◌, ◌≤◌, drop}
use Rattle.buffer_glyphs.specs.Items.{strip}
use Rattle.script_indic_reordering.specs.Indices.{begins_with, first_at}
use Rattle.script_indic_reordering.specs.Sought.{picks}
use Rattle.script_indic_reordering.proofs.sought.Sought.first_from.Given as goal

abbrev pub invariant-loop-i : goal.invariant-loop-i
invariant-loop-i l =
    (first_at (begins_with (λ x. picks l.self x)) l.i (drop l.i (strip l.glyphs)) ≡ first_at (begins_with (λ x. picks l.self x)) l.from (drop l.from (strip l.glyphs))) × (l.from ≤ l.i)
