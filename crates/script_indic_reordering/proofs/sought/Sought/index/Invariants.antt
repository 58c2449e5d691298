use Rattle.std.proofs.Common.{◌≡◌}
use Rattle.std.specs.List.{position_or_len}
use Rattle.buffer_glyphs.specs.Items.{strip}
use Rattle.script_indic_reordering.specs.Sought.{picks}
use Rattle.script_indic_reordering.proofs.Lemmas.Positions.{position_from}
use Rattle.script_indic_reordering.proofs.sought.Sought.index.Given as goal

abbrev pub invariant-loop-i : goal.invariant-loop-i
invariant-loop-i l = position_from (λ x. picks l.self x) l.glyphs l.i ≡ position_or_len (λ x. picks l.self x) (strip l.glyphs)
