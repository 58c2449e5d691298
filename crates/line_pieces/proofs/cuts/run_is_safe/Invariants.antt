use Rattle.std.proofs.Common.{◌≡◌, drop, false}
use Rattle.line_pieces.specs.Cuts.{run_is_safe}
use Rattle.line_pieces.specs.Steps.{text_steps}
use Rattle.line_pieces.proofs.cuts.run_is_safe.Given as goal

-- the glyphs that are left are safe exactly where those from the first on are
abbrev pub invariant-loop-i : goal.invariant-loop-i
invariant-loop-i l = run_is_safe l.byte l.found (drop l.i (text_steps l.direction l.glyphs)) ≡ run_is_safe l.byte false (drop l.from (text_steps l.direction l.glyphs))
