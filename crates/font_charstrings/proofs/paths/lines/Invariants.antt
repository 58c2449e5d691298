use Rattle.std.proofs.Common.{◌≡◌}
use Rattle.font_charstrings.specs.Paths.{lines}
use Rattle.font_charstrings.proofs.paths.lines.Given as goal

-- what is drawn so far
abbrev pub invariant-loop-i : goal.invariant-loop-i
invariant-loop-i l = l.drawn ≡ lines l.args l.initial.drawn l.i
