use Rattle.std.proofs.Common.{◌≡◌}
use Rattle.font_charstrings.specs.Paths.{sides}
use Rattle.font_charstrings.proofs.paths.sides.Given as goal

-- what is drawn so far
abbrev pub invariant-loop-i : goal.invariant-loop-i
invariant-loop-i l = l.drawn ≡ sides l.args l.is_horizontal l.initial.drawn l.i
