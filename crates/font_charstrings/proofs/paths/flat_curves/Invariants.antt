use Rattle.std.proofs.Common.{◌≡◌}
use Rattle.font_charstrings.specs.Paths.{flat_curves}
use Rattle.font_charstrings.proofs.paths.flat_curves.Given as goal

-- what is drawn so far
abbrev pub invariant-loop-i : goal.invariant-loop-i
invariant-loop-i l = l.drawn ≡ flat_curves l.args l.is_horizontal l.initial.drawn l.i
