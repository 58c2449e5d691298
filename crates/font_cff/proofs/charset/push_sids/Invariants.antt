use Rattle.std.proofs.Common.{◌≡◌, ◌+◌, ◌-◌, ◌++◌}
use Rattle.font_cff.specs.Fonts.{numbers}
use Rattle.font_cff.proofs.charset.push_sids.Given as goal

-- the numbers so far and those that are left are all
abbrev pub invariant-loop-index : goal.invariant-loop-index
invariant-loop-index l = l.sids.items ++ numbers (l.first + l.index) (l.count - l.index) ≡ l.initial.sids.items ++ numbers l.first l.count
