use Rattle.std.proofs.Common.{◌≡◌, ◌-◌, ◌++◌}
use Rattle.font_cff.specs.Selects.{copies}
use Rattle.font_cff.proofs.selects.push_copies.Given as goal

-- the copies so far and those that are left are all
abbrev pub invariant-loop-index : goal.invariant-loop-index
invariant-loop-index l = l.selects.items ++ copies l.dict (l.count - l.index) ≡ l.initial.selects.items ++ copies l.dict l.count
