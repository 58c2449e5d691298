use Rattle.std.proofs.Common.{◌≡◌, ◌-◌, ◌++◌, ◌≤◌, ◌+◌, length}
use Rattle.font_names.specs.Strings.{string_starts}
use Rattle.font_names.proofs.strings.string_starts.Given as goal

-- the strings so far and those that are left are all
abbrev pub invariant-loop-index : goal.invariant-loop-index
invariant-loop-index l = l.starts.items ++ string_starts l.bytes l.at (l.count - l.index) ≡ string_starts l.bytes l.from l.count
