use Rattle.std.proofs.Common.{◌≡◌, ◌+◌, ◌*◌, ◌-◌, ◌++◌, ◌∷◌}
use Rattle.font_bytes.specs.Words.{word}
use Rattle.font_bytes.specs.Records.{records}
use Rattle.font_cff.proofs.charset.read_listed.Given as goal

-- those so far and those that are left are all
abbrev pub invariant-loop-index : goal.invariant-loop-index
invariant-loop-index l = l.sids.items ++ records (word l.table) 2 (l.at + 2 * l.index) (l.count - l.index) ≡ 0 ∷ records (word l.table) 2 l.at l.count
