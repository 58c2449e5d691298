use Rattle.std.proofs.Common.{◌≡◌, ◌+◌, ◌*◌, ◌-◌, ◌++◌}
use Rattle.font_bytes.specs.Records.{records}
use Rattle.font_kern.proofs.lookups.kern_feature.Given as goal

-- the indices so far, and those that are left, are all
abbrev pub invariant-loop-each : goal.invariant-loop-each
invariant-loop-each l = l.lookups.items ++ records (λ i. i) 2 (l.index + 1 + 2 * l.each) (l.count - l.each) ≡ records (λ i. i) 2 (l.index + 1) l.count
