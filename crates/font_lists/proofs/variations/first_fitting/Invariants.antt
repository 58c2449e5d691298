use Rattle.std.proofs.Common.{◌≡◌, ◌+◌, ◌-◌, ◌*◌}
use Rattle.font_bytes.specs.Records.{records}
use Rattle.font_lists.specs.Variations.{first_fitting}
use Rattle.font_lists.proofs.variations.first_fitting.Given as goal

-- the first of those that are left is the first of all
abbrev pub invariant-loop-index : goal.invariant-loop-index
invariant-loop-index l = first_fitting l.table l.base l.room.left (records (λ o. o) 8 (l.base + 8 + 8 * l.index) (l.count - l.index))
    ≡ first_fitting l.table l.base l.fn.room.left (records (λ o. o) 8 (l.base + 8) l.count)
