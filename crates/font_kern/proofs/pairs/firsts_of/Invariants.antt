use Rattle.std.proofs.Common.{◌≡◌, ◌++◌, None, map, drop}
use Rattle.std.specs.Ordering.{nat_cmp}
use Rattle.font_common.specs.Rows.{first_rows}
use Rattle.font_kern.specs.Pairs.{firsts_of}
use Rattle.font_kern.proofs.pairs.firsts_of.Given as goal

-- the glyphs so far, and those that are kept of what is left, are all that are kept
abbrev pub invariant-loop-row : goal.invariant-loop-row
invariant-loop-row l =
    l.firsts.items ++ first_rows nat_cmp (λ g. g) l.before (map (λ r. r.first) (drop l.row-index l.rows))
    ≡ firsts_of l.rows
