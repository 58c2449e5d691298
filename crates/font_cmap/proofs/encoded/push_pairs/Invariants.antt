use Rattle.std.proofs.Common.{◌≡◌, ◌++◌, take}
use Rattle.std.specs.List.{flat_map}
use Rattle.font_cmap.specs.Encoded.{roman_row}
use Rattle.font_cmap.proofs.encoded.push_pairs.Given as goal

-- the rows so far are those of the pairs so far
abbrev pub invariant-loop-pair : goal.invariant-loop-pair
invariant-loop-pair l = l.all.items ≡ l.initial.all.items ++ flat_map (roman_row l.rows) (take l.pair-index l.pairs)
