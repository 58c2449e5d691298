use Rattle.std.proofs.Common.{◌≡◌, ◌+◌, ◌*◌, ◌-◌, ◌++◌}
use Rattle.std.specs.List.{flat_map}
use Rattle.font_bytes.specs.Records.{records}
use Rattle.font_cmap.specs.Encoded.{row_glyph}
use Rattle.font_cmap.specs.Variations.{range_rows, itself}
use Rattle.font_cmap.proofs.variations.push_ranges.Given as goal

-- the rows so far and those of the ranges that are left are all
abbrev pub invariant-loop-index : goal.invariant-loop-index
invariant-loop-index l = l.rows.items ++ flat_map (range_rows l.table (row_glyph l.usual) l.selector) (records itself 4 (l.at + 4 * l.index) (l.count - l.index))
    ≡ l.initial.rows.items ++ flat_map (range_rows l.table (row_glyph l.usual) l.selector) (records itself 4 l.at l.count)
