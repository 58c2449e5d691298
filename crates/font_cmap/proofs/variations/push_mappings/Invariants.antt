use Rattle.std.proofs.Common.{◌≡◌, ◌+◌, ◌*◌, ◌-◌, ◌++◌}
use Rattle.std.specs.List.{flat_map}
use Rattle.font_bytes.specs.Records.{records}
use Rattle.font_cmap.specs.Variations.{mapping_row, itself}
use Rattle.font_cmap.proofs.variations.push_mappings.Given as goal

-- the rows so far and those of the mappings that are left are all
abbrev pub invariant-loop-index : goal.invariant-loop-index
invariant-loop-index l = l.rows.items ++ flat_map (mapping_row l.table l.selector) (records itself 5 (l.at + 5 * l.index) (l.count - l.index))
    ≡ l.initial.rows.items ++ flat_map (mapping_row l.table l.selector) (records itself 5 l.at l.count)
