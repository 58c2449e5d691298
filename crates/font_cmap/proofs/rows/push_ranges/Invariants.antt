use Rattle.std.proofs.Common.{◌≡◌, ◌+◌, ◌*◌, ◌-◌, ◌++◌}
use Rattle.font_bytes.specs.Records.{records}
use Rattle.font_cmap.specs.Ranges.{range_at, form_width}
use Rattle.font_cmap.specs.Rows.{rows_of}
use Rattle.font_cmap.proofs.rows.push_ranges.Given as goal

-- the rows so far and those of the ranges that are left are all
abbrev pub invariant-loop-index : goal.invariant-loop-index
invariant-loop-index l = l.rows.items ++ rows_of l.table l.least (records (range_at l.table l.ranges.form) (form_width l.ranges.form) (l.ranges.at + form_width l.ranges.form * l.index) (l.ranges.count - l.index))
    ≡ l.initial.rows.items ++ rows_of l.table l.start (records (range_at l.table l.ranges.form) (form_width l.ranges.form) l.ranges.at l.ranges.count)
