use Rattle.std.proofs.Common.{◌≡◌, ◌≤◌, ◌+◌, ◌*◌, ◌-◌}
use Rattle.font_bytes.specs.Records.{records}
use Rattle.font_cmap.specs.Ranges.{range_at, form_width}
use Rattle.font_cmap.specs.Rows.{count_of}
use Rattle.font_cmap.proofs.rows.count_characters.Given as goal

-- the characters so far and those of the ranges that are left are all
abbrev pub invariant-loop-index : goal.invariant-loop-index
invariant-loop-index l = record {
  all : l.count + count_of l.least (records (range_at l.table l.ranges.form) (form_width l.ranges.form) (l.ranges.at + form_width l.ranges.form * l.index) (l.ranges.count - l.index)) ≡ count_of 0 (records (range_at l.table l.ranges.form) (form_width l.ranges.form) l.ranges.at l.ranges.count);
  few : l.count ≤ l.least;
}
