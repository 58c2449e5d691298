use Rattle.std.proofs.Common.{◌≡◌, ◌+◌, ◌-◌, ◌++◌}
use Rattle.font_cmap.specs.Ranges.{glyph_in}
use Rattle.font_cmap.specs.Rows.{rows_in}
use Rattle.font_cmap.proofs.rows.push_rows.Given as goal

-- the rows so far and those of the characters that are left are all
abbrev pub invariant-loop-offset : goal.invariant-loop-offset
invariant-loop-offset l = l.rows.items ++ rows_in (glyph_in l.table l.range) (l.from + l.offset) (l.count - l.offset)
    ≡ l.initial.rows.items ++ rows_in (glyph_in l.table l.range) l.from l.count
