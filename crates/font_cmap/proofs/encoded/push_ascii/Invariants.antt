use Rattle.std.proofs.Common.{◌≡◌, ◌-◌, ◌++◌}
use Rattle.font_cmap.specs.Rows.{rows_in}
use Rattle.font_cmap.specs.Encoded.{row_glyph}
use Rattle.font_cmap.proofs.encoded.push_ascii.Given as goal

-- the rows so far and those of the numbers that are left are all
abbrev pub invariant-loop-code : goal.invariant-loop-code
invariant-loop-code l = l.all.items ++ rows_in (row_glyph l.rows) l.code (128 - l.code)
    ≡ l.initial.all.items ++ rows_in (row_glyph l.rows) 0 128
