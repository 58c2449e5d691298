use Rattle.std.proofs.Common.{◌≡◌, ◌-◌, ◌++◌}
use Rattle.font_cmap.specs.Rows.{rows_in}
use Rattle.font_cmap.specs.Encoded.{row_glyph, symbol_glyph}
use Rattle.font_cmap.proofs.encoded.push_low.Given as goal

-- the rows so far and those of the numbers that are left are all
abbrev pub invariant-loop-number : goal.invariant-loop-number
invariant-loop-number l = l.low.items ++ rows_in (symbol_glyph (row_glyph l.rows)) l.number (256 - l.number)
    ≡ l.initial.low.items ++ rows_in (symbol_glyph (row_glyph l.rows)) 0 256
