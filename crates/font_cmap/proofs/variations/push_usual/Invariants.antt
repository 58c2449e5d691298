use Rattle.std.proofs.Common.{◌≡◌, ◌+◌, ◌-◌, ◌++◌}
use Rattle.font_cmap.specs.Encoded.{row_glyph}
use Rattle.font_cmap.specs.Variations.{variants_in}
use Rattle.font_cmap.proofs.variations.push_usual.Given as goal

-- the rows so far and those of the characters that are left are all
abbrev pub invariant-loop-offset : goal.invariant-loop-offset
invariant-loop-offset l = l.rows.items ++ variants_in (row_glyph l.usual) l.selector (l.first + l.offset) (l.count - l.offset)
    ≡ l.initial.rows.items ++ variants_in (row_glyph l.usual) l.selector l.first l.count
