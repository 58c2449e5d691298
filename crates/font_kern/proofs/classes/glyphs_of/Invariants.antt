use Rattle.std.proofs.Common.{◌≡◌, map, take}
use Rattle.font_kern.proofs.classes.glyphs_of.Given as goal

-- the glyphs so far are those of the first rows
abbrev pub invariant-loop-row : goal.invariant-loop-row
invariant-loop-row l = l.glyphs.items ≡ map (λ r. r.glyph) (take l.row-index l.rows)
