use Rattle.std.proofs.Common.{◌≡◌, ◌++◌, drop, map, zip}
use Rattle.cell_grid.specs.Grids.{cell_glyph}
use Rattle.cell_grid.proofs.grid.cell_glyphs.Given as goal

-- the glyphs so far, then those that are left
abbrev pub invariant-loop-i : goal.invariant-loop-i
invariant-loop-i l = l.drawn.items ++ map cell_glyph (zip (drop l.i l.infos) (drop l.i l.positions)) ≡ map cell_glyph (zip l.infos l.positions)
