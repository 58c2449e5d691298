use Rattle.script_arabic.proofs.Listed.{AreTiles}
use Rattle.script_arabic.proofs.laying.tiles_of.Given as goal

-- the glyphs before `at` have their tiles
abbrev pub invariant-loop-at : goal.invariant-loop-at
invariant-loop-at l = AreTiles l.face l.glyphs l.runs l.at l.tiles.items
