use Rattle.script_myanmar.proofs.Placing.{ArePlaced}
use Rattle.script_myanmar.proofs.myanmar_positions.position_rest.Given as goal

abbrev pub invariant-loop-glyph : goal.invariant-loop-glyph
invariant-loop-glyph l = ArePlaced l.glyph-index l.now l.before l.initial.glyphs l.glyphs
