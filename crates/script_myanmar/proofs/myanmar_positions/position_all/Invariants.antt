use Rattle.std.proofs.Common.{◌≡◌, length}
use Rattle.std.specs.Prelude.{replicate}
use Rattle.script_myanmar.proofs.Placing.{placed_to}
use Rattle.script_myanmar.proofs.myanmar_positions.position_all.Given as goal

abbrev pub invariant-loop-glyph : goal.invariant-loop-glyph
invariant-loop-glyph l = l.glyphs ≡ placed_to (replicate (length l.initial.glyphs) l.at) l.glyph-index l.initial.glyphs
