use Rattle.script_arabic.proofs.Underway.{IsUnderway}
use Rattle.script_arabic.proofs.copying.copy_tiles.Given as goal

-- the glyphs before are output with their copies
abbrev pub invariant-loop-tile : goal.invariant-loop-tile
invariant-loop-tile l = IsUnderway l.tiles l.tile-index l.initial.buffer l.buffer
