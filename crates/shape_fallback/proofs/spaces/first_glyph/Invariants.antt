use Rattle.std.proofs.Common.{◌≡◌, drop}
use Rattle.shape_fallback.specs.Spaces.{first_glyph}
use Rattle.shape_fallback.proofs.spaces.first_glyph.Given as goal

abbrev pub invariant-loop-c : goal.invariant-loop-c
invariant-loop-c l = first_glyph (drop l.c-index l.characters) l.face ≡ first_glyph l.characters l.face
