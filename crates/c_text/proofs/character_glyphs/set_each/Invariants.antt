use Rattle.std.proofs.Common.{◌≡◌, drop, take}
use Rattle.c_text.specs.CharacterGlyphs.{glyphs_refusal, with_glyphs}
use Rattle.c_text.proofs.character_glyphs.set_each.Given as goal

-- the glyphs before one are set, and none of those that are left is refused
abbrev pub invariant-loop-one : goal.invariant-loop-one
invariant-loop-one l = (l.face ≡ with_glyphs (take l.one-index l.given) l.fn.face) × (glyphs_refusal (drop l.one-index l.given) ≡ 0)
