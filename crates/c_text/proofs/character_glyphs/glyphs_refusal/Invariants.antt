use Rattle.std.proofs.Common.{◌≡◌, drop}
use Rattle.c_text.specs.CharacterGlyphs.{glyphs_refusal}
use Rattle.c_text.proofs.character_glyphs.glyphs_refusal.Given as goal

-- the glyphs that are left decide
abbrev pub invariant-loop-one : goal.invariant-loop-one
invariant-loop-one l = glyphs_refusal (drop l.one-index l.given) ≡ glyphs_refusal l.given
