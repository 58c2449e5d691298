use Rattle.std.proofs.Common.{◌≡◌, drop}
use Rattle.caret_model.specs.Ligatures.{first_carets}
use Rattle.caret_model.proofs.ligatures.first_carets.Given as goal

-- none of the glyphs so far has any
abbrev pub invariant-loop-glyph : goal.invariant-loop-glyph
invariant-loop-glyph l = first_carets l.ligatures (drop l.glyph-index l.glyphs) ≡ first_carets l.ligatures l.glyphs
