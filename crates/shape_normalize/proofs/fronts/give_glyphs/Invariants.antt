use Rattle.std.proofs.Common.{◌≡◌, ◌++◌, map, take, drop}
use Rattle.shape_normalize.specs.Fronts.{glyph_with_own}
use Rattle.shape_normalize.specs.KnownGlyphs.{HaveGlyphs}
use Rattle.shape_normalize.proofs.fronts.give_glyphs.Given as goal

-- the glyphs before an index are given, and what is remembered is true
abbrev pub invariant-loop-glyph : goal.invariant-loop-glyph
invariant-loop-glyph g l = record {
  given : l.glyphs ≡ map (glyph_with_own (g.N.Normalizing.normalizer l.by)) (take l.glyph-index l.initial.glyphs) ++ drop l.glyph-index l.initial.glyphs;
  rows : HaveGlyphs (g.N.Normalizing.normalizer l.by) l.rows;
}
