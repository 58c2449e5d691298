use Rattle.std.proofs.Common.{◌≡◌, ◌++◌, map, take, drop}
use Rattle.shape_normalize.specs.Fronts.{glyph_with_own}
use Rattle.shape_normalize.specs.KnownGlyphs.{HaveGlyphs}
use Rattle.shape_normalize.proofs.kept_runs.give_each.Given as goal

-- the glyphs before an index are given, and what is remembered is true
abbrev pub invariant-loop-i : goal.invariant-loop-i
invariant-loop-i g l = record {
  given : l.buffer ≡ record l.initial.buffer { ahead = map (glyph_with_own (g.N.Normalizing.normalizer l.by)) (take l.i l.initial.buffer.ahead) ++ drop l.i l.initial.buffer.ahead };
  rows : HaveGlyphs (g.N.Normalizing.normalizer l.by) l.rows;
}
