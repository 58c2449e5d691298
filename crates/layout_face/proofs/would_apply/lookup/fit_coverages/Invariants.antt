use Rattle.std.proofs.Common.{◌≡◌, drop}
use Rattle.layout_common.specs.Coverage.{is_covered}
use Rattle.layout_face.specs.WouldApplyLookups.{fit}
use Rattle.layout_face.proofs.would_apply.lookup.fit_coverages.Given as goal

-- whether those fit that are left is whether all do
abbrev pub invariant-loop-k : goal.invariant-loop-k
invariant-loop-k l = fit (λ set glyph. is_covered glyph set) (drop l.k l.sets) (drop l.k l.glyphs) ≡ fit (λ set glyph. is_covered glyph set) l.sets l.glyphs
