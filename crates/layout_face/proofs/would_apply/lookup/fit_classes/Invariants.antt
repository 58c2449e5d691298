use Rattle.std.proofs.Common.{◌≡◌, ◌==◌, drop}
use Rattle.layout_common.specs.Classes.{class_of}
use Rattle.layout_face.specs.WouldApplyLookups.{fit}
use Rattle.layout_face.proofs.would_apply.lookup.fit_classes.Given as goal

-- whether those fit that are left is whether all do
abbrev pub invariant-loop-k : goal.invariant-loop-k
invariant-loop-k l = fit (λ class glyph. class_of glyph l.classes == class) (drop l.k l.values) (drop l.k l.glyphs) ≡ fit (λ class glyph. class_of glyph l.classes == class) l.values l.glyphs
