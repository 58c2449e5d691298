use Rattle.std.proofs.Common.{◌≡◌, ◌-◌, ◌++◌}
use Rattle.font_bytes.specs.Records.{records}
use Rattle.font_kern.proofs.classes.all_glyphs.Given as goal

-- the glyphs so far, and those that are left, are all
abbrev pub invariant-loop-glyph : goal.invariant-loop-glyph
invariant-loop-glyph l = l.glyphs.items ++ records (λ g. g) 1 l.glyph (l.count - l.glyph) ≡ records (λ g. g) 1 0 l.count
