use Rattle.std.proofs.Common.{◌≡◌, ◌++◌, None, drop}
use Rattle.shape_trials.specs.Breaks.{cuts_after}
use Rattle.shape_trials.proofs.breaks.cuts.Given as goal

-- what was found, and then what is left
abbrev pub invariant-loop-glyph : goal.invariant-loop-glyph
invariant-loop-glyph l = l.cuts.items ++ cuts_after l.glyphs l.last (drop l.glyph-index l.glyphs) ≡ cuts_after l.glyphs None l.glyphs
