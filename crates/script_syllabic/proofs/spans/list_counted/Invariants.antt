use Rattle.script_syllabic.proofs.Counting.{AreCounted}
use Rattle.script_syllabic.proofs.spans.list_counted.Given as goal

-- the glyphs before `at` were counted
abbrev pub invariant-loop-at : goal.invariant-loop-at
invariant-loop-at l = AreCounted l.at l.glyphs l.categories.items l.indices.items
