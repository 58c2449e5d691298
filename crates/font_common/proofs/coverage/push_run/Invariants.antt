use Rattle.std.proofs.Common.{◌≡◌, ◌+◌, ◌-◌, ◌++◌}
use Rattle.font_common.specs.Coverage.{glyph_run}
use Rattle.font_common.proofs.coverage.push_run.Given as goal

-- the glyphs so far and those that are left are all
abbrev pub invariant-loop-offset : goal.invariant-loop-offset
invariant-loop-offset l = l.glyphs.items ++ glyph_run (l.first + l.offset) (l.count - l.offset) ≡ l.initial.glyphs.items ++ glyph_run l.first l.count
