use Rattle.script_arabic.proofs.Walked.{AreRun}
use Rattle.script_arabic.proofs.runs.runs_of.Given as goal

-- the glyphs before `at` have their runs
abbrev pub invariant-loop-at : goal.invariant-loop-at
invariant-loop-at l = AreRun l.face l.glyphs l.positions l.at l.before l.runs.items
