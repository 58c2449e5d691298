use Rattle.std.proofs.Common.{◌≡◌, drop}
use Rattle.buffer_glyphs.specs.Origins.{origin_of, origins}
use Rattle.shape_trials.specs.Answers.{is_even_from}
use Rattle.shape_trials.proofs.alone.are_even_after.Given as goal

-- what is left decides
abbrev pub invariant-loop-glyph : goal.invariant-loop-glyph
invariant-loop-glyph l = is_even_from (origin_of l.before) (origins (drop l.glyph-index l.rest)) ≡ is_even_from (origin_of l.first) (origins l.rest)
