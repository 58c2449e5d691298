use Rattle.script_syllabic.specs.Features.{has_feature}
use Rattle.script_syllabic.proofs.Recorded.{ArePassed}
use Rattle.script_syllabic.proofs.recording.record_first.Given as goal

-- the glyphs before `at` have the feature, and no substitution put them there
abbrev pub invariant-loop-at : goal.invariant-loop-at
invariant-loop-at l = ArePassed (has_feature l.mask) l.category l.at l.initial.glyphs l.glyphs
