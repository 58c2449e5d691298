use Rattle.std.proofs.Common.{rules}
use Rattle.shape_glyphs.specs.Glyphs.{as_glyph}
use Rattle.shape_glyphs.proofs.Ended.{chosen_glyphs}
use Rattle.shape_glyphs.proofs.glyphs.map_glyphs_fast.Goals as goal

pub returns-clause-stage : goal.returns-clause-stage
returns-clause-stage c = c.map_glyphs.ensures as_glyph (λ g h r. search rules)

pub returns-clause-numbers : goal.returns-clause-numbers
returns-clause-numbers c = chosen_glyphs _ _ (c.map_glyphs.ensures as_glyph (λ g h r. search rules))
