use Rattle.std.proofs.Common.{rules}
use Rattle.shape_pipeline.specs.Glyphs.{as_classed_glyph}
use Rattle.shape_pipeline.proofs.Classed.{classed_glyphs}
use Rattle.shape_pipeline.proofs.classed_glyphs.map_classed_glyphs.Goals as goal

pub returns-then-len-lt-ROWS-clause-stage : goal.returns-then-len-lt-ROWS-clause-stage
returns-then-len-lt-ROWS-clause-stage c = c.map_glyphs.ensures (as_classed_glyph c.args.face.now) (λ g h r. search rules)

pub returns-then-len-lt-ROWS-clause-numbers : goal.returns-then-len-lt-ROWS-clause-numbers
returns-then-len-lt-ROWS-clause-numbers c = classed_glyphs c.args.face.now _ _ (c.map_glyphs.ensures (as_classed_glyph c.args.face.now) (λ g h r. search rules))

pub returns-clause-numbers : goal.returns-clause-numbers
returns-clause-numbers c = classed_glyphs c.args.face.now _ _ c.class_by_rows.ensures
