use Rattle.std.proofs.Common.{sym, ◌∙◌}
use Rattle.buffer_glyphs.proofs.Even.{stays_unmarked}
use Rattle.buffer_glyphs.proofs.marks.mark_apart.Goals as goal

pub returns-else-any-clause-marked : goal.returns-else-any-clause-marked
returns-else-any-clause-marked c = stays_unmarked c.args.flags c.least_cluster-low.result c.args.glyphs.now c.least_cluster-low.ensures (sym c.has_other_cluster-any.ensures ∙ c.if-any.false)
