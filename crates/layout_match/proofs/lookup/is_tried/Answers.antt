use Rattle.std.proofs.Common.{sym, ◌∙◌}
use Rattle.layout_match.specs.Applied.{apply_context_of}
use Rattle.layout_match.proofs.Lemmas.Met.{met, uncovered_there, unmet}
use Rattle.layout_match.proofs.lookup.is_tried.Goals as goal

pub returns-then-not-may_have_glyph-clause-passes : goal.returns-then-not-may_have_glyph-clause-passes
returns-then-not-may_have_glyph-clause-passes g c e act passes r =
    uncovered_there (apply_context_of c.args.ctx.now) act (g.S.Covers.covers c.args.subtables.now) r c.as_glyph.result.0 c.args.buffer.now c.cur-info.result.now c.cur-info.ensures c.as_glyph.ensures (c.may_have_glyph.ensures c.if-not-may_have_glyph.true) passes

pub returns-clause-meets : goal.returns-clause-meets
returns-clause-meets g c e act r = met (apply_context_of c.args.ctx.now) act r c.args.buffer.now c.cur-info.result.now c.cur-info.ensures (sym c.meets.ensures ∙ e)

pub returns-clause-passes : goal.returns-clause-passes
returns-clause-passes g c e act passes r = unmet (apply_context_of c.args.ctx.now) act r c.args.buffer.now c.cur-info.result.now c.cur-info.ensures (sym c.meets.ensures ∙ e)
