use Rattle.std.proofs.Common.{arith, refl}
use Rattle.shape_normalize.proofs.Runs.{none_arranged, run_goes_on, run_ends}
use Rattle.shape_normalize.proofs.ordering.arrange_next.Goals as goal

pub returns-then-mark_class-ne0-clause-ok : goal.returns-then-mark_class-ne0-clause-ok
returns-then-mark_class-ne0-clause-ok g c =
    run_goes_on (g.N.Normalizing.normalizer c.args.by.now).reorders c.args.start c.args.i c.mark_class.result c.item_at-glyph.result c.args.buffer.now c.item_at-glyph.ensures c.mark_class.ensures c.if-mark_class-ne0.true

pub returns-then-start-i-clause-ok : goal.returns-then-start-i-clause-ok
returns-then-start-i-clause-ok g c =
    let same = c.if-start-i.true in
    run_ends (g.N.Normalizing.normalizer c.args.by.now).reorders c.args.start c.args.i c.mark_class.result c.item_at-glyph.result c.args.buffer.now c.args.buffer.now c.item_at-glyph.ensures c.mark_class.ensures
    c.if-mark_class-ne0.false refl (none_arranged (g.N.Normalizing.normalizer c.args.by.now).reorders c.args.start c.args.i c.args.buffer.now c.requires.ready (omega (arith, same)) c.requires.ordered)

pub returns-clause-ok : goal.returns-clause-ok
returns-clause-ok g c =
    run_ends (g.N.Normalizing.normalizer c.args.by.now).reorders c.args.start c.args.i c.mark_class.result c.item_at-glyph.result c.args.buffer.now c.arrange_run.new.buffer c.item_at-glyph.ensures c.mark_class.ensures
    c.if-mark_class-ne0.false c.in_ok-arrange_run.ensures.count c.in_ok-arrange_run.ensures.ok
