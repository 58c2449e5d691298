use Rattle.std.proofs.Common.{sym, ◌∙◌}
use Rattle.shape_normalize.proofs.Shown.{no_joiner, apart_stays, joiner_shown}
use Rattle.shape_normalize.proofs.joiners.show_joiner.Goals as goal

pub returns-then-glyph-ne-JOINER : goal.returns-then-glyph-ne-JOINER
returns-then-glyph-ne-JOINER c =
    no_joiner c.args.before c.args.i c.mark_class-class.result c.cur.result.now c.args.buffer.now c.requires.ready c.cur.ensures c.mark_class-class.ensures c.if-glyph-ne-JOINER.true

pub returns-then-not-keeps_nothing_apart : goal.returns-then-not-keeps_nothing_apart
returns-then-not-keeps_nothing_apart c =
    apart_stays c.args.before c.args.i c.mark_class-class.result c.mark_class-after.result c.cur.result.now c.cur-2.result.now c.args.buffer.now c.requires.ready c.cur.ensures c.mark_class-class.ensures
    c.cur-2.ensures c.mark_class-after.ensures (sym c.keeps_nothing_apart.ensures ∙ c.if-not-keeps_nothing_apart.true)

pub returns : goal.returns
returns c =
    joiner_shown c.args.before c.args.i c.mark_class-class.result c.mark_class-after.result c.cur.result.now c.cur-2.result.now c.shown.result c.args.buffer.now c.write_ahead.new.buffer c.requires.ready c.cur.ensures
    c.mark_class-class.ensures c.cur-2.ensures c.mark_class-after.ensures c.if-glyph-ne-JOINER.false (sym c.keeps_nothing_apart.ensures ∙ c.if-not-keeps_nothing_apart.false) c.shown.ensures.item c.shown.ensures.origin
    c.write_ahead.ensures
