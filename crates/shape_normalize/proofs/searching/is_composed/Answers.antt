use Rattle.std.proofs.Common.{sym, ◌∙◌, arith}
use Rattle.shape_normalize.proofs.Uncomposed.{no_mark_stays, blocked_stays, uncomposed_stays}
use Rattle.shape_normalize.proofs.searching.is_composed.Goals as goal

pub returns-then-not-is_mark : goal.returns-then-not-is_mark
returns-then-not-is_mark g c = λ off. no_mark_stays (g.N.Normalizing.normalizer c.args.by.now) c.args.starter c.args.at c.args.glyphs.now c.glyph_at-mark.result.now c.glyph_at-mark.ensures (sym c.is_mark.ensures ∙ c.if-not-is_mark.true)

pub returns-then-mark_class : goal.returns-then-mark_class
returns-then-mark_class g c = λ off.
    let own = c.mark_class.ensures in
    let last = c.mark_class-then-starter-at.ensures in
    let le = c.if-mark_class.true in
    blocked_stays (g.N.Normalizing.normalizer c.args.by.now) c.args.starter c.args.at c.args.glyphs.now c.glyph_at-mark.result.now c.glyph_at-before.result.now c.glyph_at-mark.ensures (sym c.is_mark.ensures ∙ c.if-not-is_mark.false)
    c.if-starter-at.true c.glyph_at-before.ensures (omega (arith, own, last, le))

pub returns : goal.returns
returns g c = λ off.
    uncomposed_stays (g.N.Normalizing.normalizer c.args.by.now) c.args.starter c.args.at c.args.glyphs.now c.glyph_at-first.result.now c.glyph_at-mark.result.now c.composite_of.result c.glyph_at-first.ensures c.glyph_at-mark.ensures
    c.composite_of.ensures (sym c.is_some.ensures ∙ off)
