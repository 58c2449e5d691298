use Rattle.std.proofs.Common.{ap, ap₂, sym, ◌∙◌}
use Rattle.std.specs.Option.{option_and_then}
use Rattle.buffer_glyphs.specs.Items.{Item}
use Rattle.buffer_properties.specs.Characters.{is_mark}
use Rattle.buffer_properties.specs.Composing.{becoming}
use Rattle.shape_normalize.specs.Starters.{become}
use Rattle.shape_normalize.proofs.Walk.{current_item, starter_item, no_mark, out_of_reach, in_reach}
use Rattle.shape_normalize.proofs.starters.find_composite.Goals as goal

pub returns-then-not-is_mark : goal.returns-then-not-is_mark
returns-then-not-is_mark g c = λ done x between y ys at.
    let same = current_item c.args.starter done x between y ys c.cur-mark.result.now c.args.buffer.now at c.cur-mark.ensures in
    sym (no_mark (g.N.Normalizing.normalizer c.args.by.now) x between y (sym (ap is_mark same) ∙ sym c.is_mark.ensures ∙ c.if-not-is_mark.true))

pub returns-then-not-is_reaching : goal.returns-then-not-is_reaching
returns-then-not-is_reaching g c = λ done x between y ys at.
    let same = current_item c.args.starter done x between y ys c.cur-mark.result.now c.args.buffer.now at c.cur-mark.ensures in
    sym (out_of_reach (g.N.Normalizing.normalizer c.args.by.now) x between y (sym (ap is_mark same) ∙ sym c.is_mark.ensures ∙ c.if-not-is_mark.false)
    (sym (c.is_reaching.ensures done x between y ys at) ∙ c.if-not-is_reaching.true))

pub returns : goal.returns
returns g c = λ done x between y ys at.
    let same = current_item c.args.starter done x between y ys c.cur-mark.result.now c.args.buffer.now at c.cur-mark.ensures in
    let first = starter_item c.args.starter done x between y ys c.out_at-first.result c.args.buffer.now at c.out_at-first.ensures in
    ap (λ z. become (g.N.Normalizing.normalizer c.args.by.now) z c.composite_of.result) (sym first) ∙ c.composite_of.ensures
    ∙ ap₂ (λ (a b : Item). option_and_then (becoming (g.N.Normalizing.normalizer c.args.by.now) a) ((g.N.Normalizing.normalizer c.args.by.now).composes a.number b.number)) first same
    ∙ sym (in_reach (g.N.Normalizing.normalizer c.args.by.now) x between y (sym (ap is_mark same) ∙ sym c.is_mark.ensures ∙ c.if-not-is_mark.false)
    (sym (c.is_reaching.ensures done x between y ys at) ∙ c.if-not-is_reaching.false))
