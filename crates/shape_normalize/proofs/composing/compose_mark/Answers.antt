use Rattle.std.proofs.Common.{ap, ◌∙◌}
use Rattle.buffer_glyphs.specs.Items.{Item}
use Rattle.buffer_properties.specs.Characters.{standing_for, with_glyph}
use Rattle.shape_normalize.proofs.Compositions.{composed_is, item_same}
use Rattle.shape_normalize.proofs.composing.compose_mark.Goals as goal

pub returns-clause-ok : goal.returns-clause-ok
returns-clause-ok g c x seen =
    let made : Item → Item = λ y. with_glyph c.args.glyph (standing_for (g.N.Normalizing.normalizer c.args.by.now).tables c.args.u y) in
    composed_is c.args.starter c.out_at-last.result c.becoming-info.result x (made x) c.args.buffer.now c.take_mark.new.buffer c.write_out.new.buffer c.in_ok-take_mark.ensures.behind c.in_ok-take_mark.ensures.ahead
    c.in_ok-take_mark.ensures.happened c.in_ok-take_mark.ensures.frame c.out_at-last.ensures
    (c.becoming-info.ensures.item ∙ ap made (item_same c.args.starter c.out_at-last.result x c.args.buffer.now c.take_mark.new.buffer c.in_ok-take_mark.ensures.behind c.out_at-last.ensures seen))
    c.becoming-info.ensures.origin c.in_ok-write_out.ensures.ok
