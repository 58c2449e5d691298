use Rattle.std.proofs.Common.{Option, ap, sym, ◌∙◌}
use Rattle.buffer_glyphs.specs.Items.{Item, item_of}
use Rattle.layout_gpos.proofs.Lemmas.Taken.{one_before}
use Rattle.layout_gpos.specs.Marks.{is_later_component}
use Rattle.layout_gpos.proofs.search.is_later_component.Goals as goal

pub returns : goal.returns
returns c =
    let before = one_before c.args.buffer.now.behind c.args.before c.glyph_before.result.now c.glyph_before.ensures in
    c.is_next_component.ensures ∙ sym (ap (λ (o : Option Item). is_later_component o (item_of c.args.info.now)) before)
