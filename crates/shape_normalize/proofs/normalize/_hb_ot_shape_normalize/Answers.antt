use Rattle.std.proofs.Common.{ap, ◌∙◌}
use Rattle.buffer_glyphs.specs.Items.{strip}
use Rattle.buffer_properties.specs.NormalizedList.{has_later_mark}
use Rattle.shape_normalize.proofs.Whole.{all_followed}
use Rattle.shape_normalize.proofs.normalize._hb_ot_shape_normalize.Goals as goal

pub returns : goal.returns
returns g c =
    all_followed (g.N.Normalizing.normalizer c.args.by.now) c.has_later_mark-is_marked.result c.args.buffer.now c.expand_characters.new.buffer c.arrange_marks.new.buffer
    (c.has_later_mark-is_marked.ensures ∙ ap (λ gs. has_later_mark (strip gs)) c.info_slice.ensures) c.in_ok-expand_characters.ensures.ok c.in_ok-expand_characters.ensures.fits c.in_ok-arrange_marks.ensures.ok
