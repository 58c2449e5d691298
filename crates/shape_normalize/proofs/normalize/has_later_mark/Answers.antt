use Rattle.std.proofs.Common.{sym, ap, ◌∙◌}
use Rattle.buffer_glyphs.specs.Items.{strip}
use Rattle.buffer_properties.specs.NormalizedList.{has_later_mark}
use Rattle.shape_normalize.proofs.Whole.{later_mark_seen}
use Rattle.shape_normalize.proofs.normalize.has_later_mark.Goals as goal

pub returns : goal.returns
returns c =
    let whole = c.in-Some.ensures.cases.0 in
    c.has_mark.ensures ∙ (sym (later_mark_seen c.in-Some.field-0-0.now c.in-Some.rest.now) ∙ ap (λ gs. has_later_mark (strip gs)) (sym whole))
