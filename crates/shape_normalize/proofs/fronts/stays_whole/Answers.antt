use Rattle.std.proofs.Common.{ap, sym, ◌∙◌, arith}
use Rattle.std.specs.List.{list_all}
use Rattle.buffer_glyphs.specs.declared.info.hb_glyph_info_t.{hb_glyph_info_t}
use Rattle.buffer_glyphs.specs.Items.{item_of}
use Rattle.buffer_properties.specs.Normalizer.{reach_alone, reach_with_marks}
use Rattle.shape_normalize.specs.Fronts.{is_whole}
use Rattle.shape_normalize.proofs.Taken.{lone_stays, marked_stays}
use Rattle.shape_normalize.proofs.fronts.stays_whole.Goals as goal

pub returns-then-group-lt2-clause-whole : goal.returns-then-group-lt2-clause-whole
returns-then-group-lt2-clause-whole g c =
    let by = g.N.Normalizing.normalizer c.args.by.now in
    let reach = c.reach_alone.ensures ∙ ap reach_alone c.mode.ensures in λ t.
    lone_stays by c.args.group.now c.if-group-lt2.true (sym (ap (λ r. list_all (λ (h : hb_glyph_info_t). is_whole by r (item_of h)) c.args.group.now) reach) ∙ sym c.are_whole.ensures.value ∙ t)

pub returns-then-not-has_selector-clause-whole : goal.returns-then-not-has_selector-clause-whole
returns-then-not-has_selector-clause-whole g c =
    let by = g.N.Normalizing.normalizer c.args.by.now in
    let few = c.if-group-lt2.false in
    let reach = c.reach_with_marks.ensures ∙ ap reach_with_marks c.mode-then-not-has_selector.ensures in λ t.
    marked_stays by c.args.group.now (omega (arith, few)) (sym c.has_selector.ensures ∙ c.if-not-has_selector.true)
    (sym (ap (λ r. list_all (λ (h : hb_glyph_info_t). is_whole by r (item_of h)) c.args.group.now) reach) ∙ sym c.are_whole-then-not-has_selector.ensures.value ∙ t)
