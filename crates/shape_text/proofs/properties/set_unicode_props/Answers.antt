use Rattle.std.proofs.Common.{None, ap, subst, sym, ◌∙◌}
use Rattle.buffer_glyphs.specs.Items.{clusters}
use Rattle.buffer_lists.specs.Known.{HasOrder}
use Rattle.buffer_core.specs.Sides.{Sides, all_glyphs, with_scratch_flags}
use Rattle.buffer_core.specs.Lending.{with_refilled}
use Rattle.buffer_core.specs.Readings.{always}
use Rattle.buffer_stages.specs.Stages.{IsFollowed}
use Rattle.buffer_stages.specs.Lemmas.Parts.{order_kept}
use Rattle.shape_text.specs.Properties.{glyphs_prepared, scratch_flags_of_glyphs, with_properties}
use Rattle.shape_text.proofs.Prepared.{prepared_clusters, prepared_followed}
use Rattle.shape_text.proofs.properties.set_unicode_props.Goals as goal

pub returns : goal.returns
returns c =
    let s = c.args.buffer.now in
    let t = c.args.tables.now in
    let same = c.known_order-known.ensures.same in
    let gs = c.prepare_text.new.glyphs in
    let flags = c.prepare_text.new.scratch_flags in
    let lent = c.info_slice_mut.ensures.value ∙ ap all_glyphs same in
    let done : Sides → Type 0 = λ u. IsFollowed (always (with_properties t)) s (with_scratch_flags flags u) in
    rw c.set_scratch_flags.ensures (subst done (sym c.keep_order.ensures) (subst (λ u. done (with_refilled gs u)) (sym same)
    (prepared_followed t gs flags s
    (c.prepare_text.ensures.glyphs ∙ ap (glyphs_prepared t None) lent)
    (c.prepare_text.ensures.scratch_flags ∙ ap (λ f. scratch_flags_of_glyphs c.info_slice_mut.result.now f) c.scratch_flags-scratch_flags.ensures ∙ ap (λ hs. scratch_flags_of_glyphs hs s.scratch_flags) lent)
    c.requires.characters.ready)))

pub keep_order-requires : goal.keep_order-requires
keep_order-requires c =
    let t = c.known_order-known.new.self in
    let known : HasOrder c.known_order-known.result (clusters (all_glyphs t)) =
    subst (λ (u : Sides). HasOrder c.known_order-known.result (clusters (all_glyphs u))) (sym c.known_order-known.ensures.same) c.known_order-known.ensures.order in
    let same_clusters = ap clusters c.prepare_text.ensures.glyphs ∙ prepared_clusters c.args.tables.now None c.info_slice_mut.result.now ∙ ap clusters c.info_slice_mut.ensures.value in
    order_kept c.known_order-known.result c.prepare_text.new.glyphs t same_clusters known
