use Rattle.std.proofs.Common.{ap, subst, sym, ◌∙◌}
use Rattle.buffer_glyphs.specs.Items.{clusters}
use Rattle.buffer_glyphs.specs.Origins.{origins}
use Rattle.buffer_lists.specs.Known.{HasOrder}
use Rattle.buffer_core.specs.Sides.{Sides, all_glyphs}
use Rattle.buffer_stages.proofs.Lemmas.Made.{made_clusters}
use Rattle.buffer_stages.specs.Lemmas.Parts.{order_kept}
use Rattle.shape_pipeline.proofs.KnownGlyphs.{all_known}
use Rattle.shape_pipeline.proofs.classed_glyphs.class_by_rows.Goals as goal

pub class_each-requires : goal.class_each-requires
class_each-requires c = all_known c.args.face.now 128 c.known_glyph-rows.result c.known_glyph-rows.ensures.known

pub keep_order-requires : goal.keep_order-requires
keep_order-requires c =
    let t = c.known_order-known.new.self in
    let gs = c.class_each.new.glyphs in
    let known : HasOrder c.known_order-known.result (clusters (all_glyphs t)) =
    subst (λ (u : Sides). HasOrder c.known_order-known.result (clusters (all_glyphs u))) (sym c.known_order-known.ensures.same) c.known_order-known.ensures.order in
    order_kept c.known_order-known.result gs t (made_clusters (all_glyphs t) gs (c.class_each.ensures.origins ∙ ap origins c.info_slice_mut.ensures.value)) known
