use Rattle.std.proofs.Common.{ap, subst, sym, ◌∙◌}
use Rattle.buffer_glyphs.specs.Items.{clusters}
use Rattle.buffer_glyphs.specs.Origins.{origins}
use Rattle.buffer_lists.specs.Known.{HasOrder}
use Rattle.buffer_core.specs.Sides.{Sides, all_glyphs}
use Rattle.buffer_stages.proofs.Lemmas.Made.{made_clusters}
use Rattle.buffer_stages.specs.Lemmas.Parts.{order_kept}
use Rattle.shape_text.proofs.rotation.mirror_text.Goals as goal

pub keep_order-requires : goal.keep_order-requires
keep_order-requires c =
    let t = c.known_order-known.new.self in
    let gs = c.mirror_each.new.glyphs in
    let known : HasOrder c.known_order-known.result (clusters (all_glyphs t)) =
    subst (λ (u : Sides). HasOrder c.known_order-known.result (clusters (all_glyphs u))) (sym c.known_order-known.ensures.same) c.known_order-known.ensures.order in
    order_kept c.known_order-known.result gs t (made_clusters (all_glyphs t) gs (c.mirror_each.ensures.origins ∙ ap origins c.info_slice_mut.ensures.value)) known
