use Rattle.std.proofs.Common.{ap, subst, sym, ◌∙◌}
use Rattle.buffer_glyphs.specs.Items.{clusters}
use Rattle.buffer_glyphs.specs.Origins.{origins}
use Rattle.buffer_lists.specs.Known.{HasOrder}
use Rattle.buffer_core.specs.Sides.{Sides, all_glyphs}
use Rattle.buffer_core.specs.Lending.{with_refilled}
use Rattle.buffer_stages.proofs.Lemmas.Made.{made_clusters}
use Rattle.buffer_stages.specs.Lemmas.Parts.{order_kept}
use Rattle.shape_normalize.specs.Fronts.{TakesFront, TakesGlyphs}
use Rattle.shape_normalize.proofs.Taken.{front_taken}
use Rattle.shape_normalize.proofs.fronts.take_front.Goals as goal

pub keep_order-requires : goal.keep_order-requires
keep_order-requires g c =
    let t = c.known_order-known.new.self in
    let gs = c.take_by_rows-count.new.glyphs in
    let known : HasOrder c.known_order-known.result (clusters (all_glyphs t)) =
    subst (λ (u : Sides). HasOrder c.known_order-known.result (clusters (all_glyphs u))) (sym c.known_order-known.ensures.same) c.known_order-known.ensures.order in
    order_kept c.known_order-known.result gs t (made_clusters (all_glyphs t) gs (c.take_by_rows-count.ensures.origins ∙ ap origins c.info_slice_mut.ensures.value)) known

pub returns : goal.returns
returns g c =
    let s = c.args.buffer.now in
    let n = c.take_by_rows-count.result in
    let gs = c.take_by_rows-count.new.glyphs in
    let same = c.known_order-known.ensures.same in
    let by = g.N.Normalizing.normalizer c.args.by.now in
    subst (TakesFront by n s) (sym c.keep_order.ensures) (subst (λ t. TakesFront by n s (with_refilled gs t)) (sym same)
    (front_taken by n gs s c.requires (subst (λ hs. TakesGlyphs by n hs gs) (c.info_slice_mut.ensures.value ∙ ap all_glyphs same) c.take_by_rows-count.ensures)))
