use Rattle.std.proofs.Common.{List, [], ap, subst, sym, ◌∙◌}
use Rattle.buffer_glyphs.specs.Items.{Item, clusters}
use Rattle.buffer_lists.specs.Known.{HasOrder}
use Rattle.buffer_core.specs.Sides.{Sides, all_glyphs, items_of}
use Rattle.buffer_core.specs.Lending.{with_refilled}
use Rattle.buffer_glyphs.specs.Origins.{origins}
use Rattle.buffer_stages.proofs.Lemmas.Made.{made_clusters}
use Rattle.buffer_stages.specs.Lemmas.Parts.{order_kept}
use Rattle.script_joining.specs.Walked.{TurnsTo, with_form_at, glyphs_with_form_at}
use Rattle.script_joining.proofs.Walked.{form_turns, formed_origins_at}
use Rattle.script_joining.proofs.walking.set_form.Goals as goal

pub keep_order-requires : goal.keep_order-requires
keep_order-requires c =
    let t = c.known_order-known.new.self in
    let gs = c.form_at.new.glyphs in
    let known : HasOrder c.known_order-known.result (clusters (all_glyphs t)) =
    subst (λ (u : Sides). HasOrder c.known_order-known.result (clusters (all_glyphs u))) (sym c.known_order-known.ensures.same) c.known_order-known.ensures.order in
    order_kept c.known_order-known.result gs t (made_clusters (all_glyphs t) gs (ap origins c.form_at.ensures ∙ formed_origins_at c.args.masks.now c.args.form c.args.at _ c.requires.flagless ∙ ap origins c.info_slice_mut.ensures.value)) known

pub returns : goal.returns
returns c =
    let s = c.args.buffer.now in
    let gs = c.form_at.new.glyphs in
    let same = c.known_order-known.ensures.same in
    let xs : List Item = with_form_at c.args.masks.now c.args.form c.args.at (items_of s) in
    subst (TurnsTo xs [] s) (sym c.keep_order.ensures) (subst (λ (t : Sides). TurnsTo xs [] s (with_refilled gs t)) (sym same)
    (form_turns c.args.masks.now c.args.form c.args.at gs s c.requires.flagless (c.form_at.ensures ∙ ap (glyphs_with_form_at c.args.masks.now c.args.form c.args.at) (c.info_slice_mut.ensures.value ∙ ap all_glyphs same)) c.requires.ready))
