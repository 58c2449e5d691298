use Rattle.std.proofs.Common.{◌++◌, List, true, ap, subst, sym, ◌∙◌, take, drop}
use Rattle.std.specs.Prelude.{slice_range}
use Rattle.buffer_glyphs.specs.declared.info.hb_glyph_info_t.{hb_glyph_info_t}
use Rattle.buffer_glyphs.specs.Items.{clusters}
use Rattle.buffer_lists.specs.Known.{HasOrder}
use Rattle.buffer_core.specs.Sides.{Sides, all_glyphs, items_of}
use Rattle.buffer_core.specs.Lending.{with_refilled}
use Rattle.buffer_glyphs.specs.Rewriting.{eventless_arrangement}
use Rattle.buffer_stages.specs.Parts.{item_with_features}
use Rattle.buffer_stages.specs.SyllableBuffers.{IsRewritten}
use Rattle.buffer_stages.specs.Lemmas.Parts.{order_kept}
use Rattle.script_khmer.specs.Runs.{forms_masked, together}
use Rattle.script_khmer.proofs.KhmerScan.{formed_clusters, formed_rewrites, glyphs_formed}
use Rattle.script_khmer.proofs.runs.mask_run.Goals as goal

pub returns : goal.returns
returns c =
    let r = c.requires in
    let start = c.args.start in
    let end = c.args.end in
    let bits = c.args.mask in
    let s = c.args.buffer.now in
    let gs = c.mask_part.new.glyphs in
    let same = c.known_order-known.ensures.same in
    let done : Sides → Type 0 = λ t. IsRewritten (eventless_arrangement (forms_masked (together true) (item_with_features bits) (slice_range (items_of s) start end))) start end s t in
    let formed : List hb_glyph_info_t → List hb_glyph_info_t = λ hs. take start hs ++ glyphs_formed bits (slice_range hs start end) ++ drop end hs in
    subst done (sym c.keep_order.ensures) (subst (λ t. done (with_refilled gs t)) (sym same)
    (formed_rewrites start end bits gs s r.ready r.ordered r.within (c.mask_part.ensures ∙ ap formed c.info_slice_mut.ensures.value ∙ ap (λ t. formed (all_glyphs t)) same)))

pub keep_order-requires : goal.keep_order-requires
keep_order-requires c =
    let start = c.args.start in
    let end = c.args.end in
    let bits = c.args.mask in
    let t = c.known_order-known.new.self in
    let gs = c.mask_part.new.glyphs in
    let e = c.mask_part.ensures ∙ ap (λ hs. take start hs ++ glyphs_formed bits (slice_range hs start end) ++ drop end hs) c.info_slice_mut.ensures.value in
    let known : HasOrder c.known_order-known.result (clusters (all_glyphs t)) =
    subst (λ (u : Sides). HasOrder c.known_order-known.result (clusters (all_glyphs u))) (sym c.known_order-known.ensures.same) c.known_order-known.ensures.order in
    order_kept c.known_order-known.result gs t (formed_clusters start end bits gs (all_glyphs t) c.requires.ordered e) known
