use Rattle.std.proofs.Common.{◌++◌, List, ap, subst, sym, ◌∙◌, map, take, drop}
use Rattle.std.specs.Prelude.{slice_range}
use Rattle.buffer_glyphs.specs.declared.info.hb_glyph_info_t.{hb_glyph_info_t}
use Rattle.buffer_glyphs.specs.Items.{clusters}
use Rattle.buffer_lists.specs.Known.{HasOrder}
use Rattle.buffer_core.specs.Sides.{Sides, all_glyphs, items_of}
use Rattle.buffer_core.specs.Lending.{with_refilled}
use Rattle.buffer_stages.specs.SyllableBuffers.{IsRewritten}
use Rattle.buffer_stages.specs.Lemmas.Parts.{order_kept}
use Rattle.script_myanmar.specs.Myanmar.{items_with_positions, myanmar_positions}
use Rattle.script_myanmar.specs.Turned.{glyphs_at}
use Rattle.script_myanmar.proofs.MyanmarSteps.{placed_clusters, syllable_placed}
use Rattle.script_myanmar.proofs.myanmar.position_syllable.Goals as goal

pub returns : goal.returns
returns c =
    let r = c.requires in
    let start = c.args.start in
    let end = c.args.end in
    let s = c.args.buffer.now in
    let gs = c.set_positions_within.new.glyphs in
    let same = c.known_order-known.ensures.same in
    let done : Sides → Type 0 = λ t. IsRewritten (items_with_positions (slice_range (items_of s) start end)) start end s t in
    let placed : List hb_glyph_info_t → List hb_glyph_info_t =
    λ hs. take start hs ++ glyphs_at (myanmar_positions (map (λ (g : hb_glyph_info_t). g.category) (slice_range hs start end))) (slice_range hs start end) ++ drop end hs in
    subst done (sym c.keep_order.ensures) (subst (λ t. done (with_refilled gs t)) (sym same)
    (syllable_placed start end gs s r.ready r.ordered r.within (c.set_positions_within.ensures ∙ ap placed c.info_slice_mut.ensures.value ∙ ap (λ t. placed (all_glyphs t)) same)))

pub keep_order-requires : goal.keep_order-requires
keep_order-requires c =
    let start = c.args.start in
    let end = c.args.end in
    let t = c.known_order-known.new.self in
    let gs = c.set_positions_within.new.glyphs in
    let e = c.set_positions_within.ensures ∙ ap (λ hs. take start hs ++ glyphs_at (myanmar_positions (map (λ (g : hb_glyph_info_t). g.category) (slice_range hs start end))) (slice_range hs start end) ++ drop end hs) c.info_slice_mut.ensures.value in
    let known : HasOrder c.known_order-known.result (clusters (all_glyphs t)) =
    subst (λ (u : Sides). HasOrder c.known_order-known.result (clusters (all_glyphs u))) (sym c.known_order-known.ensures.same) c.known_order-known.ensures.order in
    order_kept c.known_order-known.result gs t (placed_clusters start end gs (all_glyphs t) c.requires.ordered e) known
