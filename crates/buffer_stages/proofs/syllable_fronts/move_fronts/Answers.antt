use Rattle.std.proofs.Common.{◌≡◌, ◌≤◌, ◌+◌, ◌-◌, ◌++◌, List, arith, ap, length, subst, sym, ◌∙◌, take, drop}
use Rattle.std.specs.Prelude.{slice_range}
use Rattle.std.proofs.lemmas.List.{length-map}
use Rattle.buffer_glyphs.specs.declared.info.hb_glyph_info_t.{hb_glyph_info_t}
use Rattle.buffer_glyphs.specs.Items.{Item, item_of}
use Rattle.buffer_core.specs.Sides.{Sides, all_glyphs, items_of}
use Rattle.buffer_core.specs.Lending.{with_refilled}
use Rattle.buffer_stages.proofs.Lemmas.Happened.{merge_happens}
use Rattle.buffer_stages.specs.Fronts.{with_fronts_moved_after, one_seen, pair_seen}
use Rattle.buffer_stages.specs.SyllableBuffers.{IsRewritten}
use Rattle.buffer_stages.specs.Parts.{fronts_moved}
use Rattle.buffer_stages.proofs.Lemmas.Fronts.{fronts_clusters, fronts_length, fronts_rewrite}
use Rattle.buffer_stages.specs.Lemmas.Parts.{order_put}
use Rattle.buffer_stages.proofs.syllable_fronts.move_fronts.Goals as goal

pub returns : goal.returns
returns g c =
    let r = c.requires in
    let m = c.merge_clusters.ensures in
    let start = c.args.start in
    let end = c.args.end in
    let walked = c.args.walked in
    let s = c.args.buffer.now in
    let merged = c.merge_clusters.new.self in
    let gs = c.gather_after.new.glyphs in
    let pair = g.R.FrontRule.pairs c.args.rule.now in
    let one = g.R.FrontRule.ones c.args.rule.now in
    let n : start + walked - start ≡ walked = omega arith in
    let same = c.order_kept-known.ensures.same in
    let done : Sides → Type 0 = λ t. IsRewritten (fronts_moved pair one walked (slice_range (items_of s) start end)) start end s t in
    let gathered : List hb_glyph_info_t → List hb_glyph_info_t = λ hs. take start hs ++ with_fronts_moved_after (pair_seen pair) (one_seen one) (start + walked - start) (slice_range hs start end) ++ drop end hs in
    let hs = all_glyphs merged in
    subst done (sym c.keep_order.ensures) (subst (λ t. done (with_refilled gs t)) (sym same)
    (fronts_rewrite pair one start end walked c.args.merged s merged gs r.ordered r.within r.last r.fits
    (merge_happens start (start + c.args.merged) s merged m.merged m.items m.origins r.ready)
    (c.gather_after.ensures ∙ ap gathered c.info_slice_mut.ensures.value ∙ ap (λ t. gathered (all_glyphs t)) same
    ∙ ap (λ k. take start hs ++ with_fronts_moved_after (pair_seen pair) (one_seen one) k (slice_range hs start end) ++ drop end hs) n)))

pub keep_order-requires : goal.keep_order-requires
keep_order-requires g c =
    let r = c.requires in
    let start = c.args.start in
    let end = c.args.end in
    let walked = c.args.walked in
    let s = c.args.buffer.now in
    let merged = c.merge_clusters.new.self in
    let gs = c.gather_after.new.glyphs in
    let pair = g.R.FrontRule.pairs c.args.rule.now in
    let one = g.R.FrontRule.ones c.args.rule.now in
    let n : start + walked - start ≡ walked = omega arith in
    let same = c.order_kept-known.ensures.same in
    let gathered : List hb_glyph_info_t → List hb_glyph_info_t = λ hs. take start hs ++ with_fronts_moved_after (pair_seen pair) (one_seen one) (start + walked - start) (slice_range hs start end) ++ drop end hs in
    let hs = all_glyphs merged in
    let items : items_of merged ≡ items_of s = c.merge_clusters.ensures.items in
    let many : length hs ≡ length (all_glyphs s) = sym (length-map hs item_of) ∙ ap (λ (xs : List Item). length xs) items ∙ length-map (all_glyphs s) item_of in
    let e = c.gather_after.ensures ∙ ap gathered c.info_slice_mut.ensures.value ∙ ap (λ u. gathered (all_glyphs u)) same
    ∙ ap (λ k. take start hs ++ with_fronts_moved_after (pair_seen pair) (one_seen one) k (slice_range hs start end) ++ drop end hs) n in
    let there : end ≤ length hs = omega (arith, many, r.within) in
    order_put c.order_kept-known.result gs merged c.order_kept-known.new.buffer same (fronts_length pair one start end walked merged gs r.ordered there e)
    (c.order_kept-known.ensures.kept gs (fronts_clusters pair one start end walked c.args.merged s merged gs r.ordered there items r.last e))
