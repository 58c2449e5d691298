use Rattle.std.proofs.Common.{◌≡◌, ◌≤◌, ◌+◌, ◌-◌, ◌++◌, List, arith, ap, length, subst, sym, ◌∙◌, take, drop}
use Rattle.std.specs.Prelude.{slice_range}
use Rattle.buffer_glyphs.specs.declared.info.hb_glyph_info_t.{hb_glyph_info_t}
use Rattle.buffer_glyphs.specs.Items.{Item, item_of, strip}
use Rattle.buffer_core.specs.Sides.{Sides, all_glyphs, items_of}
use Rattle.buffer_core.specs.Lending.{with_refilled}
use Rattle.buffer_stages.proofs.Lemmas.Arranged.{arranged_order, arranged_rewrites}
use Rattle.buffer_stages.proofs.Lemmas.Happened.{merge_happens}
use Rattle.buffer_stages.specs.Lemmas.Parts.{range_size}
use Rattle.buffer_stages.specs.Lemmas.Rewritings.{counted}
use Rattle.buffer_stages.specs.SyllableBuffers.{IsRewritten}
use Rattle.script_indic_reordering.specs.Final.{lefts_last}
use Rattle.script_indic_reordering.specs.Left.{glyphs_put}
use Rattle.script_indic_reordering.proofs.Lemmas.LeftPut.{order_in, order_size, put_at, put_items}
use Rattle.script_indic_reordering.proofs.left.put_lefts_last.Goals as goal
use Rattle.buffer_glyphs.specs.Lemmas.Origins.{slice_seen as range_seen}

pub returns : goal.returns
returns c =
    let r = c.requires in
    let m = c.merge_clusters.ensures in
    let start = c.args.start in
    let end = c.args.end in
    let n = c.args.count in
    let s = c.args.buffer.now in
    let merged = c.merge_clusters.new.self in
    let gs = c.put_within.new.glyphs in
    let same = c.order_kept-known.ensures.same in
    let done : Sides → Type 0 = λ t. IsRewritten (lefts_last n (slice_range (items_of s) start end)) start end s t in
    let put : List hb_glyph_info_t → List hb_glyph_info_t = λ hs. take start hs ++ glyphs_put n (slice_range hs start end) ++ drop end hs in
    let xs = slice_range (items_of s) start end in
    let range = slice_range (all_glyphs merged) start end in
    let le : start ≤ end = omega (arith, r.ordered) in
    let many : length (all_glyphs merged) ≡ length (all_glyphs s) = sym (counted merged) ∙ ap (λ (ys : List Item). length ys) m.items ∙ counted s in
    let fits : end ≤ length (all_glyphs merged) = omega (arith, many, r.within) in
    let size = range_size start end (all_glyphs merged) le fits in
    let few : n ≤ length range = omega (arith, size, r.ordered) in
    let seen : strip range ≡ xs = range_seen item_of start end (all_glyphs merged) ∙ ap (λ ys. slice_range ys start end) m.items in
    let count : length (order_in n xs) ≡ end - start = order_size n xs range few seen ∙ size in
    subst done (sym c.keep_order.ensures) (subst (λ t. done (with_refilled gs t)) (sym same)
    (arranged_rewrites (order_in n xs) (lefts_last n xs).items start end s merged (glyphs_put n range) gs le r.within (merge_happens start end s merged m.merged m.items m.origins r.ready)
    count (put_at n range xs few seen) (put_items n range ∙ ap (λ ys. (lefts_last n ys).items) seen)
    (c.put_within.ensures ∙ ap put c.info_slice_mut.ensures.value ∙ ap (λ t. put (all_glyphs t)) same)))

pub keep_order-requires : goal.keep_order-requires
keep_order-requires c =
    let r = c.requires in
    let start = c.args.start in
    let end = c.args.end in
    let n = c.args.count in
    let s = c.args.buffer.now in
    let merged = c.merge_clusters.new.self in
    let same = c.order_kept-known.ensures.same in
    let put : List hb_glyph_info_t → List hb_glyph_info_t = λ hs. take start hs ++ glyphs_put n (slice_range hs start end) ++ drop end hs in
    let xs = slice_range (items_of s) start end in
    let range = slice_range (all_glyphs merged) start end in
    let le : start ≤ end = omega (arith, r.ordered) in
    let many : length (all_glyphs merged) ≡ length (all_glyphs s) = sym (counted merged) ∙ ap (λ (ys : List Item). length ys) c.merge_clusters.ensures.items ∙ counted s in
    let fits : end ≤ length (all_glyphs merged) = omega (arith, many, r.within) in
    let size = range_size start end (all_glyphs merged) le fits in
    let few : n ≤ length range = omega (arith, size, r.ordered) in
    let seen : strip range ≡ xs = range_seen item_of start end (all_glyphs merged) ∙ ap (λ ys. slice_range ys start end) c.merge_clusters.ensures.items in
    let count : length (order_in n xs) ≡ end - start = order_size n xs range few seen ∙ size in
    arranged_order c.order_kept-known.result (order_in n xs) start end (glyphs_put n range) c.put_within.new.glyphs merged c.order_kept-known.new.buffer same le fits
    count (put_at n range xs few seen) (c.put_within.ensures ∙ ap put c.info_slice_mut.ensures.value ∙ ap (λ t. put (all_glyphs t)) same) c.order_kept-known.ensures.kept
