use Rattle.std.proofs.Common.{◌≡◌, ◌≤◌, ◌-◌, ◌++◌, List, arith, ap, length, subst, sym, ◌∙◌, take, drop}
use Rattle.std.specs.Prelude.{slice_range}
use Rattle.buffer_glyphs.specs.declared.info.hb_glyph_info_t.{hb_glyph_info_t}
use Rattle.buffer_glyphs.specs.Items.{Item}
use Rattle.buffer_core.specs.Sides.{Sides, all_glyphs, items_of}
use Rattle.buffer_core.specs.Lending.{with_refilled}
use Rattle.buffer_stages.proofs.Lemmas.Arranged.{arranged_order, arranged_rewrites}
use Rattle.buffer_stages.proofs.Lemmas.Happened.{merge_happens}
use Rattle.buffer_stages.specs.Lemmas.Parts.{range_size}
use Rattle.buffer_stages.specs.Lemmas.Rewritings.{counted}
use Rattle.buffer_stages.specs.Ordering.{groups_reversed}
use Rattle.buffer_stages.specs.SyllableBuffers.{IsRewritten}
use Rattle.buffer_stages.proofs.Reversed.{order_in, order_size, part_of, reversed_at, reversed_items, reversed_of}
use Rattle.buffer_stages.proofs.groups.reverse_groups.Goals as goal

pub returns : goal.returns
returns g c =
    let r = c.requires in
    let m = c.merge_clusters.ensures in
    let start = c.args.start in
    let end = c.args.end in
    let s = c.args.buffer.now in
    let merged = c.merge_clusters.new.self in
    let gs = c.turn_within.new.glyphs in
    let begins = g.R.GroupRule.begins c.args.rule.now in
    let same = c.order_kept-known.ensures.same in
    let done : Sides → Type 0 = λ t. IsRewritten (groups_reversed begins (slice_range (items_of s) start end)) start end s t in
    let turned : List hb_glyph_info_t → List hb_glyph_info_t = λ hs. take start hs ++ reversed_of begins (slice_range hs start end) ++ drop end hs in
    let xs = slice_range (items_of s) start end in
    let range = slice_range (all_glyphs merged) start end in
    let many : length (all_glyphs merged) ≡ length (all_glyphs s) = sym (counted merged) ∙ ap (λ (ys : List Item). length ys) m.items ∙ counted s in
    let fits : end ≤ length (all_glyphs merged) = omega (arith, many, r.within) in
    let part = part_of start end s merged m.items r.ordered fits in
    let count : length (order_in begins xs) ≡ end - start = order_size begins xs ∙ sym part.1 ∙ range_size start end (all_glyphs merged) r.ordered fits in
    subst done (sym c.keep_order.ensures) (subst (λ t. done (with_refilled gs t)) (sym same)
    (arranged_rewrites (order_in begins xs) (groups_reversed begins xs).items start end s merged (reversed_of begins range) gs r.ordered r.within (merge_happens start end s merged m.merged m.items m.origins r.ready)
    count (reversed_at begins range xs part.0 part.1) (reversed_items begins range ∙ ap (λ ys. (groups_reversed begins ys).items) part.0)
    (c.turn_within.ensures ∙ ap turned c.info_slice_mut.ensures.value ∙ ap (λ t. turned (all_glyphs t)) same)))

pub keep_order-requires : goal.keep_order-requires
keep_order-requires g c =
    let r = c.requires in
    let start = c.args.start in
    let end = c.args.end in
    let s = c.args.buffer.now in
    let merged = c.merge_clusters.new.self in
    let same = c.order_kept-known.ensures.same in
    let begins = g.R.GroupRule.begins c.args.rule.now in
    let xs = slice_range (items_of s) start end in
    let range = slice_range (all_glyphs merged) start end in
    let turned : List hb_glyph_info_t → List hb_glyph_info_t = λ hs. take start hs ++ reversed_of begins (slice_range hs start end) ++ drop end hs in
    let many : length (all_glyphs merged) ≡ length (all_glyphs s) = sym (counted merged) ∙ ap (λ (ys : List Item). length ys) c.merge_clusters.ensures.items ∙ counted s in
    let fits : end ≤ length (all_glyphs merged) = omega (arith, many, r.within) in
    let part = part_of start end s merged c.merge_clusters.ensures.items r.ordered fits in
    let count : length (order_in begins xs) ≡ end - start = order_size begins xs ∙ sym part.1 ∙ range_size start end (all_glyphs merged) r.ordered fits in
    arranged_order c.order_kept-known.result (order_in begins xs) start end (reversed_of begins range) c.turn_within.new.glyphs merged c.order_kept-known.new.buffer same r.ordered fits
    count (reversed_at begins range xs part.0 part.1)
    (c.turn_within.ensures ∙ ap turned c.info_slice_mut.ensures.value ∙ ap (λ t. turned (all_glyphs t)) same) c.order_kept-known.ensures.kept
