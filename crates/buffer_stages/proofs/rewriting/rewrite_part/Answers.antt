use Rattle.std.proofs.Common.{List, ap, subst, sym, ◌∙◌}
use Rattle.std.specs.Prelude.{slice_range}
use Rattle.buffer_glyphs.specs.declared.info.hb_glyph_info_t.{hb_glyph_info_t}
use Rattle.buffer_glyphs.specs.Items.{clusters, item_of, strip}
use Rattle.buffer_lists.specs.Known.{HasOrder}
use Rattle.buffer_core.specs.Sides.{Sides, all_glyphs, items_of}
use Rattle.buffer_core.specs.Lending.{with_refilled}
use Rattle.buffer_stages.specs.Ordering.{ArePartMade}
use Rattle.buffer_glyphs.specs.Rewriting.{eventless_arrangement}
use Rattle.buffer_stages.specs.SyllableBuffers.{IsRewritten}
use Rattle.buffer_stages.specs.Lemmas.Parts.{order_kept, part_clusters, part_written}
use Rattle.buffer_stages.proofs.Lemmas.Made.{made_clusters}
use Rattle.buffer_stages.proofs.rewriting.rewrite_part.Goals as goal
use Rattle.buffer_glyphs.specs.Lemmas.Origins.{slice_seen as range_seen}

pub returns : goal.returns
returns g c =
    let r = c.requires in
    let start = c.args.start in
    let end = c.args.end in
    let s = c.args.buffer.now in
    let gs = c.make_within.new.glyphs in
    let same = c.known_order-known.ensures.same in
    let made = g.R.PartRule.made c.args.rule.now in
    let done : Sides → Type 0 = λ t. IsRewritten (eventless_arrangement (made (slice_range (items_of s) start end))) start end s t in
    let all = c.info_slice_mut.ensures.value ∙ ap all_glyphs same in
    let h : ArePartMade (made (strip (slice_range (all_glyphs s) start end))) start end (all_glyphs s) gs =
    subst (λ (hs : List hb_glyph_info_t). ArePartMade (made (strip (slice_range hs start end))) start end hs gs) all c.make_within.ensures in
    subst done (sym c.keep_order.ensures) (subst (λ t. done (with_refilled gs t)) (sym same)
    (part_written start end (made (slice_range (items_of s) start end)) h.part gs s r.ready r.ordered r.within h.shape (h.made.items ∙ ap made (range_seen item_of start end (all_glyphs s))) h.made.origins))

pub keep_order-requires : goal.keep_order-requires
keep_order-requires g c =
    let start = c.args.start in
    let end = c.args.end in
    let t = c.known_order-known.new.self in
    let gs = c.make_within.new.glyphs in
    let made = g.R.PartRule.made c.args.rule.now in
    let h : ArePartMade (made (strip (slice_range (all_glyphs t) start end))) start end (all_glyphs t) gs =
    subst (λ (hs : List hb_glyph_info_t). ArePartMade (made (strip (slice_range hs start end))) start end hs gs) c.info_slice_mut.ensures.value c.make_within.ensures in
    let known : HasOrder c.known_order-known.result (clusters (all_glyphs t)) =
    subst (λ (u : Sides). HasOrder c.known_order-known.result (clusters (all_glyphs u))) (sym c.known_order-known.ensures.same) c.known_order-known.ensures.order in
    order_kept c.known_order-known.result gs t (part_clusters start end h.part gs (all_glyphs t) c.requires.ordered h.shape (made_clusters (slice_range (all_glyphs t) start end) h.part h.made.origins)) known
