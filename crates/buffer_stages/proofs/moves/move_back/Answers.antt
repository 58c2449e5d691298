use Rattle.std.proofs.Common.{◌≡◌, ◌+◌, ◌-◌, [], ◌∷◌, List, length, take, drop, arith, ap, sym, subst, ◌∙◌}
use Rattle.std.proofs.lemmas.List.{length-map}
use Rattle.buffer_glyphs.specs.declared.info.hb_glyph_info_t.{hb_glyph_info_t}
use Rattle.buffer_glyphs.specs.Items.{Item, clusters, item_of}
use Rattle.buffer_glyphs.specs.Levels.{InList}
use Rattle.buffer_glyphs.specs.Events.{Merge}
use Rattle.buffer_core.specs.Readings.{always}
use Rattle.buffer_lists.specs.Known.{HasOrder}
use Rattle.buffer_core.specs.Sides.{all_glyphs}
use Rattle.buffer_stages.specs.Stages.{Happens, IsFollowed}
use Rattle.buffer_stages.proofs.Lemmas.Happened.{merge_happens}
use Rattle.buffer_stages.specs.Lemmas.Written.{written_all}
use Rattle.buffer_stages.specs.Moves.{are_one_cluster, with_range_moved, with_move}
use Rattle.buffer_stages.specs.Lemmas.Moves.{moved_length}
use Rattle.buffer_stages.specs.Lemmas.Ordered.{clusters_moved}
use Rattle.buffer_stages.proofs.Moved.{move_followed}
use Rattle.buffer_stages.proofs.moves.move_back.Goals as goal

pub returns : goal.returns
returns c =
    let r = c.requires in
    let m = c.merge_clusters.ensures in
    let happens : Happens (Merge InList c.args.start c.args.end ∷ []) c.args.buffer.now c.order_kept-known.new.buffer =
    subst (Happens (Merge InList c.args.start c.args.end ∷ []) c.args.buffer.now) (sym c.order_kept-known.ensures.same)
    (merge_happens c.args.start c.args.end c.args.buffer.now c.merge_clusters.new.self m.merged m.items m.origins r.ready) in
    subst (IsFollowed (always (with_move c.args.start (c.args.middle - c.args.start) (c.args.end - c.args.middle))) c.args.buffer.now) (sym c.keep_order.ensures)
    (move_followed c.args.start (c.args.middle - c.args.start) (c.args.end - c.args.middle) c.args.end c.args.buffer.now c.order_kept-known.new.buffer c.rotate.new.glyphs (omega (arith, r.begins, r.ordered)) r.within
    happens
    (c.rotate.ensures ∙ ap (with_range_moved c.args.start (c.args.middle - c.args.start) (c.args.end - c.args.middle)) c.info_slice_mut.ensures.value))

pub keep_order-requires : goal.keep_order-requires
keep_order-requires c =
    let r = c.requires in
    let start = c.args.start in
    let n = c.args.middle - start in
    let k = c.args.end - c.args.middle in
    let at : start + (n + k) ≡ c.args.end = omega (arith, r.begins, r.ordered) in
    let wide : n + k ≡ c.args.end - start = omega (arith, at) in
    let merged = c.merge_clusters.new.self in
    let t = c.order_kept-known.new.buffer in
    let gs = c.rotate.new.glyphs in
    let many : length (all_glyphs merged) ≡ length (all_glyphs c.args.buffer.now) =
    sym (length-map (all_glyphs merged) item_of) ∙ ap (λ (xs : List Item). length xs) c.merge_clusters.ensures.items ∙ length-map (all_glyphs c.args.buffer.now) item_of in
    let same : all_glyphs t ≡ all_glyphs merged = ap all_glyphs c.order_kept-known.ensures.same in
    let e : gs ≡ with_range_moved start n k (all_glyphs t) = c.rotate.ensures ∙ ap (with_range_moved start n k) c.info_slice_mut.ensures.value in
    let count : length (all_glyphs t) ≡ length (all_glyphs merged) = ap (λ (hs : List hb_glyph_info_t). length hs) same in
    let long : length gs ≡ length (all_glyphs t) = ap (λ (hs : List hb_glyph_info_t). length hs) e ∙ moved_length start n k (all_glyphs t) (omega (arith, at, r.within, many, count)) in
    subst (HasOrder c.order_kept-known.result) (sym (ap clusters (written_all gs t long) ∙ ap clusters e ∙ ap (λ hs. clusters (with_range_moved start n k hs)) same)) (c.order_kept-known.ensures.kept (with_range_moved start n k (all_glyphs merged))
    (λ one. clusters_moved start n k (all_glyphs merged) (ap (λ m. are_one_cluster (take m (drop start (all_glyphs merged)))) wide ∙ one)))
