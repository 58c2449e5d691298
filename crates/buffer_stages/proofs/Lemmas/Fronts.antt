-- A part of a buffer whose glyphs were moved to the front.
use Rattle.std.proofs.Common.{ℕ, ◌≡◌, ◌≤◌, ◌+◌, ◌-◌, Bool, true, List, [], ◌∷◌, ◌++◌, length, map, take, drop, refl, sym, ap, ◌∙◌, arith, append_assoc}
use Rattle.std.specs.Prelude.{slice_range}
use Rattle.std.proofs.lemmas.List.{map-append, length-map, length-append, length-take-le, length-drop, take-append-drop, take-map, drop-map}
use Rattle.buffer_glyphs.specs.declared.info.hb_glyph_info_t.{hb_glyph_info_t}
use Rattle.buffer_glyphs.specs.Items.{Item, clusters, item_of, strip}
use Rattle.buffer_glyphs.specs.Levels.{InList, manner}
use Rattle.buffer_glyphs.specs.Events.{Merge}
use Rattle.buffer_glyphs.specs.Origins.{origins_merged_as, origin_of, origins}
use Rattle.buffer_core.specs.Readings.{View}
use Rattle.buffer_core.specs.Sides.{Sides, all_glyphs, flag_requests_of, items_of, origins_by, origins_of, view_of}
use Rattle.buffer_core.specs.Lending.{with_refilled}
use Rattle.buffer_stages.specs.Stages.{Happens}
use Rattle.buffer_stages.specs.Lemmas.Written.{written_all, written_ready}
use Rattle.buffer_stages.specs.Moves.{MoveToFront, all_moved, are_one_cluster, move_events, reach}
use Rattle.buffer_stages.specs.Fronts.{moves_to_front, with_fronts_moved_after, one_seen, pair_seen}
use Rattle.buffer_stages.specs.Lemmas.Nested.{all_moved_seen, moves_merge_once}
use Rattle.buffer_stages.specs.Lemmas.Fronted.{all_moved_fronts, gathered_after_length, gathered_after_seen, moves_grow, moves_seen}
use Rattle.buffer_stages.specs.Lemmas.Ordered.{clusters_all_moved}
use Rattle.buffer_glyphs.specs.Rewriting.{shifted_event}
use Rattle.buffer_stages.specs.SyllableBuffers.{IsRewritten}
use Rattle.buffer_stages.specs.Parts.{fronts_moved}
use Rattle.buffer_stages.specs.Lemmas.Parts.{range_size, between, part_seen}
use Rattle.buffer_glyphs.specs.Lemmas.Origins.{slice_seen as range_seen}
use Rattle.buffer_glyphs.specs.Lemmas.Glyphs.{cut_out as whole_cut}

-- moves told by indices that are counted from further back
pub shift_moves : (n i : ℕ) (ms : List MoveToFront) → map (shifted_event n) (move_events i ms) ≡ move_events (n + i) ms
shift_moves n i [] = refl
shift_moves n i (m ∷ ms) = rw (shift_moves n i ms) refl

-- a part, of which some were moved to the front: its moves
pub part_moves : {X : Type 0} (pair : X → X → Bool) (one : X → Bool) (start end n : ℕ) (xs : List X) → start + n ≤ end → end ≤ length xs
    → take start xs ++ with_fronts_moved_after pair one n (slice_range xs start end) ++ drop end xs ≡ all_moved start (moves_to_front pair one n (drop n (slice_range xs start end))) xs
part_moves {X = X} pair one start end n xs le fits =
    let part = slice_range xs start end in
    let pre = take start xs in
    let front = take n part in
    let zs = drop n part in
    let post = drop end xs in
    let size = range_size start end xs (omega (arith, le)) fits in
    let a : length pre ≡ start = length-take-le start xs (omega (arith, le, fits)) in
    let b : length front ≡ n = length-take-le n part (omega (arith, size, le)) in
    let whole : pre ++ (front ++ (zs ++ post)) ≡ xs =
    ap (λ ys. pre ++ ys) (sym (append_assoc front zs post) ∙ ap (λ ys. ys ++ post) (take-append-drop n part)) ∙ sym (append_assoc pre part post) ∙ whole_cut start end xs (omega (arith, le)) in
    append_assoc pre (with_fronts_moved_after pair one n part) post ∙ sym (all_moved_fronts pair one pre front zs post)
    ∙ ap (λ i. all_moved i (moves_to_front pair one (length front) zs) (pre ++ (front ++ (zs ++ post)))) a
    ∙ ap (λ i. all_moved start (moves_to_front pair one i zs) (pre ++ (front ++ (zs ++ post)))) b
    ∙ ap (all_moved start (moves_to_front pair one n zs)) whole

-- glyphs of which some were moved to the front: by the moves of the items
fronts_shape : (pair : Item → Item → Bool) (one : Item → Bool) (start end walked : ℕ) (a merged : Sides) (gs : List hb_glyph_info_t) → start + walked ≤ end → end ≤ length (all_glyphs merged)
    → items_of merged ≡ items_of a
    → gs ≡ take start (all_glyphs merged) ++ with_fronts_moved_after (pair_seen pair) (one_seen one) walked (slice_range (all_glyphs merged) start end) ++ drop end (all_glyphs merged)
    → gs ≡ all_moved start (moves_to_front pair one walked (drop walked (slice_range (items_of a) start end))) (all_glyphs merged)
fronts_shape pair one start end walked a merged gs le fits same e =
    let hs = all_glyphs merged in
    let part = slice_range (items_of a) start end in
    let seen : strip (slice_range hs start end) ≡ part = range_seen item_of start end hs ∙ ap (λ xs. slice_range xs start end) same in
    let moves : moves_to_front (pair_seen pair) (one_seen one) walked (drop walked (slice_range hs start end)) ≡ moves_to_front pair one walked (drop walked part) =
    moves_seen item_of pair one walked (drop walked (slice_range hs start end)) ∙ ap (moves_to_front pair one walked) (sym (drop-map item_of walked (slice_range hs start end)) ∙ ap (drop walked) seen) in
    e ∙ part_moves (pair_seen pair) (one_seen one) start end walked hs le fits ∙ ap (λ ns. all_moved start ns hs) moves

pub fronts_length : (pair : Item → Item → Bool) (one : Item → Bool) (start end walked : ℕ) (merged : Sides) (gs : List hb_glyph_info_t) → start + walked ≤ end → end ≤ length (all_glyphs merged)
    → gs ≡ take start (all_glyphs merged) ++ with_fronts_moved_after (pair_seen pair) (one_seen one) walked (slice_range (all_glyphs merged) start end) ++ drop end (all_glyphs merged)
    → length gs ≡ length (all_glyphs merged)
fronts_length pair one start end walked merged gs le fits e =
    let hs = all_glyphs merged in
    let size = range_size start end hs (omega (arith, le)) fits in
    ap length e ∙ between start end hs (with_fronts_moved_after (pair_seen pair) (one_seen one) walked (slice_range hs start end)) (omega (arith, le)) fits (gathered_after_length (pair_seen pair) (one_seen one) walked (slice_range hs start end) ∙ size)

-- their clusters, where those that moved are of one
pub fronts_clusters : (pair : Item → Item → Bool) (one : Item → Bool) (start end walked count : ℕ) (a merged : Sides) (gs : List hb_glyph_info_t) → start + walked ≤ end → end ≤ length (all_glyphs merged)
    → items_of merged ≡ items_of a → count ≡ reach 1 (moves_to_front pair one walked (drop walked (slice_range (items_of a) start end)))
    → gs ≡ take start (all_glyphs merged) ++ with_fronts_moved_after (pair_seen pair) (one_seen one) walked (slice_range (all_glyphs merged) start end) ++ drop end (all_glyphs merged)
    → are_one_cluster (slice_range (all_glyphs merged) start (start + count)) ≡ true → clusters gs ≡ clusters (all_glyphs merged)
fronts_clusters pair one start end walked count a merged gs le fits same at e is_one =
    let hs = all_glyphs merged in
    let zs = drop walked (slice_range (items_of a) start end) in
    let ms = moves_to_front pair one walked zs in
    let wide : reach 1 ms ≡ start + count - start = omega (arith, at) in
    ap clusters (fronts_shape pair one start end walked a merged gs le fits same e)
    ∙ clusters_all_moved start ms hs (moves_grow pair one 1 walked zs (omega arith)) (ap (λ n. are_one_cluster (take n (drop start hs))) wide ∙ is_one)

pub fronts_rewrite : (pair : Item → Item → Bool) (one : Item → Bool) (start end walked count : ℕ) (a merged : Sides) (gs : List hb_glyph_info_t) → start + walked ≤ end → end ≤ length (all_glyphs a)
    → count ≡ reach 1 (moves_to_front pair one walked (drop walked (slice_range (items_of a) start end))) → start + count ≤ end → Happens (Merge InList start (start + count) ∷ []) a merged
    → gs ≡ take start (all_glyphs merged) ++ with_fronts_moved_after (pair_seen pair) (one_seen one) walked (slice_range (all_glyphs merged) start end) ++ drop end (all_glyphs merged)
    → IsRewritten (fronts_moved pair one walked (slice_range (items_of a) start end)) start end a (with_refilled gs merged)
fronts_rewrite pair one start end walked count a merged gs le fits at inside h e =
    let hs = all_glyphs merged in
    let part = slice_range (items_of a) start end in
    let ms = moves_to_front pair one walked (drop walked part) in
    let same : items_of merged ≡ items_of a = ap (λ (v : View). v.items) h.view in
    let many : length hs ≡ length (all_glyphs a) = sym (length-map hs item_of) ∙ ap (λ (xs : List Item). length xs) same ∙ length-map (all_glyphs a) item_of in
    let there : end ≤ length hs = omega (arith, many, fits) in
    let seen : strip (slice_range hs start end) ≡ part = range_seen item_of start end hs ∙ ap (λ xs. slice_range xs start end) same in
    let shape : gs ≡ all_moved start ms hs = fronts_shape pair one start end walked a merged gs le there same e in
    let long : length gs ≡ length hs = fronts_length pair one start end walked merged gs le there e in
    let all = written_all gs merged long in
    let items : strip gs ≡ take start (items_of a) ++ with_fronts_moved_after pair one walked part ++ drop end (items_of a) =
    ap strip e ∙ part_seen item_of start end hs (with_fronts_moved_after (pair_seen pair) (one_seen one) walked (slice_range hs start end))
    ∙ ap (λ ys. take start (strip hs) ++ ys ++ drop end (strip hs)) (gathered_after_seen item_of pair one walked (slice_range hs start end) ∙ ap (with_fronts_moved_after pair one walked) seen)
    ∙ ap (λ xs. take start xs ++ with_fronts_moved_after pair one walked part ++ drop end xs) same in
    let os = origins_of a in
    let count_os : length os ≡ length (all_glyphs a) = length-map (all_glyphs a) origin_of in
    let bound : start + reach 1 ms ≤ length os = omega (arith, count_os, at, inside, fits) in
    let from : origins gs ≡ origins_by (map (shifted_event start) (move_events 0 ms)) a =
    ap origins shape ∙ all_moved_seen origin_of start ms hs ∙ ap (all_moved start ms) h.origins
    ∙ ap (λ n. all_moved start ms (origins_merged_as (manner InList a.level) start (start + n) os)) at
    ∙ sym (moves_merge_once (flag_requests_of a) a.level start ms os (moves_grow pair one 1 walked (drop walked part) (omega arith)) bound)
    ∙ ap (λ i. origins_by (move_events i ms) a) (let none : start ≡ start + 0 = omega arith in none)
    ∙ ap (λ es. origins_by es a) (sym (shift_moves start 0 ms)) in
    record {
      view = ap (λ (ys : List hb_glyph_info_t). record (view_of merged) { items = strip ys }) all ∙ ap (λ xs. record (view_of merged) { items = xs }) items ∙ ap (λ (w : View). record w { items = take start (items_of a) ++ with_fronts_moved_after pair one walked part ++ drop end (items_of a) }) h.view;
      origins = ap origins all ∙ from;
      settings = h.settings;
      ready = written_ready gs merged long h.ready;
    }
