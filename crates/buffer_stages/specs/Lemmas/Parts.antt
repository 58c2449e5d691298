-- A rewriting of a part is one of the whole; parts that move or get a mask.
use Rattle.std.proofs.Common.{ℕ, ◌≡◌, ◌≤◌, ◌+◌, ◌-◌, ◌*◌, ◌/◌, ◌%◌, List, [], ◌∷◌, ◌++◌, length, map, take, drop, refl, sym, ap, subst, ◌∙◌, arith, append_assoc}
use Rattle.std.specs.Prelude.{bit_and, slice_range}
use Rattle.std.specs.Int.RustNames.{bit_or}
use Rattle.std.specs.Int.Bits.{or_zero_r}
use Rattle.std.proofs.lemmas.Nat.{and_or_apart, or_block, and_mask}
use Rattle.std.proofs.Math.Seq.{take-add}
use Rattle.std.proofs.lemmas.List.{length-append, length-map, drop-drop, drop-take, take-take, drop-append-le, length-take-le, length-drop, take-append-drop, take-map, drop-map, map-append}
use Rattle.buffer_glyphs.specs.declared.info.hb_glyph_info_t.{hb_glyph_info_t}
use Rattle.buffer_glyphs.specs.Items.{Item, clusters, item_of, strip, without_flags}
use Rattle.buffer_glyphs.specs.Levels.{InList}
use Rattle.buffer_glyphs.specs.Events.{Move}
use Rattle.buffer_glyphs.specs.Origins.{origins, origin_of}
use Rattle.buffer_core.specs.Readings.{BufferState, always}
use Rattle.buffer_lists.specs.declared.order.KnownOrder.{KnownOrder}
use Rattle.buffer_lists.specs.Known.{HasOrder}
use Rattle.buffer_core.specs.Sides.{Sides, all_glyphs, items_of, origins_of, origins_by, view_of}
use Rattle.buffer_core.specs.Lending.{with_refilled}
use Rattle.buffer_stages.specs.Ready.{IsReady}
use Rattle.buffer_stages.specs.Stages.{IsFollowed}
use Rattle.buffer_stages.specs.Lemmas.Written.{written_all, written_ready}
use Rattle.buffer_stages.specs.Moves.{with_range_moved, order_of_move, with_move}
use Rattle.buffer_stages.specs.Lemmas.Ordered.{order_written}
use Rattle.buffer_glyphs.specs.Rewriting.{Arrangement, eventless_arrangement, shifted_event}
use Rattle.buffer_stages.specs.Rewriting.{within}
use Rattle.buffer_stages.specs.SyllableBuffers.{IsRewritten}
use Rattle.buffer_stages.specs.Parts.{item_with_features, glyph_masked, items_with_features, first_to_back}
use Rattle.buffer_stages.specs.Lemmas.Shifts.{shift_events}
use Rattle.buffer_glyphs.specs.Lemmas.Origins.{slice_seen as range_seen}
use Rattle.buffer_glyphs.specs.Lemmas.Glyphs.{cut_out as whole_cut}

-- ---- ranges of ranges

pub range_size : {X : Type 0} (from to : ℕ) (xs : List X) → from ≤ to → to ≤ length xs → length (slice_range xs from to) ≡ to - from
range_size from to xs le fits = length-take-le (to - from) (drop from xs) (omega (arith, length-drop from xs, le, fits))

take_less : {X : Type 0} (a b : ℕ) (ys : List X) → a ≤ b → take a (take b ys) ≡ take a ys
take_less a b ys le = take-take a b ys le

pub range_within : {X : Type 0} (start end from to : ℕ) (xs : List X) → from ≤ to → start + to ≤ end
    → slice_range (slice_range xs start end) from to ≡ slice_range xs (start + from) (start + to)
range_within start end from to xs le last =
    let n : end - start ≡ from + (end - start - from) = omega (arith, le, last) in
    let inner : drop from (take (end - start) (drop start xs)) ≡ take (end - start - from) (drop (start + from) xs) =
    ap (λ m. drop from (take m (drop start xs))) n ∙ drop-take from (end - start - from) (drop start xs) ∙ ap (take (end - start - from)) (drop-drop from start xs) in
    let count : start + to - (start + from) ≡ to - from = omega (arith, le) in
    ap (take (to - from)) inner ∙ take_less (to - from) (end - start - from) (drop (start + from) xs) (omega (arith, le, last)) ∙ ap (λ m. take m (drop (start + from) xs)) (sym count)

-- the front of a range, and what is after a part of it
front_part : {X : Type 0} (start end from : ℕ) (xs : List X) → start + from ≤ end → take (start + from) xs ≡ take start xs ++ take from (slice_range xs start end)
front_part start end from xs le = take-add start from xs ∙ ap (λ ys. take start xs ++ ys) (sym (take-take from (end - start) (drop start xs) (omega (arith, le))))

back_part : {X : Type 0} (start end to : ℕ) (xs : List X) → start + to ≤ end → end ≤ length xs → drop (start + to) xs ≡ drop to (slice_range xs start end) ++ drop end xs
back_part start end to xs le fits =
    let ds = drop start xs in
    let n = end - start in
    let at : start + n ≡ end = omega (arith, le) in
    let last : drop n ds ≡ drop end xs = drop-drop n start xs ∙ ap (λ m. drop m xs) at in
    let len : length (take n ds) ≡ n = length-take-le n ds (omega (arith, length-drop start xs, le, fits)) in
    sym (drop-drop to start xs) ∙ ap (drop to) (sym (take-append-drop n ds)) ∙ drop-append-le to (take n ds) (drop n ds) (omega (arith, len, le)) ∙ ap (λ ys. drop to (take n ds) ++ ys) last

five : {X : Type 0} (ws bs cs ds es : List X) → ws ++ bs ++ cs ++ (ds ++ es) ≡ ws ++ (bs ++ cs ++ ds) ++ es
five ws bs cs ds es = simp append_assoc

pub rewritten_within : (rule : List Item → Arrangement) (start end from to : ℕ) (a b : Sides) → from ≤ to → start + to ≤ end → end ≤ length (items_of a)
    → IsRewritten (rule (slice_range (items_of a) (start + from) (start + to))) (start + from) (start + to) a b
    → IsRewritten (within from to rule (slice_range (items_of a) start end)) start end a b
rewritten_within rule start end from to a b le last fits f =
    let xs = items_of a in
    let part = slice_range xs start end in
    let r = rule (slice_range xs (start + from) (start + to)) in
    let same : rule (slice_range part from to) ≡ r = ap rule (range_within start end from to xs le last) in
    let P : Arrangement → Type 0 = λ q. IsRewritten (record { items = take from part ++ q.items ++ drop to part; events = map (shifted_event from) q.events }) start end a b in
    subst P (sym same) (record {
      view = f.view ∙ ap (λ ys. record (view_of a) { items = ys }) (ap (λ ys. ys ++ r.items ++ drop (start + to) xs) (front_part start end from xs (omega (arith, le, last))) ∙ ap (λ ys. take start xs ++ take from part ++ r.items ++ ys) (back_part start end to xs last fits) ∙ five (take start xs) (take from part) r.items (drop to part) (drop end xs));
      origins = f.origins ∙ ap (λ es. origins_by es a) (sym (shift_events start from r.events));
      settings = f.settings;
      ready = f.ready;
    })

-- a range whose ends are given as indices of the list
pub rewritten_part : (rule : List Item → Arrangement) (start end from to p q : ℕ) (a b : Sides) → p ≡ start + from → q ≡ start + to → from ≤ to → start + to ≤ end → end ≤ length (items_of a)
    → IsRewritten (rule (slice_range (items_of a) p q)) p q a b → IsRewritten (within from to rule (slice_range (items_of a) start end)) start end a b
rewritten_part rule start end from to p q a b at last le inside fits f =
    let P : ℕ → Type 0 = λ n. IsRewritten (rule (slice_range (items_of a) n q)) n q a b in
    let Q : ℕ → Type 0 = λ m. IsRewritten (rule (slice_range (items_of a) (start + from) m)) (start + from) m a b in
    rewritten_within rule start end from to a b le inside fits (subst Q last (subst P at f))

-- ---- lengths

-- a rule that keeps the length of each list does so for a part
pub within_size : (rule : List Item → Arrangement) (from to : ℕ) (xs : List Item) → ((ys : List Item) → length (rule ys).items ≡ length ys) → from ≤ to → to ≤ length xs
    → length (within from to rule xs).items ≡ length xs
within_size rule from to xs keeps le fits =
    let part = slice_range xs from to in
    let a = length-append (take from xs ++ (rule part).items) (drop to xs) in
    let b = length-append (take from xs) (rule part).items in
    omega (arith, a, b, keeps part, range_size from to xs le fits, le, fits, length-take-le from xs (omega (arith, le, fits)), length-drop to xs)

pub masked_size : (bits : ℕ) (xs : List Item) → length (items_with_features bits xs).items ≡ length xs
masked_size bits xs = length-map xs (item_with_features bits)

-- of a list that is cut in two, both parts
both_parts : {X : Type 0} (n : ℕ) (xs : List X) → length (drop n xs ++ take n xs) ≡ length xs
both_parts n xs =
    let whole = ap length (take-append-drop n xs) in
    omega (arith, whole, length-append (drop n xs) (take n xs), length-append (take n xs) (drop n xs))

pub moved_size : (n : ℕ) (xs : List Item) → length (first_to_back n xs).items ≡ length xs
moved_size n xs = both_parts n xs

-- ---- a move

-- a move of a range is one of its part of the list
pub moved_range : {X : Type 0} (start end n : ℕ) (xs : List X) → start + n ≤ end → end ≤ length xs
    → with_range_moved start n (end - start - n) xs ≡ take start xs ++ (drop n (slice_range xs start end) ++ take n (slice_range xs start end)) ++ drop end xs
moved_range start end n xs le fits =
    let last : start + (n + (end - start - n)) ≡ end = omega (arith, le) in
    let total : end - start ≡ n + (end - start - n) = omega (arith, le) in
    let back : take (end - start - n) (drop (start + n) xs) ≡ drop n (slice_range xs start end) =
    sym (ap (λ m. drop n (take m (drop start xs))) total ∙ drop-take n (end - start - n) (drop start xs) ∙ ap (take (end - start - n)) (drop-drop n start xs)) in
    let front : take n (drop start xs) ≡ take n (slice_range xs start end) = sym (take-take n (end - start) (drop start xs) (omega (arith, le))) in
    ap (λ m. take start xs ++ (take (end - start - n) (drop (start + n) xs) ++ take n (drop start xs)) ++ drop m xs) last
    ∙ ap (λ ys. take start xs ++ (ys ++ take n (drop start xs)) ++ drop end xs) back
    ∙ ap (λ ys. take start xs ++ (drop n (slice_range xs start end) ++ ys) ++ drop end xs) front

pub move_rewrites : (start end n middle : ℕ) (a b : Sides) → middle ≡ start + n → start + n ≤ end → end ≤ length (items_of a)
    → IsFollowed (always (with_move start (middle - start) (end - middle))) a b
    → IsRewritten (first_to_back n (slice_range (items_of a) start end)) start end a b
move_rewrites start end n middle a b at le fits f =
    let first : middle - start ≡ n = omega (arith, at) in
    let second : end - middle ≡ end - start - n = omega (arith, at, le) in
    let P : ℕ → ℕ → Type 0 = λ i j. IsFollowed (always (with_move start i j)) a b in
    let g : IsFollowed (always (with_move start n (end - start - n))) a b = subst (λ j. P n j) second (subst (λ i. P i (end - middle)) first f) in
    let size : length (slice_range (items_of a) start end) ≡ end - start = range_size start end (items_of a) (omega (arith, le)) fits in
    let none : start + 0 ≡ start = omega arith in
    record {
      view = ap (λ (r : BufferState). r.view) g.follows ∙ ap (λ xs. record (view_of a) { items = xs }) (moved_range start end n (items_of a) le fits);
      origins = ap (λ (r : BufferState). r.origins) g.follows
          ∙ ap (λ i. origins_by (Move InList i (order_of_move n (end - start - n)) ∷ []) a) (sym none)
          ∙ ap (λ m. origins_by (Move InList (start + 0) (order_of_move n (m - n)) ∷ []) a) (sym size);
      settings = g.settings;
      ready = g.ready;
    }

-- ---- masks

pub without_again : (m bits : ℕ) → without_flags (bit_or m (without_flags bits)) ≡ bit_or (without_flags m) (without_flags bits)
without_again m bits =
    let r = m % 8 in
    let q = m / 8 in
    let p = bits / 8 in
    let low = and_mask m 3 in
    let put = and_mask bits 3 in
    let high : without_flags bits ≡ p * 8 + 0 = omega (arith, put) in
    let whole : m ≡ q * 8 + r = omega arith in
    let front : without_flags m ≡ q * 8 + 0 = omega (arith, low) in
    let first : bit_or m (without_flags bits) ≡ bit_or q p * 8 + bit_or r 0 = ap (λ n. bit_or n (without_flags bits)) whole ∙ ap (bit_or (q * 8 + r)) high ∙ or_block 3 q p r 0 (omega arith) (omega arith) in
    let second : bit_or (without_flags m) (without_flags bits) ≡ bit_or q p * 8 + bit_or 0 0 = ap (λ n. bit_or n (without_flags bits)) front ∙ ap (bit_or (q * 8 + 0)) high ∙ or_block 3 q p 0 0 (omega arith) (omega arith) in
    let none : bit_or r 0 ≡ r = or_zero_r r in
    let nothing : bit_or 0 0 ≡ 0 = or_zero_r 0 in
    let set = and_mask (bit_or m (without_flags bits)) 3 in
    omega (arith, first, second, none, nothing, set)

pub flags_again : (m bits : ℕ) → bit_and (bit_or m (without_flags bits)) 7 ≡ bit_and m 7
flags_again m bits =
    let put = and_mask bits 3 in
    let none : bit_and (without_flags bits) 7 ≡ 0 = and_mask (without_flags bits) 3 ∙ omega (arith, put) in
    and_or_apart 7 m (without_flags bits) none

pub item_masked_is : (bits : ℕ) (g : hb_glyph_info_t) → item_of (glyph_masked bits g) ≡ item_with_features bits (item_of g)
item_masked_is bits g = rw (without_again g.mask bits) refl

pub origin_masked_is : (bits : ℕ) (g : hb_glyph_info_t) → origin_of (glyph_masked bits g) ≡ origin_of g
origin_masked_is bits g = rw (flags_again g.mask bits) refl

pub items_masked : (bits : ℕ) (gs : List hb_glyph_info_t) → strip (map (glyph_masked bits) gs) ≡ map (item_with_features bits) (strip gs)
items_masked bits [] = refl
items_masked bits (g ∷ gs) = rw (without_again g.mask bits, items_masked bits gs) refl

pub origins_masked : (bits : ℕ) (gs : List hb_glyph_info_t) → origins (map (glyph_masked bits) gs) ≡ origins gs
origins_masked bits [] = refl
origins_masked bits (g ∷ gs) = rw (flags_again g.mask bits, origins_masked bits gs) refl

-- ---- a part whose glyphs were written, one for each

pub part_seen : {X Y : Type 0} (v : X → Y) (from to : ℕ) (xs ys : List X) → map v (take from xs ++ ys ++ drop to xs) ≡ take from (map v xs) ++ map v ys ++ drop to (map v xs)
part_seen v from to xs ys =
    map-append v (take from xs ++ ys) (drop to xs) ∙ ap (λ zs. zs ++ map v (drop to xs)) (map-append v (take from xs) ys)
    ∙ ap (λ zs. zs ++ map v ys ++ map v (drop to xs)) (sym (take-map v from xs)) ∙ ap (λ zs. take from (map v xs) ++ map v ys ++ zs) (sym (drop-map v to xs))

pub between : {X : Type 0} (from to : ℕ) (xs ys : List X) → from ≤ to → to ≤ length xs → length ys ≡ to - from → length (take from xs ++ ys ++ drop to xs) ≡ length xs
between from to xs ys le inside len =
    length-append (take from xs ++ ys) (drop to xs) ∙ ap (λ n. n + length (drop to xs)) (length-append (take from xs) ys) ∙ omega (arith, len, le, inside, length-take-le from xs (omega (arith, le, inside)), length-drop to xs)

pub part_written : (from to : ℕ) (ys : List Item) (hs gs : List hb_glyph_info_t) (a : Sides) → IsReady a → from ≤ to → to ≤ length (all_glyphs a)
    → gs ≡ take from (all_glyphs a) ++ hs ++ drop to (all_glyphs a) → strip hs ≡ ys → origins hs ≡ origins (slice_range (all_glyphs a) from to)
    → IsRewritten (eventless_arrangement ys) from to a (with_refilled gs a)
part_written from to ys hs gs a ready le fits e items from_where =
    let range = slice_range (all_glyphs a) from to in
    let count : length hs ≡ to - from = sym (length-map hs origin_of) ∙ ap length from_where ∙ length-map range origin_of ∙ range_size from to (all_glyphs a) le fits in
    let long : length gs ≡ length (all_glyphs a) = ap length e ∙ between from to (all_glyphs a) hs le fits count in
    let all = written_all gs a long in
    record {
      view = ap (λ (zs : List hb_glyph_info_t). record (view_of a) { items = strip zs }) (all ∙ e) ∙ ap (λ zs. record (view_of a) { items = zs }) (part_seen item_of from to (all_glyphs a) hs ∙ ap (λ zs. take from (items_of a) ++ zs ++ drop to (items_of a)) items);
      origins = ap origins (all ∙ e) ∙ part_seen origin_of from to (all_glyphs a) hs ∙ ap (λ zs. take from (origins_of a) ++ zs ++ drop to (origins_of a)) (from_where ∙ range_seen origin_of from to (all_glyphs a)) ∙ whole_cut from to (origins_of a) le;
      settings = refl;
      ready = written_ready gs a long ready;
    }

pub mask_rewrites : (from to bits : ℕ) (gs : List hb_glyph_info_t) (a : Sides) → IsReady a → from ≤ to → to ≤ length (all_glyphs a)
    → gs ≡ take from (all_glyphs a) ++ map (glyph_masked bits) (slice_range (all_glyphs a) from to) ++ drop to (all_glyphs a)
    → IsRewritten (items_with_features bits (slice_range (items_of a) from to)) from to a (with_refilled gs a)
mask_rewrites from to bits gs a ready le fits e =
    let range = slice_range (all_glyphs a) from to in
    part_written from to (map (item_with_features bits) (slice_range (items_of a) from to)) (map (glyph_masked bits) range) gs a ready le fits e
    (items_masked bits range ∙ ap (map (item_with_features bits)) (range_seen item_of from to (all_glyphs a))) (origins_masked bits range)

-- ---- what is known of the order of clusters

-- a part that was written, whose clusters are as they were
pub part_clusters : (from to : ℕ) (hs gs all : List hb_glyph_info_t) → from ≤ to → gs ≡ take from all ++ hs ++ drop to all → clusters hs ≡ clusters (slice_range all from to) → clusters gs ≡ clusters all
part_clusters from to hs gs all le e same =
    let cluster_of : hb_glyph_info_t → ℕ = λ g. g.cluster in
    ap clusters e ∙ part_seen cluster_of from to all hs ∙ ap (λ ns. take from (clusters all) ++ ns ++ drop to (clusters all)) (same ∙ range_seen cluster_of from to all) ∙ whole_cut from to (clusters all) le

-- glyphs whose clusters are as they were
pub order_kept : (o : KnownOrder) (gs : List hb_glyph_info_t) (s : Sides) → clusters gs ≡ clusters (all_glyphs s) → HasOrder o (clusters (all_glyphs s)) → HasOrder o (clusters (all_glyphs (with_refilled gs s)))
order_kept o gs s same known =
    let cluster_of : hb_glyph_info_t → ℕ = λ g. g.cluster in
    order_written o gs s (sym (length-map gs cluster_of) ∙ ap (λ (ns : List ℕ). length ns) same ∙ length-map (all_glyphs s) cluster_of) same known

-- glyphs whose clusters have an order
pub order_put : (o : KnownOrder) (gs : List hb_glyph_info_t) (s t : Sides) → t ≡ s → length gs ≡ length (all_glyphs s) → HasOrder o (clusters gs) → HasOrder o (clusters (all_glyphs (with_refilled gs t)))
order_put o gs s t same long h = subst (HasOrder o) (sym (ap clusters (written_all gs t (long ∙ ap (λ u. length (all_glyphs u)) (sym same))))) h

pub clusters_masked : (bits : ℕ) (gs : List hb_glyph_info_t) → clusters (map (glyph_masked bits) gs) ≡ clusters gs
clusters_masked bits [] = refl
clusters_masked bits (g ∷ gs) = ap (λ ns. g.cluster ∷ ns) (clusters_masked bits gs)
