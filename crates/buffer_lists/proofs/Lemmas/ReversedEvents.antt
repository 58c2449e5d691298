-- A reversal of groups is a list of events.
use Rattle.std.specs.Prelude.{slice_range}
use Rattle.std.specs.List.{range_with_len}
use Rattle.std.proofs.Common.{ℕ, suc, zero, ◌≡◌, ◌≤◌, ◌+◌, ◌-◌, Bool, true, false, List, [], ◌∷◌, ◌++◌, length, map, take, drop, reverse, arith, refl, ap, sym, subst, ◌∙◌}
use Rattle.std.proofs.lemmas.List.{append-nil, map-append, take-map, drop-map, length-map, length-drop, length-take-le, length-reverse, take-append-drop}
use Rattle.std.proofs.lemmas.List.FromFn.{length-range_with_len}
use Rattle.buffer_glyphs.specs.declared.info.hb_glyph_info_t.{hb_glyph_info_t as Glyph}
use Rattle.buffer_glyphs.specs.declared.level.BufferClusterLevel.{BufferClusterLevel as Level}
use Rattle.buffer_glyphs.specs.Items.{Item, Position, clusters, item_of, strip}
use Rattle.buffer_glyphs.specs.Parts.{range_of}
use Rattle.buffer_glyphs.specs.Glyphs.{glyphs_merged_at}
use Rattle.buffer_glyphs.specs.Origins.{Asks, InList, manner, origins_merged_as, origin_of, origins, with_range_arranged}
use Rattle.buffer_glyphs.specs.Events.{Reverse, origins_after_event, origins_after, IsPlain}
use Rattle.buffer_glyphs.specs.Lemmas.Glyphs.{length_merged_at}
use Rattle.buffer_glyphs.specs.Lemmas.Origins.{origins_of_merged_at, slice_seen, origins_after_both}
use Rattle.buffer_lists.specs.Events.{indices_reversed, group_event, group_events, groups_reversed}
use Rattle.buffer_lists.specs.Facts.{group_lengths}
use Rattle.buffer_lists.specs.Groups.{group_length}
use Rattle.buffer_lists.specs.Turning.{range_reversed, glyphs_merged_if, beside_if, all_turned, turning_of}
use Rattle.buffer_lists.specs.Lemmas.Picked.{AreAt, arranged_as, are_all, are_reversed}
use Rattle.buffer_lists.proofs.Lemmas.Regrouped.{of_items, fewer_left, lengths_from}
use Rattle.buffer_lists.proofs.Lemmas.Ranges.{joined_within}
use Rattle.buffer_lists.proofs.Lemmas.Turned.{placed_glyphs, all_idle}
use Rattle.buffer_glyphs.specs.Lemmas.EventParts.{map-reverse}

pub length_reversed_indices : (n : ℕ) → length (indices_reversed n) ≡ n
length_reversed_indices n = length-reverse (range_with_len 0 n) ∙ length-range_with_len 0 n

-- a range that is reversed stands in the order of its indices, the last first
pub range_arranged : {X : Type 0} (start n : ℕ) (xs : List X) → start + n ≤ length xs → range_reversed start (start + n) xs ≡ with_range_arranged start (indices_reversed n) xs
range_arranged start n xs le =
    let range = take n (drop start xs) in
    let less : start + n - start ≡ n = omega arith in
    let long : length range ≡ n = length-take-le n (drop start xs) (omega (arith, length-drop start xs)) in
    let many = length_reversed_indices n in
    let whole : AreAt range (range_with_len 0 n) range = subst (λ k. AreAt range (range_with_len 0 k) range) long (are_all [] range) in
    let there : AreAt (take (length (indices_reversed n)) (drop start xs)) (indices_reversed n) (reverse range) = subst (λ k. AreAt (take k (drop start xs)) (indices_reversed n) (reverse range)) (sym many) (are_reversed range (range_with_len 0 n) range whole) in
    ap (λ k. take start xs ++ reverse (take k (drop start xs)) ++ drop (start + n) xs) less ∙ ap (λ k. take start xs ++ reverse range ++ drop (start + k) xs) (sym many)
    ∙ sym (arranged_as start (indices_reversed n) (reverse range) xs there (omega (arith, many, le)))

pub range_seen : {X Y : Type 0} (v : X → Y) (start end : ℕ) (xs : List X) → map v (range_reversed start end xs) ≡ range_reversed start end (map v xs)
range_seen v start end xs =
    let range = slice_range xs start end in
    let seen = reverse (slice_range (map v xs) start end) in
    map-append v (take start xs ++ reverse range) (drop end xs)
    ∙ ap (λ ys. ys ++ map v (drop end xs)) (map-append v (take start xs) (reverse range) ∙ ap (λ ys. map v (take start xs) ++ ys) (map-reverse v range ∙ ap reverse (slice_seen v start end xs)) ∙ ap (λ ys. ys ++ seen) (sym (take-map v start xs)))
    ∙ ap (λ ys. take start (map v xs) ++ seen ++ ys) (sym (drop-map v end xs))

pub range_origins : (start n : ℕ) (gs : List Glyph) → start + n ≤ length gs → origins (range_reversed start (start + n) gs) ≡ with_range_arranged start (indices_reversed n) (origins gs)
range_origins start n gs le = range_seen origin_of start (start + n) gs ∙ range_arranged start n (origins gs) (omega (arith, le, length-map gs origin_of))

-- a group that was merged where that is requested, and reversed in its place
group_origins : (asks : Asks) (merge : Bool) (level : Level) (start n : ℕ) (gs : List Glyph) → start + n ≤ length gs → origins (range_reversed start (start + n) (glyphs_merged_if merge level start (start + n) gs)) ≡ origins_after_event asks level (origins gs) (group_event merge start n)
group_origins asks false level start n gs le = range_origins start n gs le
group_origins asks true level start n gs le =
    let mid = glyphs_merged_at level start (start + n) gs in
    range_origins start n mid (omega (arith, le, length_merged_at level start (start + n) gs (omega arith)))
    ∙ ap (with_range_arranged start (indices_reversed n)) (origins_of_merged_at level start (start + n) gs (omega arith) ∙ ap (λ k. origins_merged_as (manner InList level) start (start + k) (origins gs)) (sym (length_reversed_indices n)))

groups_many : (n : ℕ) (asks : Asks) (merge : Bool) (level : Level) (q : Item → Item → Bool) (start : ℕ) (gs found rest_glyphs : List Glyph) (ps pa : List Position) (m : Bool) → found ≡ reverse (take start gs) → rest_glyphs ≡ drop start gs → length rest_glyphs ≤ n
    → origins (all_turned merge level (of_items q) n (record { glyphs = found; positions = ps; rest_glyphs = rest_glyphs; rest_positions = pa; is_marked = m })).glyphs ≡ reverse (origins_after asks level (group_events merge start (group_lengths q (strip rest_glyphs))) (origins gs))
groups_many n asks merge level q start gs found [] ps pa m f a le =
    let whole : take start gs ≡ gs = sym (append-nil (take start gs)) ∙ ap (λ hs. take start gs ++ hs) a ∙ take-append-drop start gs in
    ap (λ t. origins t.glyphs) (all_idle n merge level (of_items q) found ps pa m) ∙ ap origins f ∙ map-reverse origin_of (take start gs) ∙ ap (λ hs. reverse (origins hs)) whole
groups_many zero asks merge level q start gs found (x ∷ xs) ps pa m f a le = absurd (omega arith)
groups_many (suc n) asks merge level q start gs found (x ∷ xs) ps pa m f a le =
    let k = group_length (of_items q) (x ∷ xs) in
    let new = range_reversed start (start + k) (glyphs_merged_if merge level start (start + k) gs) in
    let back = drop k (glyphs_merged_if merge level 0 k (x ∷ xs)) in
    let front = take k (glyphs_merged_if merge level 0 k (x ∷ xs)) ++ beside_if merge level (range_of 0 k (clusters (x ∷ xs))) found in
    let less : start + k - start ≡ k = omega arith in
    let inside : k ≤ length (x ∷ xs) = omega (arith, joined_within (of_items q) x xs) in
    let within : start + k ≤ length gs = omega (arith, ap length a, length-drop start gs, inside) in
    let moved = placed_glyphs merge level start (start + k) gs _ new (omega arith) within refl refl in
    let first : front ≡ reverse (take (start + k) new) =
    ap (λ hs. take k (glyphs_merged_if merge level 0 k hs) ++ beside_if merge level (range_of 0 k (clusters hs)) found) a ∙ ap (λ hs. take k (glyphs_merged_if merge level 0 k (drop start gs)) ++ beside_if merge level (range_of 0 k (clusters (drop start gs))) hs) f
    ∙ ap (λ j. take j (glyphs_merged_if merge level 0 j (drop start gs)) ++ beside_if merge level (range_of 0 j (clusters (drop start gs))) (reverse (take start gs))) (sym less) ∙ sym moved.0 in
    let rest : back ≡ drop (start + k) new = ap (λ hs. drop k (glyphs_merged_if merge level 0 k hs)) a ∙ ap (λ j. drop j (glyphs_merged_if merge level 0 j (drop start gs))) (sym less) ∙ sym moved.1 in
    groups_many n asks merge level q (start + k) new front back (take k pa ++ ps) (drop k pa) _ first rest (fewer_left merge level _ n x xs le)
    ∙ ap (λ os. reverse (origins_after asks level (group_events merge (start + k) (group_lengths q (strip back))) os)) (group_origins asks merge level start k gs within)
    ∙ ap (λ lens. reverse (origins_after asks level (group_events merge start lens) (origins gs))) (sym (lengths_from merge level q x xs))

-- the origins of the glyphs once their groups were reversed
pub groups_are_events : (asks : Asks) (merge : Bool) (level : Level) (q : Item → Item → Bool) (gs : List Glyph) (ps : List Position) → origins (turning_of merge level (λ g h. q (item_of g) (item_of h)) gs ps).glyphs ≡ origins_after asks level (groups_reversed merge q (strip gs)) (origins gs)
groups_are_events asks merge level q gs ps = groups_many (length gs) asks merge level q 0 gs [] gs [] ps false refl refl (omega arith) ∙ sym (origins_after_both asks level (group_events merge 0 (group_lengths q (strip gs))) (Reverse ∷ []) (origins gs))

pub events_plain : (at : ℕ) (lens : List ℕ) → IsPlain (group_events true at lens ++ Reverse ∷ [])
events_plain at [] = tt
events_plain at (n ∷ lens) = events_plain (at + n) lens

-- with merges, none of them rearranges glyphs by itself
pub groups_are_plain : {X : Type 0} (joins : X → X → Bool) (xs : List X) → IsPlain (groups_reversed true joins xs)
groups_are_plain joins xs = events_plain 0 (group_lengths joins xs)
