-- A list that is merged or marked part by part.
use Rattle.std.specs.Prelude.{slice_range, not}
use Rattle.std.specs.List.{list_any}
use borrow.Rule.Slice.PartMut.{put_mid}
use Rattle.std.proofs.Common.{ℕ, ◌≡◌, ◌≤◌, ◌+◌, ◌-◌, ◌==◌, true, List, [], ◌∷◌, ◌++◌, map, take, drop, arith, refl, ap, sym, ◌∙◌, append_assoc}
use Rattle.std.proofs.lemmas.List.{map-append, take-append-drop, drop-drop}
use Rattle.buffer_glyphs.specs.declared.info.hb_glyph_info_t.{hb_glyph_info_t}
use Rattle.buffer_glyphs.specs.Items.{clusters}
use Rattle.buffer_glyphs.specs.Parts.{range_of}
use Rattle.buffer_glyphs.specs.Order.{has_number}
use Rattle.buffer_glyphs.specs.Merges.{least_number, merged_number}
use Rattle.buffer_glyphs.specs.Glyphs.{in_cluster, glyphs_merged, marked_outside, glyphs_marked, has_several_numbers, glyph_flagged, glyphs_flagged}
use Rattle.buffer_glyphs.specs.Lemmas.Glyphs.{range_clusters}
use Rattle.buffer_glyphs.specs.Lemmas.Numbers.{Has, has_right, has_here}

-- glyphs whose clusters occur in a range become of its least
all_in : (range : List ℕ) (gs : List hb_glyph_info_t) → ((n : ℕ) → Has (clusters gs) n → Has range n) → glyphs_merged range gs ≡ map (in_cluster (least_number range)) gs
all_in range [] among = refl
all_in range (g ∷ gs) among =
    let here : has_number range g.cluster ≡ true = among g.cluster (has_here g.cluster (clusters gs)) in
    let rest = all_in range gs (λ n h. among n (has_right n (g.cluster ∷ []) (clusters gs) h)) in
    rw (here, rest) refl

pub merged_parts : (xs : List hb_glyph_info_t) (i j : ℕ) (front range back : List hb_glyph_info_t)
    → front ≡ glyphs_merged (clusters (slice_range xs i j)) (take i xs)
    → range ≡ map (in_cluster (least_number (clusters (slice_range xs i j)))) (slice_range xs i j)
    → back ≡ glyphs_merged (clusters (slice_range xs i j)) (drop (j - i) (drop i xs))
    → front ++ (range ++ back) ≡ glyphs_merged (range_of i j (clusters xs)) xs
merged_parts xs i j front range back f r b =
    let ns = clusters (slice_range xs i j) in
    let F : hb_glyph_info_t → hb_glyph_info_t = λ g. in_cluster (merged_number ns g.cluster) g in
    let whole : take i xs ++ (slice_range xs i j ++ drop (j - i) (drop i xs)) ≡ xs =
    rw (take-append-drop (j - i) (drop i xs), take-append-drop i xs) refl in
    let outer = map-append F (take i xs) (slice_range xs i j ++ drop (j - i) (drop i xs)) in
    let inner = map-append F (slice_range xs i j) (drop (j - i) (drop i xs)) in
    let same = all_in ns (slice_range xs i j) (λ n h. h) in
    let cut = range_clusters xs i j in
    rw cut cc

pub marked_parts : (bits low : ℕ) (xs range : List hb_glyph_info_t) (i j : ℕ) → i ≤ j → low ≡ least_number (clusters (slice_range xs i j))
    → range ≡ map (marked_outside bits low) (slice_range xs i j)
    → put_mid i (j - i) xs range ≡ glyphs_marked bits i j xs
marked_parts bits low xs range i j le is e =
    let there : i + (j - i) ≡ j = omega arith in
    let beyond : drop (j - i) (drop i xs) ≡ drop j xs = drop-drop (j - i) i xs ∙ ap (λ n. drop n xs) there in
    rw (e, is, range_clusters xs i j, beyond) (sym (append_assoc (take i xs) (map (marked_outside bits (least_number (clusters (slice_range xs i j)))) (slice_range xs i j)) (drop j xs)))

pub told_apart : (xs : List hb_glyph_info_t) (i j : ℕ) → list_any (λ n. not (n == least_number (clusters (slice_range xs i j)))) (clusters (slice_range xs i j)) ≡ has_several_numbers (range_of i j (clusters xs))
told_apart xs i j = rw (range_clusters xs i j) refl

pub flagged_parts : (bits : ℕ) (xs range : List hb_glyph_info_t) (i j : ℕ) → i ≤ j → range ≡ map (glyph_flagged bits) (slice_range xs i j) → put_mid i (j - i) xs range ≡ glyphs_flagged bits i j xs
flagged_parts bits xs range i j le e =
    let there : i + (j - i) ≡ j = omega arith in
    let beyond : drop (j - i) (drop i xs) ≡ drop j xs = drop-drop (j - i) i xs ∙ ap (λ n. drop n xs) there in
    rw (e, beyond) (sym (append_assoc (take i xs) (map (glyph_flagged bits) (slice_range xs i j)) (drop j xs)))
