-- The clusters of origins, and the origins of glyphs.
use Rattle.std.proofs.Common.{ℕ, ◌≡◌, ◌≤◌, ◌<◌, ◌+◌, ◌-◌, ◌==◌, ◌&&◌, ◌||◌, Bool, true, false, max, nat_lt, if◌then◌else◌, List, [], ◌∷◌, ◌++◌, Option, Some, None, length, map, take, drop, arith, refl, ap, sym, ◌∙◌, append_assoc}
use Rattle.std.specs.Prelude.{slice_range}
use Rattle.std.specs.List.{list_all}
use Rattle.std.proofs.lemmas.Grind.{common_steps}
use Rattle.std.proofs.lemmas.Bool.Decides.{nat_tests}
use Rattle.std.proofs.lemmas.List.{map-append, take-map, drop-map, drop-drop, take-append-drop}
use Rattle.buffer_glyphs.specs.declared.info.hb_glyph_info_t.{hb_glyph_info_t}
use Rattle.buffer_glyphs.specs.declared.level.BufferClusterLevel.{BufferClusterLevel}
use Rattle.buffer_glyphs.specs.Items.{clusters, glyph_flags}
use Rattle.buffer_glyphs.specs.Parts.{first_of, last_of, is_number, range_of, elements_replaced}
use Rattle.buffer_glyphs.specs.Merges.{least_number, merged_number, merged_numbers, numbers_merged_as, numbers_merged_at}
use Rattle.buffer_glyphs.specs.Deletions.{end_renumbered, numbers_deleted_alone, number_deleted}
use Rattle.buffer_glyphs.specs.Glyphs.{in_cluster, glyphs_merged, marked_outside, glyphs_marked, glyphs_merged_as, glyphs_merged_at, glyph_flagged, glyphs_flagged}
use Rattle.buffer_glyphs.specs.Replacements.{glyph_numbered, glyphs_replaced}
use Rattle.buffer_glyphs.specs.Origins.{Origin, origin_of, origins, numbers, cast, origins_merged, flags_added, added_outside, with_range_changed, origins_marked, origins_flagged, InList, Manner, Unites, Marks, Keeps, manner, origins_merged_as, end_cast, alone_deleted, one_deleted, Asks}
use Rattle.buffer_glyphs.specs.Lemmas.Glyphs.{cluster_in_cluster, flags_in_cluster, flags_set}
use Rattle.buffer_glyphs.specs.Lemmas.Replacements.{replaced_seen, replaced_alike}
use Rattle.std.proofs.lemmas.List.Sums.{fold-append}
use Rattle.buffer_glyphs.specs.Events.{Event, origins_after_event, origins_after}
use Rattle.buffer_facts.proofs.Lists.{map_kept}

-- ---- a part of a list that changes

after_both : (from to : ℕ) → from ≤ to → max from to ≡ to
after_both from to le = grind (arith, nat_tests, common_steps)

cut_from : {X : Type 0} (n m : ℕ) (xs : List X) → take n xs ++ take m (drop n xs) ++ drop (n + m) xs ≡ xs
cut_from n m xs = append_assoc (take n xs) (take m (drop n xs)) (drop (n + m) xs) ∙ ap (λ ys. take n xs ++ (take m (drop n xs) ++ ys)) (sym (drop-drop m n xs)) ∙ ap (λ ys. take n xs ++ ys) (take-append-drop m (drop n xs)) ∙ take-append-drop n xs

max_is : (from to : ℕ) → max from to ≡ from + (to - from)
max_is from to = grind (arith, nat_tests, common_steps)

pub cut_in_three : {X : Type 0} (from to : ℕ) (xs : List X) → take from xs ++ slice_range xs from to ++ drop (max from to) xs ≡ xs
cut_in_three from to xs = ap (λ n. take from xs ++ slice_range xs from to ++ drop n xs) (max_is from to) ∙ cut_from from (to - from) xs

pub map_turned : {X Y : Type 0} (v : X → Y) (f : X → X) (h : Y → Y) (xs : List X) → ((x : X) → v (f x) ≡ h (v x)) → map v (map f xs) ≡ map h (map v xs)
map_turned v f h [] same = refl
map_turned v f h (x ∷ xs) same = rw (same x, map_turned v f h xs same) refl

pub slice_seen : {X Y : Type 0} (v : X → Y) (from to : ℕ) (xs : List X) → map v (slice_range xs from to) ≡ slice_range (map v xs) from to
slice_seen v from to xs = sym (take-map v (to - from) (drop from xs)) ∙ ap (take (to - from)) (sym (drop-map v from xs))

-- what is seen of each element stays
pub within_kept : {X Y : Type 0} (v : X → Y) (f : X → X) (from to : ℕ) (xs : List X) → ((x : X) → v (f x) ≡ v x) → map v (with_range_changed f from to xs) ≡ map v xs
within_kept v f from to xs same =
    let range = slice_range xs from to in
    map-append v (take from xs ++ map f range) (drop (max from to) xs) ∙ ap (λ ys. ys ++ map v (drop (max from to) xs)) (map-append v (take from xs) (map f range) ∙ ap (λ ys. map v (take from xs) ++ ys) (map_kept v f range same) ∙ sym (map-append v (take from xs) range))
    ∙ sym (map-append v (take from xs ++ range) (drop (max from to) xs)) ∙ ap (map v) (cut_in_three from to xs)

-- what is seen changes alike
pub within_seen : {X Y : Type 0} (v : X → Y) (f : X → X) (h : Y → Y) (from to : ℕ) (xs : List X) → ((x : X) → v (f x) ≡ h (v x)) → map v (with_range_changed f from to xs) ≡ with_range_changed h from to (map v xs)
within_seen v f h from to xs same =
    let range = slice_range xs from to in
    map-append v (take from xs ++ map f range) (drop (max from to) xs) ∙ ap (λ ys. ys ++ map v (drop (max from to) xs)) (map-append v (take from xs) (map f range) ∙ ap (λ ys. map v (take from xs) ++ ys) (map_turned v f h range same ∙ ap (map h) (slice_seen v from to xs)))
    ∙ ap (λ ys. ys ++ map h (slice_range (map v xs) from to) ++ map v (drop (max from to) xs)) (sym (take-map v from xs)) ∙ ap (λ ys. take from (map v xs) ++ map h (slice_range (map v xs) from to) ++ ys) (sym (drop-map v (max from to) xs))

-- ---- the clusters of origins

pub number_cast : (c flags : ℕ) (o : Origin) → (cast c flags o).cluster ≡ c
number_cast c flags o = by_test (o.cluster == c) refl
  where
    by_test : (t : Bool) → (o.cluster == c) ≡ t → (if t then o else record { cluster = c; flags = flags }).cluster ≡ c
    by_test true e = grind (arith, common_steps, e)
    by_test false e = refl

pub number_outside : (bits low : ℕ) (o : Origin) → (added_outside bits low o).cluster ≡ o.cluster
number_outside bits low o = elim (o.cluster == low) as (λ t. (if t then o else flags_added bits o).cluster ≡ o.cluster) [ true ↦ refl | false ↦ refl ]

pub numbers_merged : (range : List ℕ) (os : List Origin) → numbers (origins_merged range os) ≡ merged_numbers range (numbers os)
numbers_merged range os = map_turned (λ (o : Origin). o.cluster) (λ (o : Origin). cast (merged_number range o.cluster) 0 o) (merged_number range) os (λ o. number_cast (merged_number range o.cluster) 0 o)

pub numbers_marked : (bits from to : ℕ) (os : List Origin) → numbers (origins_marked bits from to os) ≡ numbers os
numbers_marked bits from to os = within_kept (λ (o : Origin). o.cluster) (added_outside bits (least_number (range_of from to (numbers os)))) from to os (λ o. number_outside bits (least_number (range_of from to (numbers os))) o)

pub numbers_flagged : (bits from to : ℕ) (os : List Origin) → numbers (origins_flagged bits from to os) ≡ numbers os
numbers_flagged bits from to os = within_kept (λ (o : Origin). o.cluster) (flags_added bits) from to os (λ o. refl)

pub numbers_merged_by : (m : Manner) (from to : ℕ) (os : List Origin) → numbers (origins_merged_as m from to os) ≡ numbers_merged_as m from to (numbers os)
numbers_merged_by Unites from to os = numbers_merged (range_of from to (numbers os)) os
numbers_merged_by Marks from to os = numbers_marked 3 from to os
numbers_merged_by Keeps from to os = refl

pub numbers_listed : (level : BufferClusterLevel) (from to : ℕ) (os : List Origin) → numbers (origins_merged_as (manner InList level) from to os) ≡ numbers_merged_at level from to (numbers os)
numbers_listed level from to os = numbers_merged_by (manner InList level) from to os

all_of_cluster : (p : ℕ) (os : List Origin) → list_all (λ (k : Origin). k.cluster == p) os ≡ list_all (λ k. k == p) (numbers os)
all_of_cluster p [] = refl
all_of_cluster p (o ∷ os) = ap (λ b. (o.cluster == p) && b) (all_of_cluster p os)

numbers_alike : (c flags : ℕ) (os : List Origin) → numbers (map (cast c flags) os) ≡ map (λ (k : ℕ). c) (numbers os)
numbers_alike c flags os = map_turned (λ (o : Origin). o.cluster) (cast c flags) (λ k. c) os (number_cast c flags)

numbers_end : (p : ℕ) (o : Origin) (qs : List Origin) → numbers (end_cast p o qs) ≡ end_renumbered p o.cluster (numbers qs)
numbers_end p o [] = refl
numbers_end p o (q ∷ qs) = rw (← all_of_cluster p (q ∷ qs)) (by_test (list_all (λ (k : Origin). k.cluster == p) (q ∷ qs)) (numbers_end p o qs))
  where
    by_test : (t : Bool) → numbers (end_cast p o qs) ≡ end_renumbered p o.cluster (numbers qs)
        → numbers (if t then map (cast o.cluster o.flags) (q ∷ qs) else q ∷ end_cast p o qs) ≡ (if t then map (λ (k : ℕ). o.cluster) (numbers (q ∷ qs)) else q.cluster ∷ end_renumbered p o.cluster (numbers qs))
    by_test true later = numbers_alike o.cluster o.flags (q ∷ qs)
    by_test false later = ap (λ ns. q.cluster ∷ ns) later

numbers_alone : (level : BufferClusterLevel) (before : Option ℕ) (front : List Origin) (o : Origin) (back : List Origin) → numbers (alone_deleted level before front o back) ≡ numbers_deleted_alone level before (numbers front) o.cluster (numbers back)
numbers_alone level (Some p) front o back = by_test (nat_lt o.cluster p)
  where
    by_test : (t : Bool) → numbers ((if t then end_cast p o front else front) ++ back) ≡ (if t then end_renumbered p o.cluster (numbers front) else numbers front) ++ numbers back
    by_test true = map-append (λ (q : Origin). q.cluster) (end_cast p o front) back ∙ ap (λ ns. ns ++ numbers back) (numbers_end p o front)
    by_test false = map-append (λ (q : Origin). q.cluster) front back
numbers_alone level None front o back =
    map-append (λ (q : Origin). q.cluster) front (drop 1 (origins_merged_as (manner InList level) 0 2 (o ∷ back)))
    ∙ ap (λ ns. numbers front ++ ns) (sym (drop-map (λ (q : Origin). q.cluster) 1 (origins_merged_as (manner InList level) 0 2 (o ∷ back))) ∙ ap (drop 1) (numbers_listed level 0 2 (o ∷ back)))

pub numbers_deleted : (level : BufferClusterLevel) (front : List Origin) (o : Origin) (back : List Origin) → numbers (one_deleted level front o back) ≡ number_deleted level (numbers front) o.cluster (numbers back)
numbers_deleted level front o back = by_test (is_number (last_of (numbers front)) o.cluster || is_number (first_of (numbers back)) o.cluster)
  where
    by_test : (t : Bool) → numbers (if t then front ++ back else alone_deleted level (last_of (numbers front)) front o back) ≡ (if t then numbers front ++ numbers back else numbers_deleted_alone level (last_of (numbers front)) (numbers front) o.cluster (numbers back))
    by_test true = map-append (λ (q : Origin). q.cluster) front back
    by_test false = numbers_alone level (last_of (numbers front)) front o back

-- ---- the origins of glyphs

pub numbers_origins : (gs : List hb_glyph_info_t) → numbers (origins gs) ≡ clusters gs
numbers_origins [] = refl
numbers_origins (g ∷ gs) = ap (λ ns. g.cluster ∷ ns) (numbers_origins gs)

origin_in_cluster : (c : ℕ) (g : hb_glyph_info_t) → origin_of (in_cluster c g) ≡ cast c 0 (origin_of g)
origin_in_cluster c g = rw (cluster_in_cluster c g, flags_in_cluster c g) (by_test (g.cluster == c) refl)
  where
    by_test : (t : Bool) → (g.cluster == c) ≡ t → record { cluster = c; flags = (if t then glyph_flags g else 0) } ≡ (if t then origin_of g else record { cluster = c; flags = 0 })
    by_test true e = let same : g.cluster ≡ c = grind (arith, common_steps, e) in ap (λ n. record { cluster = n; flags = glyph_flags g }) (sym same)
    by_test false e = refl

pub origins_of_merged : (range : List ℕ) (gs : List hb_glyph_info_t) → origins (glyphs_merged range gs) ≡ origins_merged range (origins gs)
origins_of_merged range gs = map_turned origin_of (λ (g : hb_glyph_info_t). in_cluster (merged_number range g.cluster) g) (λ (o : Origin). cast (merged_number range o.cluster) 0 o) gs (λ g. origin_in_cluster (merged_number range g.cluster) g)

origin_marked : (bits low : ℕ) (g : hb_glyph_info_t) → bits < 8 → origin_of (marked_outside bits low g) ≡ added_outside bits low (origin_of g)
origin_marked bits low g lt = by_test (g.cluster == low)
  where
    by_test : (t : Bool) → origin_of (if t then g else glyph_flagged bits g) ≡ (if t then origin_of g else flags_added bits (origin_of g))
    by_test true = refl
    by_test false = ap (λ f. record { cluster = g.cluster; flags = f }) (flags_set g.mask bits lt)

pub origins_of_marked : (bits from to : ℕ) (gs : List hb_glyph_info_t) → bits < 8 → from ≤ to → origins (glyphs_marked bits from to gs) ≡ origins_marked bits from to (origins gs)
origins_of_marked bits from to gs lt le =
    let low = least_number (range_of from to (clusters gs)) in
    let last : drop to gs ≡ drop (max from to) gs = ap (λ n. drop n gs) (sym (after_both from to le)) in
    ap (λ ys. origins (take from gs ++ map (marked_outside bits low) (slice_range gs from to) ++ ys)) last
    ∙ within_seen origin_of (marked_outside bits low) (added_outside bits low) from to gs (λ g. origin_marked bits low g lt)
    ∙ ap (λ ns. with_range_changed (added_outside bits (least_number (range_of from to ns))) from to (origins gs)) (sym (numbers_origins gs))

pub origins_of_flagged : (bits from to : ℕ) (gs : List hb_glyph_info_t) → bits < 8 → from ≤ to → origins (glyphs_flagged bits from to gs) ≡ origins_flagged bits from to (origins gs)
origins_of_flagged bits from to gs lt le =
    let last : drop to gs ≡ drop (max from to) gs = ap (λ n. drop n gs) (sym (after_both from to le)) in
    ap (λ ys. origins (take from gs ++ map (glyph_flagged bits) (slice_range gs from to) ++ ys)) last
    ∙ within_seen origin_of (glyph_flagged bits) (flags_added bits) from to gs (λ g. ap (λ f. record { cluster = g.cluster; flags = f }) (flags_set g.mask bits lt))

merged_over : (from to : ℕ) (gs : List hb_glyph_info_t) → origins (glyphs_merged (range_of from to (clusters gs)) gs) ≡ origins_merged (range_of from to (numbers (origins gs))) (origins gs)
merged_over from to gs = origins_of_merged (range_of from to (clusters gs)) gs ∙ ap (λ ns. origins_merged (range_of from to ns) (origins gs)) (sym (numbers_origins gs))

pub origins_of_merged_as : (m : Manner) (from to : ℕ) (gs : List hb_glyph_info_t) → from ≤ to → origins (glyphs_merged_as m from to gs) ≡ origins_merged_as m from to (origins gs)
origins_of_merged_as Unites from to gs le = merged_over from to gs
origins_of_merged_as Marks from to gs le = origins_of_marked 3 from to gs (omega arith) le
origins_of_merged_as Keeps from to gs le = refl

pub origins_of_merged_at : (level : BufferClusterLevel) (from to : ℕ) (gs : List hb_glyph_info_t) → from ≤ to → origins (glyphs_merged_at level from to gs) ≡ origins_merged_as (manner InList level) from to (origins gs)
origins_of_merged_at level from to gs le = origins_of_merged_as (manner InList level) from to gs le

pub origins_of_replaced : (at taken : ℕ) (ns : List ℕ) (gs : List hb_glyph_info_t) → origins (glyphs_replaced at taken ns gs) ≡ elements_replaced at taken (length ns) (origins gs)
origins_of_replaced at taken ns gs = replaced_seen origin_of glyph_numbered (λ o n. o) at taken ns gs (λ g n. refl) ∙ replaced_alike at taken ns (origins gs)

-- some events, and then others
pub origins_after_both : (asks : Asks) (level : BufferClusterLevel) (es fs : List Event) (os : List Origin) → origins_after asks level (es ++ fs) os ≡ origins_after asks level fs (origins_after asks level es os)
origins_after_both asks level es fs os = fold-append (origins_after_event asks level) os es fs
