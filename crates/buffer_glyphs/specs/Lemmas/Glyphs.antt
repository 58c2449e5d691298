-- Merges and glyph flags of glyphs, by items, clusters and flags.
use Rattle.std.proofs.Common.{ℕ, ◌≡◌, ◌≤◌, ◌<◌, ◌+◌, ◌-◌, ◌==◌, ◌%◌, ◌/◌, Bool, true, false, if◌then◌else◌, List, [], ◌∷◌, ◌++◌, length, map, take, drop, arith, refl, ap, sym, ◌∙◌, append_assoc}
use Rattle.std.specs.Prelude.{slice_range, bit_and}
use Rattle.std.specs.Int.RustNames.{bit_or}
use Rattle.std.proofs.lemmas.Grind.{common_steps}
use Rattle.std.proofs.lemmas.Nat.{and_mask, or_mod, or_shr}
use Rattle.std.specs.Int.Bits.{or_zero_r}
use Rattle.std.proofs.lemmas.List.{map-append, take-map, drop-map, drop-drop, take-append-drop, length-map}
use Rattle.std.proofs.Math.Seq.{take-append-add, drop-append-add}
use Rattle.buffer_glyphs.specs.declared.info.hb_glyph_info_t.{hb_glyph_info_t}
use Rattle.buffer_glyphs.specs.declared.level.BufferClusterLevel.{BufferClusterLevel}
use Rattle.buffer_glyphs.specs.Levels.{InList, Manner, Unites, Marks, Keeps, manner}
use Rattle.buffer_glyphs.specs.Items.{item_of, strip, clusters, without_flags, glyph_flags}
use Rattle.buffer_glyphs.specs.Parts.{range_of}
use Rattle.buffer_glyphs.specs.Merges.{least_number, merged_number, merged_numbers, numbers_merged_as, numbers_merged_at}
use Rattle.buffer_glyphs.specs.Glyphs.{in_cluster, glyphs_merged, marked_outside, glyphs_marked, glyphs_merged_as, glyphs_merged_at, beside_merged, beside_merged_as, glyph_flagged, glyphs_flagged}

-- clearing the three flags again changes nothing
pub without_flags_again : (m : ℕ) → without_flags (without_flags m) ≡ without_flags m
without_flags_again m =
    let low = and_mask m 3 in
    let none = and_mask (m - bit_and m 7) 3 in
    omega (arith, low, none)

pub no_flags : (m : ℕ) → bit_and (without_flags m) 7 ≡ 0
no_flags m =
    let low = and_mask m 3 in
    let none = and_mask (m - bit_and m 7) 3 in
    omega (arith, low, none)

-- flags that are set leave the rest of a mask
pub without_flags_set : (m bits : ℕ) → bits < 8 → without_flags (bit_or m bits) ≡ without_flags m
without_flags_set m bits lt =
    let low = and_mask m 3 in
    let set = and_mask (bit_or m bits) 3 in
    let none : bits / 8 ≡ 0 = omega arith in
    let high : bit_or m bits / 8 ≡ m / 8 = or_shr m bits 3 ∙ ap (bit_or (m / 8)) none ∙ or_zero_r (m / 8) in
    omega (arith, low, set, high)

pub flags_set : (m bits : ℕ) → bits < 8 → bit_and (bit_or m bits) 7 ≡ bit_or (bit_and m 7) bits
flags_set m bits lt =
    let low = and_mask m 3 in
    let set = and_mask (bit_or m bits) 3 in
    let same : bits % 8 ≡ bits = omega arith in
    set ∙ or_mod m bits 3 ∙ ap (bit_or (m % 8)) same ∙ ap (λ n. bit_or n bits) (sym low)

-- a glyph in another cluster is the same item
pub item_in_cluster : (c : ℕ) (g : hb_glyph_info_t) → item_of (in_cluster c g) ≡ item_of g
item_in_cluster c g =
    elim (g.cluster == c) as (λ t. item_of (if t then g else record g { cluster = c; mask = without_flags g.mask }) ≡ item_of g)
    [ true ↦ refl | false ↦ rw (without_flags_again g.mask) refl ]

pub cluster_in_cluster : (c : ℕ) (g : hb_glyph_info_t) → (in_cluster c g).cluster ≡ c
cluster_in_cluster c g = by_test (g.cluster == c) refl
  where
    by_test : (t : Bool) → (g.cluster == c) ≡ t → (if t then g else record g { cluster = c; mask = without_flags g.mask }).cluster ≡ c
    by_test true e = grind (arith, common_steps, e)
    by_test false e = refl

pub flags_in_cluster : (c : ℕ) (g : hb_glyph_info_t) → glyph_flags (in_cluster c g) ≡ (if g.cluster == c then glyph_flags g else 0)
flags_in_cluster c g =
    elim (g.cluster == c) as (λ t. glyph_flags (if t then g else record g { cluster = c; mask = without_flags g.mask }) ≡ (if t then glyph_flags g else 0))
    [ true ↦ refl | false ↦ no_flags g.mask ]

pub strip_merged : (range : List ℕ) (gs : List hb_glyph_info_t) → strip (glyphs_merged range gs) ≡ strip gs
strip_merged range [] = refl
strip_merged range (g ∷ gs) = rw (item_in_cluster (merged_number range g.cluster) g, strip_merged range gs) refl

pub clusters_merged : (range : List ℕ) (gs : List hb_glyph_info_t) → clusters (glyphs_merged range gs) ≡ merged_numbers range (clusters gs)
clusters_merged range [] = refl
clusters_merged range (g ∷ gs) = rw (cluster_in_cluster (merged_number range g.cluster) g, clusters_merged range gs) refl

-- a list is cut in three
pub cut_out : {X : Type 0} (from to : ℕ) (xs : List X) → from ≤ to → take from xs ++ slice_range xs from to ++ drop to xs ≡ xs
cut_out from to xs le =
    let there : from + (to - from) ≡ to = omega arith in
    let beyond : drop (to - from) (drop from xs) ≡ drop to xs = drop-drop (to - from) from xs ∙ ap (λ n. drop n xs) there in
    append_assoc (take from xs) (slice_range xs from to) (drop to xs) ∙ ap (λ ys. take from xs ++ (slice_range xs from to ++ ys)) (sym beyond) ∙ ap (λ ys. take from xs ++ ys) (take-append-drop (to - from) (drop from xs)) ∙ take-append-drop from xs

pub item_marked : (bits low : ℕ) (g : hb_glyph_info_t) → bits < 8 → item_of (marked_outside bits low g) ≡ item_of g
item_marked bits low g lt =
    elim (g.cluster == low) as (λ t. item_of (if t then g else record g { mask = bit_or g.mask bits }) ≡ item_of g)
    [ true ↦ refl | false ↦ rw (without_flags_set g.mask bits lt) refl ]

pub cluster_marked : (bits low : ℕ) (g : hb_glyph_info_t) → (marked_outside bits low g).cluster ≡ g.cluster
cluster_marked bits low g = elim (g.cluster == low) as (λ t. (if t then g else record g { mask = bit_or g.mask bits }).cluster ≡ g.cluster) [ true ↦ refl | false ↦ refl ]

-- what is seen of each glyph stays, so it stays for all
seen_marked : {Y : Type 0} (v : hb_glyph_info_t → Y) (bits low : ℕ) (gs : List hb_glyph_info_t) → ((g : hb_glyph_info_t) → v (marked_outside bits low g) ≡ v g) → map v (map (marked_outside bits low) gs) ≡ map v gs
seen_marked v bits low [] same = refl
seen_marked v bits low (g ∷ gs) same = rw (same g, seen_marked v bits low gs same) refl

pub stays_marked : {Y : Type 0} (v : hb_glyph_info_t → Y) (bits from to : ℕ) (gs : List hb_glyph_info_t) → from ≤ to → ((low : ℕ) (g : hb_glyph_info_t) → v (marked_outside bits low g) ≡ v g) → map v (glyphs_marked bits from to gs) ≡ map v gs
stays_marked v bits from to gs le same =
    let low = least_number (range_of from to (clusters gs)) in
    let range = slice_range gs from to in
    let kept = seen_marked v bits low range (same low) in
    rw (map-append v (take from gs ++ map (marked_outside bits low) range) (drop to gs), map-append v (take from gs) (map (marked_outside bits low) range), kept, ← map-append v (take from gs) range, ← map-append v (take from gs ++ range) (drop to gs), cut_out from to gs le) refl

-- a merge changes no item
pub strip_merged_as : (m : Manner) (from to : ℕ) (gs : List hb_glyph_info_t) → from ≤ to → strip (glyphs_merged_as m from to gs) ≡ strip gs
strip_merged_as Unites from to gs le = strip_merged (range_of from to (clusters gs)) gs
strip_merged_as Marks from to gs le = stays_marked item_of 3 from to gs le (λ low g. item_marked 3 low g (omega arith))
strip_merged_as Keeps from to gs le = refl

pub strip_merged_at : (level : BufferClusterLevel) (from to : ℕ) (gs : List hb_glyph_info_t) → from ≤ to → strip (glyphs_merged_at level from to gs) ≡ strip gs
strip_merged_at level from to gs le = strip_merged_as (manner InList level) from to gs le

-- its clusters and flags
pub clusters_merged_as : (m : Manner) (from to : ℕ) (gs : List hb_glyph_info_t) → from ≤ to → clusters (glyphs_merged_as m from to gs) ≡ numbers_merged_as m from to (clusters gs)
clusters_merged_as Unites from to gs le = clusters_merged (range_of from to (clusters gs)) gs
clusters_merged_as Marks from to gs le = stays_marked (λ (g : hb_glyph_info_t). g.cluster) 3 from to gs le (λ low g. cluster_marked 3 low g)
clusters_merged_as Keeps from to gs le = refl

pub clusters_merged_at : (level : BufferClusterLevel) (from to : ℕ) (gs : List hb_glyph_info_t) → from ≤ to → clusters (glyphs_merged_at level from to gs) ≡ numbers_merged_at level from to (clusters gs)
clusters_merged_at level from to gs le = clusters_merged_as (manner InList level) from to gs le

-- as many glyphs as before
pub length_merged_at : (level : BufferClusterLevel) (from to : ℕ) (gs : List hb_glyph_info_t) → from ≤ to → length (glyphs_merged_at level from to gs) ≡ length gs
length_merged_at level from to gs le = sym (length-map (glyphs_merged_at level from to gs) item_of) ∙ ap length (strip_merged_at level from to gs le) ∙ length-map gs item_of

pub length_beside_as : (m : Manner) (range : List ℕ) (gs : List hb_glyph_info_t) → length (beside_merged_as m range gs) ≡ length gs
length_beside_as Unites range gs = length-map gs _
length_beside_as Marks range gs = refl
length_beside_as Keeps range gs = refl

pub length_beside : (level : BufferClusterLevel) (range : List ℕ) (gs : List hb_glyph_info_t) → length (beside_merged level range gs) ≡ length gs
length_beside level range gs = length_beside_as (manner InList level) range gs

-- a range of the second of two lists
pub slice_beyond : {X : Type 0} (xs ys : List X) (i j : ℕ) → slice_range (xs ++ ys) (length xs + i) (length xs + j) ≡ slice_range ys i j
slice_beyond xs ys i j =
    let wide : length xs + j - (length xs + i) ≡ j - i = omega arith in
    rw (drop-append-add xs ys i, wide) refl

-- the clusters of a range
pub range_clusters : (xs : List hb_glyph_info_t) (i j : ℕ) → range_of i j (clusters xs) ≡ clusters (slice_range xs i j)
range_clusters xs i j =
    let cluster_of : hb_glyph_info_t → ℕ = λ g. g.cluster in
    ap (take (j - i)) (drop-map cluster_of i xs) ∙ take-map cluster_of (j - i) (drop i xs)

pub range_beyond : (xs ys : List hb_glyph_info_t) (i j : ℕ) → range_of (length xs + i) (length xs + j) (clusters (xs ++ ys)) ≡ range_of i j (clusters ys)
range_beyond xs ys i j =
    let cluster_of : hb_glyph_info_t → ℕ = λ g. g.cluster in
    let cut = slice_beyond (clusters xs) (clusters ys) i j in
    let long : length (clusters xs) ≡ length xs = length-map xs cluster_of in
    rw (map-append cluster_of xs ys) (rw long at cut)

pub marked_beyond : (bits : ℕ) (xs ys : List hb_glyph_info_t) (i j : ℕ) → glyphs_marked bits (length xs + i) (length xs + j) (xs ++ ys) ≡ xs ++ glyphs_marked bits i j ys
marked_beyond bits xs ys i j =
    let low = least_number (range_of i j (clusters ys)) in
    rw (range_beyond xs ys i j, slice_beyond xs ys i j, take-append-add xs ys i, drop-append-add xs ys j)
    (append_assoc (xs ++ take i ys) (map (marked_outside bits low) (slice_range ys i j)) (drop j ys) ∙ append_assoc xs (take i ys) (map (marked_outside bits low) (slice_range ys i j) ++ drop j ys)
    ∙ ap (λ zs. xs ++ zs) (sym (append_assoc (take i ys) (map (marked_outside bits low) (slice_range ys i j)) (drop j ys))))

merged_beyond : (xs ys : List hb_glyph_info_t) (i j : ℕ) → glyphs_merged (range_of (length xs + i) (length xs + j) (clusters (xs ++ ys))) (xs ++ ys) ≡ glyphs_merged (range_of i j (clusters ys)) xs ++ glyphs_merged (range_of i j (clusters ys)) ys
merged_beyond xs ys i j = rw (range_beyond xs ys i j) (map-append (λ (g : hb_glyph_info_t). in_cluster (merged_number (range_of i j (clusters ys)) g.cluster) g) xs ys)

-- a merge of a range of the second of two lists
pub merged_as_beyond : (m : Manner) (xs ys : List hb_glyph_info_t) (i j : ℕ)
    → glyphs_merged_as m (length xs + i) (length xs + j) (xs ++ ys) ≡ beside_merged_as m (range_of i j (clusters ys)) xs ++ glyphs_merged_as m i j ys
merged_as_beyond Unites xs ys i j = merged_beyond xs ys i j
merged_as_beyond Marks xs ys i j = marked_beyond 3 xs ys i j
merged_as_beyond Keeps xs ys i j = refl

pub merged_at_beyond : (level : BufferClusterLevel) (xs ys : List hb_glyph_info_t) (i j : ℕ)
    → glyphs_merged_at level (length xs + i) (length xs + j) (xs ++ ys) ≡ beside_merged level (range_of i j (clusters ys)) xs ++ glyphs_merged_at level i j ys
merged_at_beyond level xs ys i j = merged_as_beyond (manner InList level) xs ys i j

pub strip_marked : (bits from to : ℕ) (gs : List hb_glyph_info_t) → bits < 8 → from ≤ to → strip (glyphs_marked bits from to gs) ≡ strip gs
strip_marked bits from to gs lt le = stays_marked item_of bits from to gs le (λ low g. item_marked bits low g lt)

pub clusters_marked : (bits from to : ℕ) (gs : List hb_glyph_info_t) → from ≤ to → clusters (glyphs_marked bits from to gs) ≡ clusters gs
clusters_marked bits from to gs le = stays_marked (λ (g : hb_glyph_info_t). g.cluster) bits from to gs le (λ low g. cluster_marked bits low g)

seen_flagged : {Y : Type 0} (v : hb_glyph_info_t → Y) (bits : ℕ) (gs : List hb_glyph_info_t) → ((g : hb_glyph_info_t) → v (glyph_flagged bits g) ≡ v g) → map v (map (glyph_flagged bits) gs) ≡ map v gs
seen_flagged v bits [] same = refl
seen_flagged v bits (g ∷ gs) same = rw (same g, seen_flagged v bits gs same) refl

stays_flagged : {Y : Type 0} (v : hb_glyph_info_t → Y) (bits from to : ℕ) (gs : List hb_glyph_info_t) → from ≤ to → ((g : hb_glyph_info_t) → v (glyph_flagged bits g) ≡ v g) → map v (glyphs_flagged bits from to gs) ≡ map v gs
stays_flagged v bits from to gs le same =
    let range = slice_range gs from to in
    let kept = seen_flagged v bits range same in
    rw (map-append v (take from gs ++ map (glyph_flagged bits) range) (drop to gs), map-append v (take from gs) (map (glyph_flagged bits) range), kept, ← map-append v (take from gs) range, ← map-append v (take from gs ++ range) (drop to gs), cut_out from to gs le) refl

pub strip_flagged : (bits from to : ℕ) (gs : List hb_glyph_info_t) → bits < 8 → from ≤ to → strip (glyphs_flagged bits from to gs) ≡ strip gs
strip_flagged bits from to gs lt le = stays_flagged item_of bits from to gs le (λ g. rw (without_flags_set g.mask bits lt) refl)

pub clusters_flagged : (bits from to : ℕ) (gs : List hb_glyph_info_t) → from ≤ to → clusters (glyphs_flagged bits from to gs) ≡ clusters gs
clusters_flagged bits from to gs le = stays_flagged (λ (g : hb_glyph_info_t). g.cluster) bits from to gs le (λ g. refl)

pub flagged_beyond : (bits : ℕ) (xs ys : List hb_glyph_info_t) (i j : ℕ) → glyphs_flagged bits (length xs + i) (length xs + j) (xs ++ ys) ≡ xs ++ glyphs_flagged bits i j ys
flagged_beyond bits xs ys i j =
    rw (slice_beyond xs ys i j, take-append-add xs ys i, drop-append-add xs ys j)
    (append_assoc (xs ++ take i ys) (map (glyph_flagged bits) (slice_range ys i j)) (drop j ys) ∙ append_assoc xs (take i ys) (map (glyph_flagged bits) (slice_range ys i j) ++ drop j ys)
    ∙ ap (λ zs. xs ++ zs) (sym (append_assoc (take i ys) (map (glyph_flagged bits) (slice_range ys i j)) (drop j ys))))

-- a glyph keeps its flags where it is moved to its own cluster, and so do all where nothing merges
pub same_cluster : (g : hb_glyph_info_t) → in_cluster g.cluster g ≡ g
same_cluster g = let yes : (g.cluster == g.cluster) ≡ true = grind (arith, common_steps) in rw yes refl

pub nothing_merged : (gs : List hb_glyph_info_t) → glyphs_merged [] gs ≡ gs
nothing_merged [] = refl
nothing_merged (g ∷ gs) = rw (same_cluster g, nothing_merged gs) refl
