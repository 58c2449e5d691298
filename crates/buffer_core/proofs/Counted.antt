-- Glyphs in clusters from a number on.
use Rattle.std.proofs.Common.{ℕ, zero, suc, ◌≡◌, ◌≤◌, ◌<◌, ◌+◌, min, false, List, [], ◌∷◌, ◌++◌, length, map, take, drop, get_or, set, arith, refl, ap, sym, ◌∙◌}
use Rattle.std.specs.Global.{Vec}
use Rattle.std.proofs.lemmas.List.{take-append-drop, length-take-le}
use Rattle.buffer_glyphs.specs.declared.info.hb_glyph_info_t.{hb_glyph_info_t}
use Rattle.buffer_glyphs.specs.Items.{strip, clusters, glyph_flags}
use Rattle.buffer_glyphs.specs.Order.{AllFrom, IsRising}
use Rattle.buffer_core.specs.declared.buffer.hb_buffer_t.TheInside.{Inside}
use Rattle.buffer_lists.specs.declared.order.ClusterOrder.{ClusterOrder}
use Rattle.buffer_core.specs.Inside.{sides_of}
use Rattle.buffer_core.specs.Sides.{Sides, all_glyphs, items_of, origins_of}
use Rattle.buffer_core.specs.Settings.{glyphs_counted, origins_counted, most_cluster, with_reset_clusters}
use Rattle.buffer_glyphs.specs.Origins.{origins}

-- so many clusters from a number on
abbrev pub counted_from : ℕ → List hb_glyph_info_t → List ℕ
counted_from n [] = []
counted_from n (g ∷ gs) = min n most_cluster ∷ counted_from (n + 1) gs

-- one glyph more is numbered
counted_at : (n i : ℕ) (xs : List hb_glyph_info_t) (d : hb_glyph_info_t) → i < length xs
    → set (glyphs_counted n (take i xs) ++ drop i xs) i (record (get_or (glyphs_counted n (take i xs) ++ drop i xs) i d) { cluster = min (n + i) most_cluster }) ≡ glyphs_counted n (take (suc i) xs) ++ drop (suc i) xs
counted_at n i [] d lt = absurd (omega arith)
counted_at n zero (x ∷ xs) d lt = let none : n + 0 ≡ n = omega arith in rw none refl
counted_at n (suc i) (x ∷ xs) d lt =
    let there : n + suc i ≡ n + 1 + i = omega arith in
    let rest = glyphs_counted (n + 1) (take i xs) ++ drop i xs in
    ap (λ k. record x { cluster = min n most_cluster } ∷ set rest i (record (get_or rest i d) { cluster = min k most_cluster })) there
    ∙ ap (λ ys. record x { cluster = min n most_cluster } ∷ ys) (counted_at (n + 1) i xs d (omega arith))

pub counted_step : (xs ys : List hb_glyph_info_t) (i c : ℕ) (d : hb_glyph_info_t) → i < length xs → ys ≡ glyphs_counted 0 (take i xs) ++ drop i xs → c ≡ min i most_cluster
    → set ys i (record (get_or ys i d) { cluster = c }) ≡ glyphs_counted 0 (take (i + 1) xs) ++ drop (i + 1) xs
counted_step xs ys i c d lt before e =
    let same : 0 + i ≡ i = omega arith in
    let next : i + 1 ≡ suc i = omega arith in
    let done = glyphs_counted 0 (take i xs) ++ drop i xs in
    rw (before, e, next) (ap (λ k. set done i (record (get_or done i d) { cluster = min k most_cluster })) (sym same) ∙ counted_at 0 i xs d lt)

pub next_cluster : (i c : ℕ) → c ≡ min i most_cluster → min (c + 1) most_cluster ≡ min (i + 1) most_cluster
next_cluster i c e = omega arith

-- all glyphs of the closed list were numbered
pub counted_view : (b : Inside) (info : Vec hb_glyph_info_t) (order : ClusterOrder) → b.have_output ≡ false → b.idx ≤ length b.info.items → info.items ≡ glyphs_counted 0 b.info.items
    → sides_of (record b { info = info; order = order }) ≡ with_reset_clusters (sides_of b)
counted_view b info order h le i =
    let long = length-take-le b.idx b.info.items le in
    rw (h, i, long, take-append-drop b.idx b.info.items) refl

seen_counted : {Y : Type 0} (v : hb_glyph_info_t → Y) → ((g : hb_glyph_info_t) (c : ℕ) → v (record g { cluster = c }) ≡ v g) → (n : ℕ) (gs : List hb_glyph_info_t) → map v (glyphs_counted n gs) ≡ map v gs
seen_counted v same n [] = refl
seen_counted v same n (g ∷ gs) = rw (same g (min n most_cluster), seen_counted v same (n + 1) gs) refl

pub clusters_counted : (n : ℕ) (gs : List hb_glyph_info_t) → clusters (glyphs_counted n gs) ≡ counted_from n gs
clusters_counted n [] = refl
clusters_counted n (g ∷ gs) = ap (λ ns. min n most_cluster ∷ ns) (clusters_counted (n + 1) gs)

pub length_counted : (n : ℕ) (gs : List hb_glyph_info_t) → length (glyphs_counted n gs) ≡ length gs
length_counted n [] = refl
length_counted n (g ∷ gs) = rw (length_counted (n + 1) gs) refl

all_counted : (s : Sides) → all_glyphs (with_reset_clusters s) ≡ glyphs_counted 0 (all_glyphs s)
all_counted s = take-append-drop (length s.behind) (glyphs_counted 0 (all_glyphs s))

pub counted_items : (s : Sides) → items_of (with_reset_clusters s) ≡ items_of s
counted_items s = ap strip (all_counted s) ∙ seen_counted _ (λ g c. refl) 0 (all_glyphs s)

counted_each : (n : ℕ) (gs : List hb_glyph_info_t) → origins (glyphs_counted n gs) ≡ origins_counted n (origins gs)
counted_each n [] = refl
counted_each n (g ∷ gs) = ap (λ os. record { cluster = min n most_cluster; flags = glyph_flags g } ∷ os) (counted_each (n + 1) gs)

pub counted_origins : (s : Sides) → origins_of (with_reset_clusters s) ≡ origins_counted 0 (origins_of s)
counted_origins s = ap origins (all_counted s) ∙ counted_each 0 (all_glyphs s)

all_least : (m n : ℕ) (gs : List hb_glyph_info_t) → m ≤ min n most_cluster → AllFrom (λ x y. x ≤ y) m (counted_from n gs)
all_least m n [] le = tt
all_least m n (g ∷ gs) le = (le, all_least m (n + 1) gs (omega arith))

pub counted_rises : (n : ℕ) (gs : List hb_glyph_info_t) → IsRising (counted_from n gs)
counted_rises n [] = tt
counted_rises n (g ∷ gs) = (all_least (min n most_cluster) (n + 1) gs (omega arith), counted_rises (n + 1) gs)
