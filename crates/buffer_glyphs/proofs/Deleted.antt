-- The clusters and items that a deletion leaves.
use Rattle.std.proofs.Common.{ℕ, ◌≡◌, ◌+◌, ◌-◌, ◌==◌, ◌||◌, nat_lt, ◌&&◌, Bool, true, false, if◌then◌else◌, List, [], ◌∷◌, ◌++◌, Option, Some, None, length, map, drop, arith, refl, ap, sym, ◌∙◌}
use Rattle.std.specs.List.{list_all}
use Rattle.std.specs.Int.RustNames.{bit_and}
use Rattle.std.proofs.lemmas.Grind.{common_steps}
use Rattle.std.proofs.lemmas.Nat.{and_mask}
use Rattle.std.proofs.lemmas.List.{drop-map, length-map}
use Rattle.buffer_glyphs.specs.declared.info.hb_glyph_info_t.{hb_glyph_info_t as Glyph}
use Rattle.buffer_glyphs.specs.declared.level.BufferClusterLevel.{BufferClusterLevel}
use Rattle.buffer_glyphs.specs.Items.{item_of, strip, clusters, without_flags}
use Rattle.buffer_glyphs.specs.Parts.{first_of, last_of, is_number}
use Rattle.buffer_glyphs.specs.Glyphs.{glyphs_merged_at}
use Rattle.buffer_glyphs.specs.Deletions.{end_renumbered, numbers_deleted_alone, number_deleted}
use Rattle.buffer_glyphs.specs.Lemmas.Glyphs.{clusters_merged_at, strip_merged_at}
use Rattle.buffer_glyphs.specs.Deleting.{recast, end_recast_from, end_recast_if, end_recast, glyphs_deleted_alone, glyphs_deleted}

pub recast_cluster : (c mask : ℕ) (h : Glyph) → (recast c mask h).cluster ≡ c
recast_cluster c mask h = by_test (h.cluster == c) refl
  where
    by_test : (t : Bool) → (h.cluster == c) ≡ t → (if t then h else record h { cluster = c; mask = without_flags h.mask + bit_and mask 7 }).cluster ≡ c
    by_test true e = grind (arith, common_steps, e)
    by_test false e = refl

pub flags_put : (m n : ℕ) → without_flags (without_flags m + bit_and n 7) ≡ without_flags m
flags_put m n =
    let low = and_mask m 3 in
    let put = and_mask n 3 in
    let both = and_mask (m - bit_and m 7 + bit_and n 7) 3 in
    omega (arith, low, put, both)

pub recast_item : (c mask : ℕ) (h : Glyph) → item_of (recast c mask h) ≡ item_of h
recast_item c mask h =
    elim (h.cluster == c) as (λ t. item_of (if t then h else record h { cluster = c; mask = without_flags h.mask + bit_and mask 7 }) ≡ item_of h)
    [ true ↦ refl | false ↦ rw (flags_put h.mask mask) refl ]

recast_clusters : (c mask : ℕ) (gs : List Glyph) → clusters (map (recast c mask) gs) ≡ map (λ (n : ℕ). c) (clusters gs)
recast_clusters c mask [] = refl
recast_clusters c mask (g ∷ gs) = rw (recast_cluster c mask g, recast_clusters c mask gs) refl

recast_items : (c mask : ℕ) (gs : List Glyph) → strip (map (recast c mask) gs) ≡ strip gs
recast_items c mask [] = refl
recast_items c mask (g ∷ gs) = rw (recast_item c mask g, recast_items c mask gs) refl

pub all_of : (p : ℕ) (gs : List Glyph) → list_all (λ (k : Glyph). k.cluster == p) gs ≡ list_all (λ k. k == p) (clusters gs)
all_of p [] = refl
all_of p (g ∷ gs) = ap (λ t. (g.cluster == p) && t) (all_of p gs)

end_clusters_from : (p : ℕ) (g : Glyph) (gs : List Glyph) → clusters (end_recast_from p g gs) ≡ end_renumbered p g.cluster (clusters gs)
end_clusters_from p g [] = refl
end_clusters_from p g (h ∷ hs) = by_test (list_all (λ k. k == p) (clusters (h ∷ hs))) (all_of p (h ∷ hs)) (end_clusters_from p g hs)
  where
    by_test : (t : Bool) → list_all (λ (k : Glyph). k.cluster == p) (h ∷ hs) ≡ t → clusters (end_recast_from p g hs) ≡ end_renumbered p g.cluster (clusters hs)
        → clusters (if list_all (λ (k : Glyph). k.cluster == p) (h ∷ hs) then map (recast g.cluster g.mask) (h ∷ hs) else h ∷ end_recast_from p g hs)
        ≡ (if t then map (λ (n : ℕ). g.cluster) (clusters (h ∷ hs)) else h.cluster ∷ end_renumbered p g.cluster (clusters hs))
    by_test true e rest = rw e (recast_clusters g.cluster g.mask (h ∷ hs))
    by_test false e rest = rw e (ap (λ ns. h.cluster ∷ ns) rest)

end_items_from : (p : ℕ) (g : Glyph) (gs : List Glyph) → strip (end_recast_from p g gs) ≡ strip gs
end_items_from p g [] = refl
end_items_from p g (h ∷ hs) = elim (list_all (λ (k : Glyph). k.cluster == p) (h ∷ hs)) as (λ t. strip (if t then map (recast g.cluster g.mask) (h ∷ hs) else h ∷ end_recast_from p g hs) ≡ strip (h ∷ hs)) [
  | true ↦ recast_items g.cluster g.mask (h ∷ hs)
  | false ↦ ap (λ xs. item_of h ∷ xs) (end_items_from p g hs)
]

-- the last run with another number is so in cluster numbers
pub end_clusters : (p : ℕ) (g : Glyph) (gs : List Glyph) → last_of (clusters gs) ≡ Some p → clusters (end_recast g gs) ≡ end_renumbered p g.cluster (clusters gs)
end_clusters p g gs e = rw e (end_clusters_from p g gs)

pub end_items : (g : Glyph) (gs : List Glyph) → strip (end_recast g gs) ≡ strip gs
end_items g gs = elim (last_of (clusters gs)) as (λ o. strip (end_recast_if o g gs) ≡ strip gs) [ None ↦ refl | Some p ↦ end_items_from p g gs ]

-- a renumbering of the last run keeps the number of glyphs
pub end_length : (g : Glyph) (gs : List Glyph) → length (end_recast g gs) ≡ length gs
end_length g gs = sym (length-map (end_recast g gs) item_of) ∙ ap length (end_items g gs) ∙ length-map gs item_of

alone_clusters : (level : BufferClusterLevel) (before : Option ℕ) (front : List Glyph) (g : Glyph) (back : List Glyph) → last_of (clusters front) ≡ before
    → clusters (glyphs_deleted_alone level before front g back).front ++ clusters (glyphs_deleted_alone level before front g back).back ≡ numbers_deleted_alone level before (clusters front) g.cluster (clusters back)
alone_clusters level (Some p) front g back e =
    ap (λ ns. ns ++ clusters back) (elim (nat_lt g.cluster p) as (λ t. clusters (if t then end_recast g front else front) ≡ (if t then end_renumbered p g.cluster (clusters front) else clusters front)) [ true ↦ end_clusters p g front e | false ↦ refl ])
alone_clusters level None front g back e =
    let f : Glyph → ℕ = λ h. h.cluster in
    ap (λ ns. clusters front ++ ns) (sym (drop-map f 1 (glyphs_merged_at level 0 2 (g ∷ back))) ∙ ap (drop 1) (clusters_merged_at level 0 2 (g ∷ back) (omega arith)))

-- the clusters that a deletion leaves are those of a deletion from cluster numbers
pub clusters_deleted : (level : BufferClusterLevel) (front : List Glyph) (g : Glyph) (back : List Glyph)
    → clusters (glyphs_deleted level front g back).front ++ clusters (glyphs_deleted level front g back).back ≡ number_deleted level (clusters front) g.cluster (clusters back)
clusters_deleted level front g back =
    elim (is_number (last_of (clusters front)) g.cluster || is_number (first_of (clusters back)) g.cluster)
    as (λ t. clusters (if t then record { front = front; back = back } else glyphs_deleted_alone level (last_of (clusters front)) front g back).front ++ clusters (if t then record { front = front; back = back } else glyphs_deleted_alone level (last_of (clusters front)) front g back).back
    ≡ (if t then clusters front ++ clusters back else numbers_deleted_alone level (last_of (clusters front)) (clusters front) g.cluster (clusters back)))
    [ true ↦ refl | false ↦ alone_clusters level (last_of (clusters front)) front g back refl ]

alone_items : (level : BufferClusterLevel) (before : Option ℕ) (front : List Glyph) (g : Glyph) (back : List Glyph)
    → (strip (glyphs_deleted_alone level before front g back).front ≡ strip front) × (strip (glyphs_deleted_alone level before front g back).back ≡ strip back)
alone_items level (Some p) front g back =
    (elim (nat_lt g.cluster p) as (λ t. strip (if t then end_recast g front else front) ≡ strip front) [ true ↦ end_items g front | false ↦ refl ], refl)
alone_items level None front g back =
    (refl, sym (drop-map item_of 1 (glyphs_merged_at level 0 2 (g ∷ back))) ∙ ap (drop 1) (strip_merged_at level 0 2 (g ∷ back) (omega arith)))

-- all other items stay
pub items_deleted : (level : BufferClusterLevel) (front : List Glyph) (g : Glyph) (back : List Glyph)
    → (strip (glyphs_deleted level front g back).front ≡ strip front) × (strip (glyphs_deleted level front g back).back ≡ strip back)
items_deleted level front g back =
    elim (is_number (last_of (clusters front)) g.cluster || is_number (first_of (clusters back)) g.cluster)
    as (λ t. (strip (if t then record { front = front; back = back } else glyphs_deleted_alone level (last_of (clusters front)) front g back).front ≡ strip front) × (strip (if t then record { front = front; back = back } else glyphs_deleted_alone level (last_of (clusters front)) front g back).back ≡ strip back))
    [ true ↦ (refl, refl) | false ↦ alone_items level (last_of (clusters front)) front g back ]
