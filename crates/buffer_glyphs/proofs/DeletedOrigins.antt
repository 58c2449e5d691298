-- The origins of the glyphs that a deletion leaves.
use Rattle.std.proofs.Common.{ℕ, ◌≡◌, ◌+◌, ◌-◌, ◌==◌, ◌&&◌, ◌||◌, nat_lt, Bool, true, false, if◌then◌else◌, List, [], ◌∷◌, ◌++◌, Option, Some, None, length, map, take, drop, arith, refl, ap, sym, ◌∙◌}
use Rattle.std.specs.Prelude.{bit_and}
use Rattle.std.specs.List.{list_all}
use Rattle.std.proofs.lemmas.Nat.{and_mask}
use Rattle.std.proofs.lemmas.List.{map-append, drop-map, length-map}
use Rattle.std.proofs.Math.Seq.{take-append_seam, drop-append_seam}
use Rattle.buffer_glyphs.specs.declared.info.hb_glyph_info_t.{hb_glyph_info_t as Glyph}
use Rattle.buffer_glyphs.specs.declared.level.BufferClusterLevel.{BufferClusterLevel as Level}
use Rattle.buffer_glyphs.specs.Items.{clusters, without_flags, glyph_flags}
use Rattle.buffer_glyphs.specs.Parts.{first_of, last_of, is_number}
use Rattle.buffer_glyphs.specs.Glyphs.{glyphs_merged_at}
use Rattle.buffer_glyphs.specs.Origins.{Origin, origin_of, origins, cast, end_cast, alone_deleted, one_deleted, first_deleted, origins_deleted}
use Rattle.buffer_glyphs.specs.Lemmas.Origins.{numbers_origins, origins_of_merged_at}
use Rattle.buffer_glyphs.specs.Deleting.{DeletionSides, recast, end_recast_from, end_recast, glyphs_deleted_alone, glyphs_deleted}

pub flags_taken : (m n : ℕ) → bit_and (without_flags m + bit_and n 7) 7 ≡ bit_and n 7
flags_taken m n =
    let low = and_mask m 3 in
    let put = and_mask n 3 in
    let both = and_mask (m - bit_and m 7 + bit_and n 7) 3 in
    omega (arith, low, put, both)

origin_recast : (c mask : ℕ) (h : Glyph) → origin_of (recast c mask h) ≡ cast c (bit_and mask 7) (origin_of h)
origin_recast c mask h =
    elim (h.cluster == c) as (λ t. origin_of (if t then h else record h { cluster = c; mask = without_flags h.mask + bit_and mask 7 }) ≡ (if t then origin_of h else record { cluster = c; flags = bit_and mask 7 }))
    [ true ↦ refl | false ↦ ap (λ f. record { cluster = c; flags = f }) (flags_taken h.mask mask) ]

all_recast : (c mask : ℕ) (hs : List Glyph) → origins (map (recast c mask) hs) ≡ map (cast c (bit_and mask 7)) (origins hs)
all_recast c mask [] = refl
all_recast c mask (h ∷ hs) = rw (origin_recast c mask h, all_recast c mask hs) refl

all_of : (p : ℕ) (hs : List Glyph) → list_all (λ (k : Glyph). k.cluster == p) hs ≡ list_all (λ (k : Origin). k.cluster == p) (origins hs)
all_of p [] = refl
all_of p (h ∷ hs) = ap (λ b. (h.cluster == p) && b) (all_of p hs)

end_origins : (p : ℕ) (g : Glyph) (hs : List Glyph) → origins (end_recast_from p g hs) ≡ end_cast p (origin_of g) (origins hs)
end_origins p g [] = refl
end_origins p g (h ∷ hs) = rw (← all_of p (h ∷ hs)) (by_test (list_all (λ (k : Glyph). k.cluster == p) (h ∷ hs)) (end_origins p g hs))
  where
    by_test : (t : Bool) → origins (end_recast_from p g hs) ≡ end_cast p (origin_of g) (origins hs)
        → origins (if t then map (recast g.cluster g.mask) (h ∷ hs) else h ∷ end_recast_from p g hs) ≡ (if t then map (cast g.cluster (glyph_flags g)) (origins (h ∷ hs)) else origin_of h ∷ end_cast p (origin_of g) (origins hs))
    by_test true rest = all_recast g.cluster g.mask (h ∷ hs)
    by_test false rest = ap (λ os. origin_of h ∷ os) rest

-- all glyphs that are left
abbrev pub together : DeletionSides → List Glyph
together l = l.front ++ l.back

alone_origins : (level : Level) (before : Option ℕ) (front : List Glyph) (g : Glyph) (back : List Glyph) → last_of (clusters front) ≡ before
    → origins (together (glyphs_deleted_alone level before front g back)) ≡ alone_deleted level before (origins front) (origin_of g) (origins back)
alone_origins level (Some p) front g back e =
    elim (nat_lt g.cluster p) as (λ t. origins ((if t then end_recast g front else front) ++ back) ≡ (if t then end_cast p (origin_of g) (origins front) else origins front) ++ origins back)
    [ true ↦ map-append origin_of (end_recast g front) back ∙ ap (λ os. os ++ origins back) (rw e (end_origins p g front)) | false ↦ map-append origin_of front back ]
alone_origins level None front g back e =
    map-append origin_of front (drop 1 (glyphs_merged_at level 0 2 (g ∷ back)))
    ∙ ap (λ os. origins front ++ os) (sym (drop-map origin_of 1 (glyphs_merged_at level 0 2 (g ∷ back))) ∙ ap (drop 1) (origins_of_merged_at level 0 2 (g ∷ back) (omega arith)))

-- the glyphs left before and after a deleted one have the origins that a deletion leaves
pub one_origins : (level : Level) (front : List Glyph) (g : Glyph) (back : List Glyph) → origins (together (glyphs_deleted level front g back)) ≡ one_deleted level (origins front) (origin_of g) (origins back)
one_origins level front g back = rw (numbers_origins front, numbers_origins back) (by_test (is_number (last_of (clusters front)) g.cluster || is_number (first_of (clusters back)) g.cluster))
  where
    by_test : (t : Bool) → origins (together (if t then record { front = front; back = back } else glyphs_deleted_alone level (last_of (clusters front)) front g back))
        ≡ (if t then origins front ++ origins back else alone_deleted level (last_of (clusters front)) (origins front) (origin_of g) (origins back))
    by_test true = map-append origin_of front back
    by_test false = alone_origins level (last_of (clusters front)) front g back refl

-- the deletion of the first glyph after others is that at the index of their number
pub deletion_after_front : (level : Level) (front : List Glyph) (g : Glyph) (back : List Glyph) → origins (together (glyphs_deleted level front g back)) ≡ origins_deleted level (length front) (origins (front ++ g ∷ back))
deletion_after_front level front g back =
    let all = origins (front ++ g ∷ back) in
    let cut : all ≡ origins front ++ origins (g ∷ back) = map-append origin_of front (g ∷ back) in
    let long : length front ≡ length (origins front) = sym (length-map front origin_of) in
    let before : take (length front) all ≡ origins front = ap (take (length front)) cut ∙ ap (λ n. take n (origins front ++ origins (g ∷ back))) long ∙ take-append_seam (origins front) (origins (g ∷ back)) in
    let behind : drop (length front) all ≡ origins (g ∷ back) = ap (drop (length front)) cut ∙ ap (λ n. drop n (origins front ++ origins (g ∷ back))) long ∙ drop-append_seam (origins front) (origins (g ∷ back)) in
    one_origins level front g back ∙ ap (λ os. first_deleted level os (origins (g ∷ back))) (sym before) ∙ ap (first_deleted level (take (length front) all)) (sym behind)
