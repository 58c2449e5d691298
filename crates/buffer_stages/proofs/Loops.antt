-- A loop that writes each glyph.
use Rattle.std.proofs.Common.{ℕ, suc, zero, ◌≡◌, ◌<◌, ◌+◌, List, [], ◌∷◌, ◌++◌, length, map, take, drop, get_or, set, arith, refl, ap, ◌∙◌, ◌≤◌, ◌==◌, ◌&&◌, Bool, true, Some, slice_get}
use Rattle.std.proofs.lemmas.Bool.{and_parts, eqb-true}
use Rattle.std.proofs.lemmas.List.{length-map}
use Rattle.buffer_stages.specs.Stages.{AreMapped}
use Rattle.buffer_glyphs.specs.declared.info.hb_glyph_info_t.{hb_glyph_info_t}
use Rattle.buffer_glyphs.specs.Items.{Item, item_of, strip, clusters}
use Rattle.buffer_glyphs.specs.Origins.{origin_of, origins}
use Rattle.buffer_glyphs.proofs.Lists.{seen_step}

there : (xs : List hb_glyph_info_t) (i : ℕ) (d : hb_glyph_info_t) → i < length xs → slice_get xs i ≡ Some (get_or xs i d)
there [] i d lt = absurd (omega arith)
there (x ∷ xs) zero d lt = refl
there (x ∷ xs) (suc i) d lt = there xs i d (omega arith)

origins_kept : (xs : List hb_glyph_info_t) (i : ℕ) (d x : hb_glyph_info_t) → origin_of x ≡ origin_of (get_or xs i d) → origins (set xs i x) ≡ origins xs
origins_kept [] i d x e = refl
origins_kept (y ∷ xs) zero d x e = ap (λ o. o ∷ origins xs) e
origins_kept (y ∷ xs) (suc i) d x e = ap (λ os. origin_of y ∷ os) (origins_kept xs i d x e)

-- a glyph that keeps its cluster is written
pub clusters_kept : (xs : List hb_glyph_info_t) (i : ℕ) (d x : hb_glyph_info_t) → x.cluster ≡ (get_or xs i d).cluster → clusters (set xs i x) ≡ clusters xs
clusters_kept [] i d x e = refl
clusters_kept (y ∷ xs) zero d x e = ap (λ n. n ∷ clusters xs) e
clusters_kept (y ∷ xs) (suc i) d x e = ap (λ ns. y.cluster ∷ ns) (clusters_kept xs i d x e)

-- the next glyph is written, and whether all kept their clusters so far
pub next_kept : (old xs : List hb_glyph_info_t) (i : ℕ) (d x : hb_glyph_info_t) (kept : Bool) → (kept ≡ true → clusters xs ≡ clusters old)
    → (kept && (x.cluster == (get_or xs i d).cluster)) ≡ true → clusters (set xs i x) ≡ clusters old
next_kept old xs i d x kept w e =
    let both = and_parts kept (x.cluster == (get_or xs i d).cluster) e in
    clusters_kept xs i d x (eqb-true x.cluster (get_or xs i d).cluster both.1) ∙ w both.0

whole : (k : Item → Item) (ys : List Item) (i : ℕ) → length ys ≤ i → map k (take i ys) ++ drop i ys ≡ map k ys
whole k [] zero le = refl
whole k [] (suc i) le = refl
whole k (y ∷ ys) zero le = absurd (omega arith)
whole k (y ∷ ys) (suc i) le = ap (λ zs. k y ∷ zs) (whole k ys i (omega arith))

-- so many glyphs are written
pub record AreWritten (k : Item → Item) (i : ℕ) (hs xs : List hb_glyph_info_t) : Type 0 where
  pub items : strip xs ≡ map k (take i (strip hs)) ++ drop i (strip hs)
  pub origins : origins xs ≡ origins hs

pub none_written : (k : Item → Item) (hs : List hb_glyph_info_t) → AreWritten k 0 hs hs
none_written k hs = record { items = refl; origins = refl }

-- the next glyph is written
pub next_written : (k : Item → Item) (hs xs : List hb_glyph_info_t) (i : ℕ) (d x : hb_glyph_info_t) → i < length xs
    → (item_of x ≡ k (item_of (get_or xs i d))) × (origin_of x ≡ origin_of (get_or xs i d)) → AreWritten k i hs xs → AreWritten k (i + 1) hs (set xs i x)
next_written k hs xs i d x lt (e, o) w =
    record { items = seen_step item_of k (strip hs) xs i (get_or xs i d) x (there xs i d lt) e w.items; origins = origins_kept xs i d x o ∙ w.origins }

-- all are written
pub all_written : (k : Item → Item) (hs xs : List hb_glyph_info_t) (i : ℕ) → length hs ≤ i → AreWritten k i hs xs → AreMapped k hs xs
all_written k hs xs i le w = record { items = w.items ∙ whole k (strip hs) i (omega (arith, le, length-map hs item_of)); origins = w.origins }
