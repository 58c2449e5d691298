-- What a replacement of glyphs does to items, clusters and flags.
use Rattle.std.proofs.Common.{ℕ, zero, suc, ◌≡◌, ◌+◌, ◌-◌, slice_get, List, [], ◌∷◌, ◌++◌, Option, Some, None, length, map, take, drop, replicate, refl, ap, sym, ◌∙◌}
use Rattle.std.proofs.lemmas.List.{map-append, take-map, drop-map, length-map, length-replicate}
use Rattle.buffer_glyphs.specs.declared.info.hb_glyph_info_t.{hb_glyph_info_t}
use Rattle.buffer_glyphs.specs.Items.{item_of, strip, clusters}
use Rattle.buffer_glyphs.specs.Parts.{first_of, last_of, or, copies, numbers_replaced, elements_replaced}
use Rattle.buffer_glyphs.specs.Replacements.{numbered_copies, elements_renumbered, glyph_numbered, item_numbered, glyphs_replaced, items_replaced}

abbrev optional_map : {X Y : Type 0} → (X → Y) → Option X → Option Y
optional_map v None = None
optional_map v (Some x) = Some (v x)

mapped_or : {X Y : Type 0} (v : X → Y) (o p : Option X) → optional_map v (or o p) ≡ or (optional_map v o) (optional_map v p)
mapped_or v None p = refl
mapped_or v (Some x) p = refl

mapped_first : {X Y : Type 0} (v : X → Y) (xs : List X) → optional_map v (first_of xs) ≡ first_of (map v xs)
mapped_first v [] = refl
mapped_first v (x ∷ xs) = refl

mapped_get : {X Y : Type 0} (v : X → Y) (xs : List X) (i : ℕ) → optional_map v (slice_get xs i) ≡ slice_get (map v xs) i
mapped_get v [] i = refl
mapped_get v (x ∷ xs) zero = refl
mapped_get v (x ∷ xs) (suc i) = mapped_get v xs i

mapped_last : {X Y : Type 0} (v : X → Y) (xs : List X) → optional_map v (last_of xs) ≡ last_of (map v xs)
mapped_last v xs = mapped_get v xs (length xs - 1) ∙ ap (λ n. slice_get (map v xs) (n - 1)) (sym (length-map xs v))

map_under : {X Y : Type 0} (v : X → Y) (f : X → ℕ → X) (g : Y → ℕ → Y) → ((x : X) (n : ℕ) → v (f x n) ≡ g (v x) n) → (x : X) (ns : List ℕ) → map v (map (f x) ns) ≡ map (g (v x)) ns
map_under v f g same x [] = refl
map_under v f g same x (n ∷ ns) = rw (same x n, map_under v f g same x ns) refl

mapped_copied : {X Y : Type 0} (v : X → Y) (f : X → ℕ → X) (g : Y → ℕ → Y) → ((x : X) (n : ℕ) → v (f x n) ≡ g (v x) n) → (o : Option X) (ns : List ℕ) → map v (numbered_copies f o ns) ≡ numbered_copies g (optional_map v o) ns
mapped_copied v f g same None ns = refl
mapped_copied v f g same (Some x) ns = map_under v f g same x ns

-- a replacement, seen through v
pub replaced_seen : {X Y : Type 0} (v : X → Y) (f : X → ℕ → X) (g : Y → ℕ → Y) (at taken : ℕ) (ns : List ℕ) (xs : List X) → ((x : X) (n : ℕ) → v (f x n) ≡ g (v x) n)
    → map v (elements_renumbered f at taken ns xs) ≡ elements_renumbered g at taken ns (map v xs)
replaced_seen v f g at taken ns xs same =
    let model = or (first_of (drop at xs)) (last_of (take at xs)) in
    let new = numbered_copies f model ns in
    let seen : optional_map v model ≡ or (first_of (drop at (map v xs))) (last_of (take at (map v xs))) =
    mapped_or v (first_of (drop at xs)) (last_of (take at xs)) ∙ ap (λ o. or o (optional_map v (last_of (take at xs)))) (mapped_first v (drop at xs) ∙ ap first_of (sym (drop-map v at xs)))
    ∙ ap (λ o. or (first_of (drop at (map v xs))) o) (mapped_last v (take at xs) ∙ ap last_of (sym (take-map v at xs))) in
    map-append v (take at xs ++ new) (drop (at + taken) xs) ∙ ap (λ ys. ys ++ map v (drop (at + taken) xs)) (map-append v (take at xs) new)
    ∙ ap (λ ys. map v (take at xs) ++ ys ++ map v (drop (at + taken) xs)) (mapped_copied v f g same model ns ∙ ap (λ o. numbered_copies g o ns) seen)
    ∙ ap (λ ys. ys ++ numbered_copies g (or (first_of (drop at (map v xs))) (last_of (take at (map v xs)))) ns ++ map v (drop (at + taken) xs)) (sym (take-map v at xs))
    ∙ ap (λ ys. take at (map v xs) ++ numbered_copies g (or (first_of (drop at (map v xs))) (last_of (take at (map v xs)))) ns ++ ys) (sym (drop-map v (at + taken) xs))

all_alike : {X : Type 0} (x : X) (ns : List ℕ) → map (λ (n : ℕ). x) ns ≡ replicate (length ns) x
all_alike x [] = refl
all_alike x (n ∷ ns) = ap (λ ys. x ∷ ys) (all_alike x ns)

copied_alike : {X : Type 0} (o : Option X) (ns : List ℕ) → numbered_copies (λ x n. x) o ns ≡ copies (length ns) o
copied_alike None ns = refl
copied_alike (Some x) ns = all_alike x ns

-- what copies have alike
pub replaced_alike : {X : Type 0} (at taken : ℕ) (ns : List ℕ) (xs : List X) → elements_renumbered (λ x n. x) at taken ns xs ≡ elements_replaced at taken (length ns) xs
replaced_alike at taken ns xs = ap (λ ys. take at xs ++ ys ++ drop (at + taken) xs) (copied_alike (or (first_of (drop at xs)) (last_of (take at xs))) ns)

-- copies seen through v are copies of what is seen
pub among_seen : {X Y : Type 0} (v : X → Y) (at taken given : ℕ) (xs : List X) → map v (elements_replaced at taken given xs) ≡ elements_replaced at taken given (map v xs)
among_seen v at taken given xs =
    let ns = replicate given zero in
    let n : length ns ≡ given = length-replicate given zero in
    ap (λ k. map v (elements_replaced at taken k xs)) (sym n) ∙ ap (map v) (sym (replaced_alike at taken ns xs)) ∙ replaced_seen v (λ x n. x) (λ y n. y) at taken ns xs (λ x n. refl) ∙ replaced_alike at taken ns (map v xs)
    ∙ ap (λ k. elements_replaced at taken k (map v xs)) n

pub strip_replaced : (at taken : ℕ) (ns : List ℕ) (gs : List hb_glyph_info_t) → strip (glyphs_replaced at taken ns gs) ≡ items_replaced at taken ns (strip gs)
strip_replaced at taken ns gs = replaced_seen item_of glyph_numbered item_numbered at taken ns gs (λ g n. refl)

pub clusters_replaced : (at taken : ℕ) (ns : List ℕ) (gs : List hb_glyph_info_t) → clusters (glyphs_replaced at taken ns gs) ≡ numbers_replaced at taken (length ns) (clusters gs)
clusters_replaced at taken ns gs = replaced_seen (λ (g : hb_glyph_info_t). g.cluster) glyph_numbered (λ x n. x) at taken ns gs (λ g n. refl) ∙ replaced_alike at taken ns (clusters gs)
