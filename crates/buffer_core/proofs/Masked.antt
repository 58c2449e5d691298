-- What new masks for all glyphs do to the sides.
use Rattle.std.specs.Global.{Vec}
use Rattle.std.specs.Prelude.{bit_and}
use Rattle.std.specs.Int.RustNames.{bit_or}
use Rattle.std.proofs.lemmas.Nat.{and_mask, and_shr, and_mod, and_le_l, or_mod, or_shr}
use Rattle.std.specs.Int.Bits.{and_zero_r, or_zero_r}
use Rattle.std.proofs.Common.{ℕ, ◌≡◌, ◌-◌, ◌*◌, ◌/◌, ◌%◌, arith, Bool, true, false, if◌then◌else◌, List, [], ◌∷◌, length, map, take, refl, ap, sym, ◌∙◌}
use Rattle.std.proofs.lemmas.List.{map-append, take-map, drop-map, take_at, drop_at, take-append-drop, length-map}
use Rattle.buffer_glyphs.specs.declared.info.hb_glyph_info_t.{hb_glyph_info_t}
use Rattle.buffer_glyphs.specs.Items.{item_of, strip, clusters, glyph_flags, without_flags}
use Rattle.buffer_core.specs.declared.buffer.hb_buffer_t.TheInside.{Inside}
use Rattle.buffer_core.specs.Inside.{sides_of}
use Rattle.buffer_core.specs.Sides.{Sides, all_glyphs, items_of, origins_of, origins_by}
use Rattle.buffer_lists.specs.Masks.{bits_set, glyph_masked, glyph_set, is_within, item_masked, item_set, items_set}
use Rattle.buffer_core.specs.Masks.{with_masks, with_set_masks, origin_masked, origin_set}
use Rattle.buffer_core.specs.Merging.{with_glyphs}
use Rattle.buffer_glyphs.specs.Origins.{Origin, origin_of, origins}
use Rattle.buffer_glyphs.specs.Events.{Reset}

-- the side behind the cursor, whether or not an output is open
behind_mapped : (f : hb_glyph_info_t → hb_glyph_info_t) (is_open : Bool) (m n : ℕ) (info : List hb_glyph_info_t)
    → (if is_open then take m (map f info) else take n (map f info)) ≡ map f (if is_open then take m info else take n info)
behind_mapped f true m n info = take-map f m info
behind_mapped f false m n info = take-map f n info

both_mapped : (f : hb_glyph_info_t → hb_glyph_info_t) (s : Sides) → with_glyphs (map f (all_glyphs s)) s ≡ record s { behind = map f s.behind; ahead = map f s.ahead }
both_mapped f s =
    let whole = map-append f s.behind s.ahead in
    let long = length-map s.behind f in
    rw (whole, take_at (map f s.behind) (map f s.ahead) (length s.behind) long, drop_at (map f s.behind) (map f s.ahead) (length s.behind) long) refl

-- each glyph was changed alike
pub mapped_view : (f : hb_glyph_info_t → hb_glyph_info_t) (b : Inside) (info : Vec hb_glyph_info_t) → info.items ≡ map f b.info.items → sides_of (record b { info = info }) ≡ with_glyphs (map f (all_glyphs (sides_of b))) (sides_of b)
mapped_view f b info i = rw (i, behind_mapped f b.have_output b.out_len b.idx b.info.items, drop-map f b.idx b.info.items) (sym (both_mapped f (sides_of b)))

all_masked : (m : ℕ) (s : Sides) → all_glyphs (with_masks m s) ≡ map (glyph_masked m) (all_glyphs s)
all_masked m s = take-append-drop (length s.behind) (map (glyph_masked m) (all_glyphs s))

map_map : {X Y Z : Type 0} (f : X → Y) (g : Y → Z) (xs : List X) → map g (map f xs) ≡ map (λ x. g (f x)) xs
map_map f g [] = refl
map_map f g (x ∷ xs) = ap (λ ys. g (f x) ∷ ys) (map_map f g xs)

pub masked_items : (m : ℕ) (s : Sides) → items_of (with_masks m s) ≡ map (item_masked m) (items_of s)
masked_items m s = ap strip (all_masked m s) ∙ map_map (glyph_masked m) _ (all_glyphs s) ∙ sym (map_map _ (item_masked m) (all_glyphs s))

-- bits that are cleared, above the three flags
pub high_cleared : (m under : ℕ) → (m - bit_and m under) / 8 ≡ m / 8 - bit_and (m / 8) (under / 8)
high_cleared m under =
    let high = and_shr m under 3 in
    let low = and_mod m under 3 in
    let few = and_le_l (m % 8) (under % 8) in
    let some = and_le_l (m / 8) (under / 8) in
    omega (arith, high, low, few, some)

high_set : (value under m : ℕ) → bits_set value under m / 8 ≡ bit_or (m / 8 - bit_and (m / 8) (under / 8)) (bit_and value under / 8)
high_set value under m = or_shr (m - bit_and m under) (bit_and value under) 3 ∙ ap (λ n. bit_or n (bit_and value under / 8)) (high_cleared m under)

pub without_flags_is : (m : ℕ) → without_flags m ≡ m / 8 * 8
without_flags_is m = let low = and_mask m 3 in omega (arith, low)

-- the three flags don't determine the bits above them
pub set_above : (value under m : ℕ) → without_flags (bits_set value under m) ≡ without_flags (bits_set value under (without_flags m))
set_above value under m =
    let high : without_flags m / 8 ≡ m / 8 = (let is = without_flags_is m in omega (arith, is)) in
    let same = high_set value under m ∙ ap (λ n. bit_or (n - bit_and n (under / 8)) (bit_and value under / 8)) (sym high) ∙ sym (high_set value under (without_flags m)) in
    without_flags_is (bits_set value under m) ∙ ap (λ n. n * 8) same ∙ sym (without_flags_is (bits_set value under (without_flags m)))

item_of_set : (value under start end : ℕ) (g : hb_glyph_info_t) → item_of (glyph_set value under start end g) ≡ (if is_within start end g.cluster then item_set value under (item_of g) else item_of g)
item_of_set value under start end g =
    elim (is_within start end g.cluster) as (λ t. item_of (if t then record g { mask = bits_set value under g.mask } else g) ≡ (if t then item_set value under (item_of g) else item_of g))
    [ true ↦ rw (set_above value under g.mask) refl | false ↦ refl ]

strip_set : (value under start end : ℕ) (gs : List hb_glyph_info_t) → strip (map (glyph_set value under start end) gs) ≡ items_set value under start end (clusters gs) (strip gs)
strip_set value under start end [] = refl
strip_set value under start end (g ∷ gs) = rw (item_of_set value under start end g, strip_set value under start end gs) refl

cluster_of_set : (value under start end : ℕ) (g : hb_glyph_info_t) → (glyph_set value under start end g).cluster ≡ g.cluster
cluster_of_set value under start end g = elim (is_within start end g.cluster) as (λ t. (if t then record g { mask = bits_set value under g.mask } else g).cluster ≡ g.cluster) [ true ↦ refl | false ↦ refl ]

pub clusters_set : (value under start end : ℕ) (gs : List hb_glyph_info_t) → clusters (map (glyph_set value under start end) gs) ≡ clusters gs
clusters_set value under start end [] = refl
clusters_set value under start end (g ∷ gs) = rw (cluster_of_set value under start end g, clusters_set value under start end gs) refl

all_set : (value under start end : ℕ) (s : Sides) → all_glyphs (with_set_masks value under start end s) ≡ map (glyph_set value under start end) (all_glyphs s)
all_set value under start end s = take-append-drop (length s.behind) (map (glyph_set value under start end) (all_glyphs s))

pub set_items : (value under start end : ℕ) (s : Sides) → items_of (with_set_masks value under start end s) ≡ items_set value under start end (clusters (all_glyphs s)) (items_of s)
set_items value under start end s = ap strip (all_set value under start end s) ∙ strip_set value under start end (all_glyphs s)

pub masked_origins : (m : ℕ) (s : Sides) → origins_of (with_masks m s) ≡ map (origin_masked m) (origins_of s)
masked_origins m s = ap origins (all_masked m s) ∙ map_map (glyph_masked m) origin_of (all_glyphs s) ∙ sym (map_map origin_of (origin_masked m) (all_glyphs s))

-- a mask without flags takes them all
pub reset_origins : (m : ℕ) (s : Sides) → bit_and m 7 ≡ 0 → origins_of (with_masks m s) ≡ origins_by (Reset ∷ []) s
reset_origins m s none = masked_origins m s ∙ ap (λ n. map (λ (o : Origin). record o { flags = n }) (origins_of s)) none

-- the bits above the three flags don't determine the flags
low_cleared : (m under : ℕ) → (m - bit_and m under) % 8 ≡ m % 8 - bit_and (m % 8) (under % 8)
low_cleared m under =
    let high = and_shr m under 3 in
    let low = and_mod m under 3 in
    let few = and_le_l (m % 8) (under % 8) in
    let some = and_le_l (m / 8) (under / 8) in
    omega (arith, high, low, few, some)

low_set : (value under m : ℕ) → bits_set value under m % 8 ≡ bit_or (m % 8 - bit_and (m % 8) (under % 8)) (bit_and value under % 8)
low_set value under m = or_mod (m - bit_and m under) (bit_and value under) 3 ∙ ap (λ n. bit_or n (bit_and value under % 8)) (low_cleared m under)

flags_are : (m : ℕ) → bit_and m 7 ≡ m % 8
flags_are m = and_mask m 3

flags_set : (value under m : ℕ) → bit_and (bits_set value under m) 7 ≡ bit_and (bits_set value under (bit_and m 7)) 7
flags_set value under m =
    let low : m % 8 ≡ bit_and m 7 % 8 = (let is = flags_are m in omega (arith, is)) in
    flags_are (bits_set value under m) ∙ low_set value under m ∙ ap (λ n. bit_or (n - bit_and n (under % 8)) (bit_and value under % 8)) low
    ∙ sym (low_set value under (bit_and m 7)) ∙ sym (flags_are (bits_set value under (bit_and m 7)))

flags_kept : (value under m : ℕ) → bit_and under 7 ≡ 0 → bit_and (bits_set value under m) 7 ≡ bit_and m 7
flags_kept value under m none =
    let off : under % 8 ≡ 0 = sym (flags_are under) ∙ none in
    let gone : bit_and value under % 8 ≡ 0 = and_mod value under 3 ∙ ap (bit_and (value % 8)) off ∙ and_zero_r (value % 8) in
    let stays : m % 8 - bit_and (m % 8) (under % 8) ≡ m % 8 = (let zero_bits : bit_and (m % 8) (under % 8) ≡ 0 = ap (bit_and (m % 8)) off ∙ and_zero_r (m % 8) in omega (arith, zero_bits)) in
    flags_are (bits_set value under m) ∙ low_set value under m ∙ ap (λ n. bit_or n (bit_and value under % 8)) stays ∙ ap (bit_or (m % 8)) gone ∙ or_zero_r (m % 8) ∙ sym (flags_are m)

origin_of_set : (value under start end : ℕ) (g : hb_glyph_info_t) → origin_of (glyph_set value under start end g) ≡ origin_set value under start end (origin_of g)
origin_of_set value under start end g =
    elim (is_within start end g.cluster) as (λ t. origin_of (if t then record g { mask = bits_set value under g.mask } else g) ≡ (if t then record { cluster = g.cluster; flags = bit_and (bits_set value under (glyph_flags g)) 7 } else origin_of g))
    [ true ↦ ap (λ f. record { cluster = g.cluster; flags = f }) (flags_set value under g.mask) | false ↦ refl ]

all_origins_set : (value under start end : ℕ) (gs : List hb_glyph_info_t) → origins (map (glyph_set value under start end) gs) ≡ map (origin_set value under start end) (origins gs)
all_origins_set value under start end [] = refl
all_origins_set value under start end (g ∷ gs) = rw (origin_of_set value under start end g, all_origins_set value under start end gs) refl

pub set_origins : (value under start end : ℕ) (s : Sides) → origins_of (with_set_masks value under start end s) ≡ map (origin_set value under start end) (origins_of s)
set_origins value under start end s = ap origins (all_set value under start end s) ∙ all_origins_set value under start end (all_glyphs s)

-- where no flag is under the mask, none changes
origin_kept : (value under start end : ℕ) (g : hb_glyph_info_t) → bit_and under 7 ≡ 0 → origin_of (glyph_set value under start end g) ≡ origin_of g
origin_kept value under start end g none =
    elim (is_within start end g.cluster) as (λ t. origin_of (if t then record g { mask = bits_set value under g.mask } else g) ≡ origin_of g)
    [ true ↦ ap (λ f. record { cluster = g.cluster; flags = f }) (flags_kept value under g.mask none) | false ↦ refl ]

all_kept : (value under start end : ℕ) (gs : List hb_glyph_info_t) → bit_and under 7 ≡ 0 → origins (map (glyph_set value under start end) gs) ≡ origins gs
all_kept value under start end [] none = refl
all_kept value under start end (g ∷ gs) none = rw (origin_kept value under start end g none, all_kept value under start end gs none) refl

pub kept_origins : (value under start end : ℕ) (s : Sides) → bit_and under 7 ≡ 0 → origins_of (with_set_masks value under start end s) ≡ origins_of s
kept_origins value under start end s none = ap origins (all_set value under start end s) ∙ all_kept value under start end (all_glyphs s) none
