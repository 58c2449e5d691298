-- Flags handed on to neighbours: what becomes of glyphs becomes of their origins.
use Rattle.std.proofs.Common.{ℕ, zero, suc, ◌≡◌, ◌<◌, ◌+◌, ◌-◌, ◌==◌, ◌&&◌, not, Bool, true, false, if◌then◌else◌, List, [], ◌∷◌, ◌++◌, Option, Some, None, length, map, take, drop, arith, refl, ap, sym, ◌∙◌}
use Rattle.std.specs.Prelude.{replicate}
use Rattle.std.specs.Int.RustNames.{bit_and, bit_or}
use Rattle.std.specs.Int.Bits.{or_self, or_zero_r}
use Rattle.std.proofs.lemmas.Nat.{and_assoc, and_mask, or_lt}
use Rattle.std.proofs.lemmas.List.{length-append, length-map, length-replicate, map-append, take-map, drop-map, take-append-drop}
use Rattle.std.proofs.Math.Seq.{take-append_seam, drop-append_seam, take-nil, drop-nil}
use Rattle.buffer_glyphs.specs.declared.info.hb_glyph_info_t.{hb_glyph_info_t}
use Rattle.buffer_glyphs.specs.Items.{clusters, glyph_flags, item_of, strip}
use Rattle.buffer_glyphs.specs.Parts.{copies, elements_replaced, first_of, last_of, or}
use Rattle.buffer_glyphs.specs.Glyphs.{glyph_flagged}
use Rattle.buffer_glyphs.specs.Origins.{Origin, origin_of, origins, numbers, flags_added, flags_for, origins_handed_after, origins_handed_before, origins_handed_if, origins_handed_on, is_unsafe, other_cluster, unsafe_flags, with_first_changed, with_last_changed}
use Rattle.buffer_glyphs.specs.Deleting.{DeletionSides, glyphs_handed_after, glyphs_handed_before, sides_handed_if, sides_handed_on}
use Rattle.buffer_glyphs.specs.Laws.{FlagsAreHandedOn}
use Rattle.buffer_glyphs.specs.Lemmas.Glyphs.{flags_set, without_flags_set}
use Rattle.buffer_glyphs.specs.Lemmas.Origins.{map_turned, numbers_origins}
use Rattle.buffer_facts.proofs.Lists.{map_kept as all_kept}

-- ---- the first and the last of a list changed

pub first_kept : {X Y : Type 0} (v : X → Y) (f : X → X) (xs : List X) → ((x : X) → v (f x) ≡ v x) → map v (with_first_changed f xs) ≡ map v xs
first_kept v f [] same = refl
first_kept v f (x ∷ xs) same = ap (λ y. y ∷ map v xs) (same x)

pub last_kept : {X Y : Type 0} (v : X → Y) (f : X → X) (xs : List X) → ((x : X) → v (f x) ≡ v x) → map v (with_last_changed f xs) ≡ map v xs
last_kept v f xs same =
    let i = length xs - 1 in
    map-append v (take i xs) (map f (drop i xs)) ∙ ap (λ ys. map v (take i xs) ++ ys) (all_kept v f (drop i xs) same) ∙ sym (map-append v (take i xs) (drop i xs)) ∙ ap (map v) (take-append-drop i xs)

first_turned : {X Y : Type 0} (v : X → Y) (f : X → X) (h : Y → Y) (xs : List X) → ((x : X) → v (f x) ≡ h (v x)) → map v (with_first_changed f xs) ≡ with_first_changed h (map v xs)
first_turned v f h [] same = refl
first_turned v f h (x ∷ xs) same = ap (λ y. y ∷ map v xs) (same x)

last_turned : {X Y : Type 0} (v : X → Y) (f : X → X) (h : Y → Y) (xs : List X) → ((x : X) → v (f x) ≡ h (v x)) → map v (with_last_changed f xs) ≡ with_last_changed h (map v xs)
last_turned v f h xs same =
    let i = length xs - 1 in
    let ys = map v xs in
    map-append v (take i xs) (map f (drop i xs)) ∙ ap (λ zs. map v (take i xs) ++ zs) (map_turned v f h (drop i xs) same)
    ∙ ap (λ zs. zs ++ map h (map v (drop i xs))) (sym (take-map v i xs)) ∙ ap (λ zs. take i ys ++ map h zs) (sym (drop-map v i xs))
    ∙ ap (λ n. take (n - 1) ys ++ map h (drop (n - 1) ys)) (sym (length-map xs v))

-- ---- the flags

pub unsafe_seen : (m : ℕ) → is_unsafe m ≡ is_unsafe (bit_and m 7)
unsafe_seen m = ap (λ n. not (n == 0)) (sym (and_assoc 5 m 7))

pub flags_defined : (m : ℕ) → bit_and m 7 < 8
flags_defined m = let low = and_mask m 3 in omega (arith, low)

unsafe_defined : (c : ℕ) (gs : List hb_glyph_info_t) → unsafe_flags c (origins gs) < 8
unsafe_defined c [] = omega arith
unsafe_defined c (g ∷ gs) = by_test (g.cluster == c && is_unsafe (glyph_flags g)) (unsafe_defined c gs)
  where
    by_test : (t : Bool) → unsafe_flags c (origins gs) < 8 → (if t then bit_or (glyph_flags g) (unsafe_flags c (origins gs)) else unsafe_flags c (origins gs)) < 8
    by_test true rest = or_lt 3 (glyph_flags g) (unsafe_flags c (origins gs)) (flags_defined g.mask) rest
    by_test false rest = rest

pub handed_defined : (o : Option ℕ) (gs : List hb_glyph_info_t) → flags_for o (origins gs) < 8
handed_defined None gs = omega arith
handed_defined (Some c) gs = unsafe_defined c gs

-- ---- all else of the glyphs stays

item_flagged : (bits : ℕ) → bits < 8 → (g : hb_glyph_info_t) → item_of (glyph_flagged bits g) ≡ item_of g
item_flagged bits lt g = rw (without_flags_set g.mask bits lt) refl

origin_flagged : (bits : ℕ) → bits < 8 → (g : hb_glyph_info_t) → origin_of (glyph_flagged bits g) ≡ flags_added bits (origin_of g)
origin_flagged bits lt g = ap (λ f. record { cluster = g.cluster; flags = f }) (flags_set g.mask bits lt)

pub before_items : (gone gs : List hb_glyph_info_t) → strip (glyphs_handed_before gone gs) ≡ strip gs
before_items gone gs = let b = flags_for (last_of (clusters gs)) (origins gone) in last_kept item_of (glyph_flagged b) gs (item_flagged b (handed_defined (last_of (clusters gs)) gone))

pub after_items : (gone : List hb_glyph_info_t) (before : Option ℕ) (gs : List hb_glyph_info_t) → strip (glyphs_handed_after gone before gs) ≡ strip gs
after_items gone before gs =
    let o = other_cluster before (first_of (clusters gs)) in
    first_kept item_of (glyph_flagged (flags_for o (origins gone))) gs (item_flagged (flags_for o (origins gone)) (handed_defined o gone))

pub before_clusters : (bits : ℕ) (gs : List hb_glyph_info_t) → clusters (with_last_changed (glyph_flagged bits) gs) ≡ clusters gs
before_clusters bits gs = last_kept (λ (g : hb_glyph_info_t). g.cluster) (glyph_flagged bits) gs (λ g. refl)

pub after_clusters : (bits : ℕ) (gs : List hb_glyph_info_t) → clusters (with_first_changed (glyph_flagged bits) gs) ≡ clusters gs
after_clusters bits gs = first_kept (λ (g : hb_glyph_info_t). g.cluster) (glyph_flagged bits) gs (λ g. refl)

before_origins : (gone gs : List hb_glyph_info_t) → origins (glyphs_handed_before gone gs) ≡ origins_handed_before (origins gone) (origins gs)
before_origins gone gs =
    let b = flags_for (last_of (clusters gs)) (origins gone) in
    last_turned origin_of (glyph_flagged b) (flags_added b) gs (origin_flagged b (handed_defined (last_of (clusters gs)) gone))
    ∙ ap (λ ns. with_last_changed (flags_added (flags_for (last_of ns) (origins gone))) (origins gs)) (sym (numbers_origins gs))

after_origins : (gone : List hb_glyph_info_t) (before : Option ℕ) (gs : List hb_glyph_info_t) → origins (glyphs_handed_after gone before gs) ≡ origins_handed_after (origins gone) before (origins gs)
after_origins gone before gs =
    let o = other_cluster before (first_of (clusters gs)) in
    let b = flags_for o (origins gone) in
    first_turned origin_of (glyph_flagged b) (flags_added b) gs (origin_flagged b (handed_defined o gone))
    ∙ ap (λ ns. with_first_changed (flags_added (flags_for (other_cluster before (first_of ns)) (origins gone))) (origins gs)) (sym (numbers_origins gs))

-- ---- on both sides of a seam

pub sides_front_items : (breaks : Bool) (gone : List hb_glyph_info_t) (s : DeletionSides) → strip (sides_handed_if breaks gone s).front ≡ strip s.front
sides_front_items false gone s = refl
sides_front_items true gone s = before_items gone s.front

pub sides_back_items : (breaks : Bool) (gone : List hb_glyph_info_t) (s : DeletionSides) → strip (sides_handed_if breaks gone s).back ≡ strip s.back
sides_back_items false gone s = refl
sides_back_items true gone s = after_items gone (last_of (clusters s.front)) s.back

pub sides_front_count : (breaks : Bool) (gone : List hb_glyph_info_t) (s : DeletionSides) → length (sides_handed_if breaks gone s).front ≡ length s.front
sides_front_count breaks gone s = sym (length-map (sides_handed_if breaks gone s).front item_of) ∙ ap length (sides_front_items breaks gone s) ∙ length-map s.front item_of

pub sides_front_clusters : (breaks : Bool) (gone : List hb_glyph_info_t) (s : DeletionSides) → clusters (sides_handed_if breaks gone s).front ≡ clusters s.front
sides_front_clusters false gone s = refl
sides_front_clusters true gone s = before_clusters (flags_for (last_of (clusters s.front)) (origins gone)) s.front

pub sides_back_clusters : (breaks : Bool) (gone : List hb_glyph_info_t) (s : DeletionSides) → clusters (sides_handed_if breaks gone s).back ≡ clusters s.back
sides_back_clusters false gone s = refl
sides_back_clusters true gone s = after_clusters (flags_for (other_cluster (last_of (clusters s.front)) (first_of (clusters s.back))) (origins gone)) s.back

on_both : (gone : List hb_glyph_info_t) (s : DeletionSides) → origins ((sides_handed_on gone s).front ++ (sides_handed_on gone s).back) ≡ origins_handed_on (origins gone) (length s.front) (origins (s.front ++ s.back))
on_both gone s =
    let n = length s.front in
    let all = origins (s.front ++ s.back) in
    let front : take n all ≡ origins s.front = take-map origin_of n (s.front ++ s.back) ∙ ap origins (take-append_seam s.front s.back) in
    let back : drop n all ≡ origins s.back = drop-map origin_of n (s.front ++ s.back) ∙ ap origins (drop-append_seam s.front s.back) in
    map-append origin_of (glyphs_handed_before gone s.front) (glyphs_handed_after gone (last_of (clusters s.front)) s.back)
    ∙ ap (λ os. os ++ origins (glyphs_handed_after gone (last_of (clusters s.front)) s.back)) (before_origins gone s.front)
    ∙ ap (λ os. origins_handed_before (origins gone) (origins s.front) ++ os) (after_origins gone (last_of (clusters s.front)) s.back)
    ∙ ap (λ ns. origins_handed_before (origins gone) (origins s.front) ++ origins_handed_after (origins gone) (last_of ns) (origins s.back)) (sym (numbers_origins s.front))
    ∙ ap (λ os. origins_handed_before (origins gone) os ++ origins_handed_after (origins gone) (last_of (numbers os)) (origins s.back)) (sym front)
    ∙ ap (λ os. origins_handed_before (origins gone) (take n all) ++ origins_handed_after (origins gone) (last_of (numbers (take n all))) os) (sym back)

pub sides_origins : (breaks : Bool) (gone : List hb_glyph_info_t) (s : DeletionSides) → origins ((sides_handed_if breaks gone s).front ++ (sides_handed_if breaks gone s).back) ≡ origins_handed_if breaks (origins gone) (length s.front) (origins (s.front ++ s.back))
sides_origins false gone s = refl
sides_origins true gone s = on_both gone s

pub handed_by_origins : FlagsAreHandedOn
handed_by_origins gone s = record {
  same_front = sides_front_items true gone s;
  same_back = sides_back_items true gone s;
  same_clusters =
      let f : hb_glyph_info_t → ℕ = λ g. g.cluster in
      map-append f (sides_handed_on gone s).front (sides_handed_on gone s).back
      ∙ ap (λ ns. ns ++ clusters (sides_handed_on gone s).back) (sides_front_clusters true gone s)
      ∙ ap (λ ns. clusters s.front ++ ns) (sides_back_clusters true gone s) ∙ sym (map-append f s.front s.back);
  origins_by_rule = on_both gone s;
}

-- ---- the clusters of origins

numbers_handed : (gone : List Origin) (seam : ℕ) (os : List Origin) → numbers (origins_handed_on gone seam os) ≡ numbers os
numbers_handed gone seam os =
    let n : Origin → ℕ = λ o. o.cluster in
    let front = take seam os in
    let back = drop seam os in
    let before = last_of (numbers front) in
    map-append n (origins_handed_before gone front) (origins_handed_after gone before back)
    ∙ ap (λ ns. ns ++ numbers (origins_handed_after gone before back)) (last_kept n (flags_added (flags_for before gone)) front (λ o. refl))
    ∙ ap (λ ns. numbers front ++ ns) (first_kept n (flags_added (flags_for (other_cluster before (first_of (numbers back))) gone)) back (λ o. refl))
    ∙ sym (map-append n front back) ∙ ap numbers (take-append-drop seam os)

pub numbers_handed_if : (asked : Bool) (gone : List Origin) (seam : ℕ) (os : List Origin) → numbers (origins_handed_if asked gone seam os) ≡ numbers os
numbers_handed_if true gone seam os = numbers_handed gone seam os
numbers_handed_if false gone seam os = refl

-- ---- where nothing changes

pub last_beyond : {X : Type 0} (x y : X) (ys : List X) → last_of (x ∷ y ∷ ys) ≡ last_of (y ∷ ys)
last_beyond x y ys =
    let here : suc (suc (length ys)) - 1 ≡ suc (length ys) = omega arith in
    let there : suc (length ys) - 1 ≡ length ys = omega arith in
    rw (here, there) refl

pub last_fixed : {X : Type 0} (f : X → X) (xs : List X) → ((x : X) → last_of xs ≡ Some x → f x ≡ x) → with_last_changed f xs ≡ xs
last_fixed f [] fix = refl
last_fixed f (x ∷ []) fix = ap (λ y. y ∷ []) (fix x refl)
last_fixed f (x ∷ y ∷ ys) fix =
    let xs = x ∷ y ∷ ys in
    let more : length xs - 1 ≡ suc (length (y ∷ ys) - 1) = omega arith in
    ap (λ n. take n xs ++ map f (drop n xs)) more ∙ ap (λ zs. x ∷ zs) (last_fixed f (y ∷ ys) (λ z e. fix z (last_beyond x y ys ∙ e)))

first_fixed : {X : Type 0} (f : X → X) (xs : List X) → ((x : X) → f x ≡ x) → with_first_changed f xs ≡ xs
first_fixed f [] fix = refl
first_fixed f (x ∷ xs) fix = ap (λ y. y ∷ xs) (fix x)

no_flags_added : (bits : ℕ) → bits ≡ 0 → (o : Origin) → flags_added bits o ≡ o
no_flags_added bits e o = ap (λ f. record o { flags = f }) (ap (bit_or o.flags) e ∙ or_zero_r o.flags)

-- none leaves
none_for : (o : Option ℕ) → flags_for o [] ≡ 0
none_for None = refl
none_for (Some c) = refl

pub none_handed : (asked : Bool) (seam : ℕ) (os : List Origin) → origins_handed_if asked [] seam os ≡ os
none_handed false seam os = refl
none_handed true seam os =
    let front = take seam os in
    let back = drop seam os in
    let before = last_of (numbers front) in
    let after = other_cluster before (first_of (numbers back)) in
    ap (λ qs. qs ++ origins_handed_after [] before back) (last_fixed (flags_added (flags_for before [])) front (λ o e. no_flags_added (flags_for before []) (none_for before) o))
    ∙ ap (λ qs. front ++ qs) (first_fixed (flags_added (flags_for after [])) back (no_flags_added (flags_for after []) (none_for after)))
    ∙ take-append-drop seam os

-- the last before the seam has the cluster and the flags of the one that leaves
seen_last : {X Y : Type 0} (v : X → Y) (x : X) (xs : List X) → last_of xs ≡ Some x → last_of (map v xs) ≡ Some (v x)
seen_last v x [] e = cc
seen_last v x (y ∷ []) e = let same : y ≡ x = cc in rw same refl
seen_last v x (y ∷ z ∷ zs) e = last_beyond (v y) (v z) (map v zs) ∙ seen_last v x (z ∷ zs) (sym (last_beyond y z zs) ∙ e)

own_flags : (c : ℕ) (o : Origin) → bit_or o.flags (unsafe_flags c (o ∷ [])) ≡ o.flags
own_flags c o = elim (o.cluster == c && is_unsafe o.flags) as (λ t. bit_or o.flags (if t then bit_or o.flags 0 else 0) ≡ o.flags)
    [ true ↦ ap (bit_or o.flags) (or_zero_r o.flags) ∙ or_self o.flags | false ↦ or_zero_r o.flags ]

other_flags : (o : Origin) (after : Option ℕ) → flags_for (other_cluster (Some o.cluster) after) (o ∷ []) ≡ 0
other_flags o None = refl
other_flags o (Some c) = by_test (o.cluster == c) refl
  where
    by_test : (t : Bool) → (o.cluster == c) ≡ t → flags_for (if t then None else Some c) (o ∷ []) ≡ 0
    by_test true e = refl
    by_test false e = rw e refl

flags_twice : (m : ℕ) → bit_and (bit_and m 7) 7 ≡ bit_and m 7
flags_twice m = and_assoc 7 m 7

-- flags that a mask has
pub flags_there : (m d bits : ℕ) → bits < 8 → bit_or d bits ≡ d → bit_and m 7 ≡ bit_and d 7 → bit_or m bits ≡ m
flags_there m d bits lt has same =
    let high : bit_or m bits - bit_and (bit_or m bits) 7 ≡ m - bit_and m 7 = without_flags_set m bits lt in
    let low : bit_and (bit_or m bits) 7 ≡ bit_and m 7 = flags_set m bits lt ∙ ap (λ n. bit_or n bits) same ∙ sym (flags_set d bits lt) ∙ ap (λ n. bit_and n 7) has ∙ sym same in
    let old = and_mask m 3 in
    let new = and_mask (bit_or m bits) 3 in
    omega (arith, high, low, old, new)

no_flags_set : (bits : ℕ) → bits ≡ 0 → (g : hb_glyph_info_t) → glyph_flagged bits g ≡ g
no_flags_set bits e g = ap (λ m. record g { mask = m }) (ap (bit_or g.mask) e ∙ or_zero_r g.mask)

pub sides_same : (asked : Bool) (h g : hb_glyph_info_t) (s : DeletionSides) → last_of s.front ≡ Some h → origin_of h ≡ origin_of g → sides_handed_if asked (g ∷ []) s ≡ s
sides_same false h g s e same = refl
sides_same true h g s e same =
    let o = origin_of g in
    let bits = unsafe_flags g.cluster (o ∷ []) in
    let after = other_cluster (Some g.cluster) (first_of (clusters s.back)) in
    let before : last_of (clusters s.front) ≡ Some g.cluster = seen_last (λ (k : hb_glyph_info_t). k.cluster) h s.front e ∙ ap (λ (q : Origin). Some q.cluster) same in
    let flags : glyph_flags h ≡ bit_and (glyph_flags g) 7 = ap (λ (q : Origin). q.flags) same ∙ sym (flags_twice g.mask) in
    let has : glyph_flagged bits h ≡ h = ap (λ m. record h { mask = m }) (flags_there h.mask (glyph_flags g) bits (unsafe_defined g.cluster (g ∷ [])) (own_flags g.cluster o) flags) in
    let fixed : (k : hb_glyph_info_t) → last_of s.front ≡ Some k → glyph_flagged bits k ≡ k = λ k is. let one : k ≡ h = some_is (sym is ∙ e) in rw one has in
    ap (λ n. record { front = with_last_changed (glyph_flagged (flags_for n (o ∷ []))) s.front; back = glyphs_handed_after (g ∷ []) n s.back }) before
    ∙ ap (λ gs. record { front = gs; back = glyphs_handed_after (g ∷ []) (Some g.cluster) s.back }) (last_fixed (glyph_flagged bits) s.front fixed)
    ∙ ap (λ gs. record { front = s.front; back = gs }) (first_fixed (glyph_flagged (flags_for after (o ∷ []))) s.back (no_flags_set (flags_for after (o ∷ [])) (other_flags o (first_of (clusters s.back)))))
  where
    some_is : {x y : hb_glyph_info_t} → Some x ≡ Some y → x ≡ y
    some_is e = cc

-- no glyph is left
pub handed_nowhere : (asked : Bool) (gone : List Origin) (m n : ℕ) → origins_handed_if asked gone m [] ≡ origins_handed_if asked gone n []
handed_nowhere false gone m n = refl
handed_nowhere true gone m n = to_none m ∙ sym (to_none n)
  where
    to_none : (k : ℕ) → origins_handed_on gone k [] ≡ []
    to_none k = rw (take-nil {A = Origin} k, drop-nil {A = Origin} k) refl
