-- Two unions of clusters one after the other, in either order.
use Rattle.std.proofs.Common.{ℕ, ◌≡◌, ◌≤◌, ◌-◌, ◌==◌, Bool, true, false, if◌then◌else◌, List, [], ◌∷◌, map, take, drop, arith, refl, ap, sym, ◌∙◌}
use Rattle.std.proofs.lemmas.Bool.Decides.{nat_tests}
use Rattle.std.proofs.lemmas.Grind.{common_steps}
use Rattle.std.proofs.lemmas.List.{take-map, drop-map}
use Rattle.buffer_glyphs.specs.Parts.{range_of}
use Rattle.buffer_glyphs.specs.Order.{has_number}
use Rattle.buffer_glyphs.specs.Merges.{least_number, merged_number, IsOneOn}
use Rattle.buffer_glyphs.specs.Origins.{Origin, numbers, cast, origins_merged, Manner, Unites, Marks, Keeps, origins_merged_as}
use Rattle.buffer_glyphs.specs.Lemmas.Numbers.{Has, has_map, map_has}
use Rattle.buffer_glyphs.specs.Lemmas.Merges.{least_number_is, merge_unites}
use Rattle.buffer_glyphs.specs.Lemmas.Origins.{number_cast, numbers_merged}
use Rattle.buffer_parts.specs.Lemmas.Groups.{range_map}
use Rattle.buffer_stages.specs.Lemmas.Nested.{map_alike}

-- ---- numbers

-- a union never raises a number
pub below : (range : List ℕ) (n : ℕ) → merged_number range n ≤ n
below range n = by_test (has_number range n) refl
  where
    least_below : (ms : List ℕ) → Has ms n → least_number ms ≤ n
    least_below [] h = cc
    least_below (m ∷ ms) h = (least_number_is m ms).below n h

    by_test : (t : Bool) → has_number range n ≡ t → (if t then least_number range else n) ≤ n
    by_test true e = least_below range e
    by_test false e = omega arith

-- two lists have the same numbers
abbrev pub HaveSame : List ℕ → List ℕ → Type 0
HaveSame ms ns = (n : ℕ) → has_number ms n ≡ has_number ns n

pub same_as : (ms ns is js : List ℕ) → ms ≡ is → ns ≡ js → HaveSame is js → HaveSame ms ns
same_as ms ns is js e f same n = ap (λ ks. has_number ks n) e ∙ same n ∙ ap (λ ks. has_number ks n) (sym f)

pub united_alike : (ms ns : List ℕ) (n : ℕ) → HaveSame ms ns → merged_number ms n ≡ merged_number ns n
united_alike ms ns n same =
    let f = merged_number ms in
    let g = merged_number ns in
    let p : f (g n) ≡ f n = (merge_unites ns).least f (λ i j hi hj. (merge_unites ms).unites i j (same i ∙ hi) (same j ∙ hj)) n in
    let q : g (f n) ≡ g n = (merge_unites ms).least g (λ i j hi hj. (merge_unites ns).unites i j (sym (same i) ∙ hi) (sym (same j) ∙ hj)) n in
    ordered_same (f n) (g n) (f (g n)) (g (f n)) p q (below ms (g n)) (below ns (f n))
  where
    ordered_same : (a b c d : ℕ) → c ≡ a → d ≡ b → c ≤ b → d ≤ a → a ≡ b
    ordered_same a b c d p q le ge = omega (arith, p, q, le, ge)

-- the number after a union, and then another of a range that it changed
abbrev joint : List ℕ → List ℕ → ℕ → ℕ
joint ms ns n = merged_number (map (merged_number ms) ns) (merged_number ms n)

joint_first : (ms ns : List ℕ) → IsOneOn ms (joint ms ns)
joint_first ms ns i j hi hj = ap (merged_number (map (merged_number ms) ns)) ((merge_unites ms).unites i j hi hj)

joint_second : (ms ns : List ℕ) → IsOneOn ns (joint ms ns)
joint_second ms ns i j hi hj =
    let f = merged_number ms in
    (merge_unites (map f ns)).unites (f i) (f j) (map_has f i ns hi) (map_has f j ns hj)

-- what makes both ranges one factors through both unions
joint_least : (ms ns : List ℕ) (h : ℕ → ℕ) (n : ℕ) → IsOneOn ms h → IsOneOn ns h → h (joint ms ns n) ≡ h n
joint_least ms ns h n p q =
    let f = merged_number ms in
    let through : (k : ℕ) → h (f k) ≡ h k = λ k. (merge_unites ms).least h p k in
    let one : IsOneOn (map f ns) h = λ i j hi hj.
    let a = has_map f i ns hi in
    let b = has_map f j ns hj in
    ap h (sym a.2) ∙ through a.0 ∙ q a.0 b.0 a.1 b.1 ∙ sym (through b.0) ∙ ap h b.2 in
    (merge_unites (map f ns)).least h one (f n) ∙ through n

joint_below : (ms ns : List ℕ) (n : ℕ) → joint ms ns n ≤ n
joint_below ms ns n = twice (joint ms ns n) (merged_number ms n) (below (map (merged_number ms) ns) (merged_number ms n)) (below ms n)
  where
    twice : (a b : ℕ) → a ≤ b → b ≤ n → a ≤ n
    twice a b p q = omega (arith, p, q)

joint_swaps : (ms ns : List ℕ) (n : ℕ) → joint ms ns n ≡ joint ns ms n
joint_swaps ms ns n =
    let f = joint ms ns in
    let g = joint ns ms in
    let p : g (f n) ≡ g n = joint_least ms ns g n (joint_second ns ms) (joint_first ns ms) in
    let q : f (g n) ≡ f n = joint_least ns ms f n (joint_second ms ns) (joint_first ms ns) in
    ordered_same (f n) (g n) (g (f n)) (f (g n)) p q (joint_below ns ms (f n)) (joint_below ms ns (g n))
  where
    ordered_same : (a b c d : ℕ) → c ≡ b → d ≡ a → c ≤ a → d ≤ b → a ≡ b
    ordered_same a b c d p q le ge = omega (arith, p, q, le, ge)

-- ---- origins

-- an origin in a cluster, without flags
abbrev bare : ℕ → Origin
bare c = record { cluster = c; flags = 0 }

cast_twice : (a b : ℕ) (o : Origin) → b ≤ a → a ≤ o.cluster → cast b 0 (cast a 0 o) ≡ cast b 0 o
cast_twice a b o le up = by_test (o.cluster == a) refl
  where
    is_bare : (s : Bool) → (a == b) ≡ s → (if s then bare a else bare b) ≡ bare b
    is_bare true e = let same : a ≡ b = grind (arith, common_steps, e) in ap bare same
    is_bare false e = refl

    by_test : (t : Bool) → (o.cluster == a) ≡ t → cast b 0 (if t then o else bare a) ≡ cast b 0 o
    by_test true e = refl
    by_test false e =
        let other : (o.cluster == b) ≡ false = grind (arith, nat_tests, common_steps, le, up, e) in
        is_bare (a == b) refl ∙ ap (λ t. if t then o else bare b) (sym other)

map_both : (f g h : Origin → Origin) (os : List Origin) → ((o : Origin) → g (f o) ≡ h o) → map g (map f os) ≡ map h os
map_both f g h [] same = refl
map_both f g h (o ∷ os) same = rw (same o, map_both f g h os same) refl

pub unions_alike : (ms ns : List ℕ) (os : List Origin) → HaveSame ms ns → origins_merged ms os ≡ origins_merged ns os
unions_alike ms ns os same =
    map_alike (λ (o : Origin). cast (merged_number ms o.cluster) 0 o) (λ (o : Origin). cast (merged_number ns o.cluster) 0 o) os (λ o. ap (λ n. cast n 0 o) (united_alike ms ns o.cluster same))

-- a union, and then another of a range that it changed
united_twice : (ms ns : List ℕ) (os : List Origin) → origins_merged (map (merged_number ms) ns) (origins_merged ms os) ≡ map (λ (o : Origin). cast (joint ms ns o.cluster) 0 o) os
united_twice ms ns os =
    let range = map (merged_number ms) ns in
    let f : Origin → Origin = λ o. cast (merged_number ms o.cluster) 0 o in
    map_both f (λ (o : Origin). cast (merged_number range o.cluster) 0 o) (λ (o : Origin). cast (joint ms ns o.cluster) 0 o) os
    (λ o. ap (λ n. cast (merged_number range n) 0 (f o)) (number_cast (merged_number ms o.cluster) 0 o)
    ∙ cast_twice (merged_number ms o.cluster) (joint ms ns o.cluster) o (below range (merged_number ms o.cluster)) (below ms o.cluster))

pub unions_swap : (ms ns : List ℕ) (os : List Origin) → origins_merged (map (merged_number ms) ns) (origins_merged ms os) ≡ origins_merged (map (merged_number ns) ms) (origins_merged ns os)
unions_swap ms ns os =
    united_twice ms ns os
    ∙ map_alike (λ (o : Origin). cast (joint ms ns o.cluster) 0 o) (λ (o : Origin). cast (joint ns ms o.cluster) 0 o) os (λ o. ap (λ n. cast n 0 o) (joint_swaps ms ns o.cluster))
    ∙ sym (united_twice ns ms os)

-- ---- merges

-- a manner that sets no flags
abbrev pub IsFlagless : Manner → Type 0
IsFlagless Unites = Unit {0}
IsFlagless Marks = ⊥
IsFlagless Keeps = Unit {0}

union_after : (a b i j : ℕ) (os : List Origin)
    → origins_merged_as Unites a b (origins_merged_as Unites i j os) ≡ origins_merged (map (merged_number (range_of i j (numbers os))) (range_of a b (numbers os))) (origins_merged (range_of i j (numbers os)) os)
union_after a b i j os =
    let range = range_of i j (numbers os) in
    ap (λ ns. origins_merged (range_of a b ns) (origins_merged range os)) (numbers_merged range os) ∙ ap (λ ns. origins_merged ns (origins_merged range os)) (range_map (merged_number range) a b (numbers os))

-- merges that set no flags may change places
pub merges_swap : (m n : Manner) (a b i j : ℕ) (os : List Origin) → IsFlagless m → IsFlagless n → origins_merged_as m a b (origins_merged_as n i j os) ≡ origins_merged_as n i j (origins_merged_as m a b os)
merges_swap Unites Unites a b i j os p q = union_after a b i j os ∙ unions_swap (range_of i j (numbers os)) (range_of a b (numbers os)) os ∙ sym (union_after i j a b os)
merges_swap Unites Marks a b i j os p q = absurd q
merges_swap Unites Keeps a b i j os p q = refl
merges_swap Marks n a b i j os p q = absurd p
merges_swap Keeps n a b i j os p q = refl

-- merges of ranges of the same numbers
pub merges_alike : (m : Manner) (a b i j : ℕ) (os : List Origin) → IsFlagless m → HaveSame (range_of a b (numbers os)) (range_of i j (numbers os)) → origins_merged_as m a b os ≡ origins_merged_as m i j os
merges_alike Unites a b i j os p same = unions_alike (range_of a b (numbers os)) (range_of i j (numbers os)) os same
merges_alike Marks a b i j os p same = absurd p
merges_alike Keeps a b i j os p same = refl
