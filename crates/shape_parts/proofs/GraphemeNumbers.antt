-- Numbers at which graphemes begin, and what merges of graphemes leave of the numbers of a text.
use Rattle.std.proofs.Common.{ℕ, zero, suc, ◌≡◌, ◌≤◌, ◌+◌, ◌-◌, ◌⊎◌, inl, inr, Bool, true, false, if◌then◌else◌, List, [], ◌∷◌, ◌++◌, length, map, take, drop, arith, refl, sym, ap, subst, ◌∙◌}
use Rattle.std.proofs.lemmas.List.{drop-drop, drop-map, length-map, map-append, take-map, take_all}
use Rattle.buffer_glyphs.specs.declared.level.BufferClusterLevel.TheVariants.{Graphemes}
use Rattle.buffer_glyphs.specs.Events.{origins_after}
use Rattle.buffer_glyphs.specs.Levels.{Unites}
use Rattle.buffer_glyphs.specs.Merges.{least_number, merged_number}
use Rattle.buffer_glyphs.proofs.Merging.{order_kept_as}
use Rattle.buffer_glyphs.specs.Order.{AllFrom, BringsNone, IsRising, has_number}
use Rattle.buffer_glyphs.specs.Origins.{Asks, Origin, numbers, origins_merged_as}
use Rattle.buffer_glyphs.specs.Parts.{range_of}
use Rattle.buffer_glyphs.specs.Lemmas.Drawn.{drawn_drop, drawn_take}
use Rattle.buffer_glyphs.specs.Lemmas.Merges.{least_number_is, merged_in}
use Rattle.buffer_glyphs.specs.Lemmas.Numbers.{Has, has_cases, has_here, has_left, has_map, has_more, has_right, map_has}
use Rattle.buffer_glyphs.specs.Lemmas.Origins.{numbers_merged}
use Rattle.buffer_glyphs.specs.Lemmas.Parts.{order_drawn}
use Rattle.buffer_lists.specs.Turning.{groups, in_front}
use Rattle.buffer_parts.specs.Groups.{AreSingle}
use Rattle.shape_text.specs.Clusters.{grapheme_events}
use Rattle.shape_parts.specs.GraphemeLaws.{first_numbers}

-- ---- numbers that rise

all_above : (x : ℕ) (xs : List ℕ) (n : ℕ) → AllFrom (λ a b. a ≤ b) x xs → Has xs n → x ≤ n
all_above x [] n above h = cc
all_above x (y ∷ ys) n above h = elim (has_cases y n ys h) [
  | inl e ↦ subst (λ k. x ≤ k) e above.0
  | inr later ↦ all_above x ys n above.1 later
]

least_of_rising : (x : ℕ) (xs : List ℕ) → IsRising (x ∷ xs) → least_number (x ∷ xs) ≡ x
least_of_rising x xs rise =
    let least = least_number_is x xs in
    let below = least.below x (has_here x xs) in
    elim (has_cases x (least_number (x ∷ xs)) xs least.among) [
      | inl e ↦ sym e
      | inr later ↦ let above = all_above x xs (least_number (x ∷ xs)) rise.0 later in omega (arith, above, below)
    ]

-- the least of the first so many of them is the first
least_is_first : (s : List ℕ) (j : ℕ) (ns : List ℕ) → IsRising ns → BringsNone s (take 1 ns) → (m : ℕ) → Has (take j ns) m → Has s (least_number (take j ns))
least_is_first s zero ns rise first m h = cc
least_is_first s (suc j) [] rise first m h = cc
least_is_first s (suc j) (x ∷ xs) rise first m h =
    subst (Has s) (sym (least_of_rising x (take j xs) (order_drawn false (drawn_take (suc j) (x ∷ xs)) rise))) (first x (has_here x []))

-- ---- the first numbers of ranges

first_mapped : (f : ℕ → ℕ) (lens ns : List ℕ) → first_numbers lens (map f ns) ≡ map f (first_numbers lens ns)
first_mapped f [] ns = refl
first_mapped f (n ∷ lens) ns =
    ap (λ ms. ms ++ first_numbers lens (drop n (map f ns))) (take-map f 1 ns)
    ∙ ap (λ ms. map f (take 1 ns) ++ ms) (ap (first_numbers lens) (drop-map f n ns) ∙ first_mapped f lens (drop n ns))
    ∙ sym (map-append f (take 1 ns) (first_numbers lens (drop n ns)))

-- the sum of the lengths
abbrev pub total : List ℕ → ℕ
total [] = 0
total (n ∷ lens) = n + total lens

-- where no range has more than one number, each number is a first one
pub singles_are_first : (lens ns : List ℕ) → AreSingle lens → length ns ≤ total lens → BringsNone (first_numbers lens ns) ns
singles_are_first [] [] single long n h = cc
singles_are_first [] (x ∷ xs) single long n h = absurd (omega (arith, long))
singles_are_first (zero ∷ lens) ns single long n h = has_right n (take 1 ns) (first_numbers lens ns) (singles_are_first lens ns single.1 (omega (arith, long)) n h)
singles_are_first (suc zero ∷ lens) [] single long n h = cc
singles_are_first (suc zero ∷ lens) (x ∷ xs) single long n h = elim (has_cases x n xs h) [
  | inl e ↦ has_left n (x ∷ []) (first_numbers lens xs) (subst (Has (x ∷ [])) e (has_here x []))
  | inr later ↦ has_right n (x ∷ []) (first_numbers lens xs) (singles_are_first lens xs single.1 (omega (arith, long)) n later)
]
singles_are_first (suc (suc k) ∷ lens) ns single long n h = absurd (let one = single.0 in omega (arith, one))

-- ---- merges

-- numbers of a set stay in it where the least of the range is
stay_in : (s range ns : List ℕ) → ((m : ℕ) → Has range m → Has s (least_number range)) → BringsNone s ns → BringsNone s (map (merged_number range) ns)
stay_in s range ns low known n h = let source = has_map (merged_number range) n ns h in subst (Has s) source.2 (by_test source.0 source.1 (has_number range source.0) refl)
  where
    by_test : (m : ℕ) → Has ns m → (t : Bool) → has_number range m ≡ t → Has s (if t then least_number range else m)
    by_test m k true e = low m e
    by_test m k false e = known m k

taken_either : (at j n : ℕ) (ns : List ℕ) → Has (take (at + j) ns) n → Has (take at ns) n ⊎ Has (take j (drop at ns)) n
taken_either zero j n ns h = inr (subst (λ k. Has (take k ns) n) (omega arith) h)
taken_either (suc at) j n [] h =
    let one : suc at + j ≡ suc (at + j) = omega arith in
    let bad : Has (take (suc (at + j)) []) n = subst (λ k. Has (take k []) n) one h in
    let no : ⊥ = cc in
    absurd no
taken_either (suc at) j n (x ∷ xs) h =
    let one : suc at + j ≡ suc (at + j) = omega arith in
    elim (has_cases x n (take (at + j) xs) (subst (λ k. Has (take k (x ∷ xs)) n) one h)) [
      | inl e ↦ inl (subst (Has (x ∷ take at xs)) e (has_here x (take at xs)))
      | inr later ↦ elim (taken_either at j n xs later) [ inl there ↦ inl (has_more x n (take at xs) there) | inr beyond ↦ inr beyond ]
    ]

-- the merges of graphemes from an index on leave numbers of a set, where those before it are in the set, and so is the
-- first of each grapheme
pub merges_leave_first : (asks : Asks) (s : List ℕ) (at : ℕ) (lens : List ℕ) (os : List Origin) → IsRising (numbers os) → BringsNone s (take at (numbers os)) → BringsNone s (first_numbers lens (drop at (numbers os)))
    → length (numbers os) ≤ at + total lens → BringsNone s (numbers (origins_after asks Graphemes (grapheme_events Graphemes at lens) os))
merges_leave_first asks s at [] os rise before first long = λ n h. before n (subst (λ ms. Has ms n) (sym (take_all at (numbers os) (omega (arith, long)))) h)
merges_leave_first asks s at (k ∷ lens) os rise before first long =
    let ns = numbers os in
    let range = range_of at (at + k) ns in
    let mid = origins_merged_as Unites at (at + k) os in
    let seen : numbers mid ≡ map (merged_number range) ns = numbers_merged range os in
    let here : BringsNone s (take 1 (drop at ns)) = λ n h. first n (has_left n (take 1 (drop at ns)) (first_numbers lens (drop k (drop at ns))) h) in
    let wide : at + k - at ≡ k = omega arith in
    let low : (m : ℕ) → Has range m → Has s (least_number range) = least_is_first s (at + k - at) (drop at ns) (order_drawn false (drawn_drop at ns) rise) here in
    let later : BringsNone s (first_numbers lens (drop (at + k) ns)) = λ n h. first n (has_right n (take 1 (drop at ns)) (first_numbers lens (drop k (drop at ns))) (subst (λ ms. Has (first_numbers lens ms) n) (sym (drop-drop k at ns)) h)) in
    let passed : BringsNone s (take (at + k) (map (merged_number range) ns)) =
    λ n h. let source = has_map (merged_number range) n (take (at + k) ns) (subst (λ ms. Has ms n) (take-map (merged_number range) (at + k) ns) h) in
    elim (taken_either at k source.0 ns source.1) [
      | inl there ↦ stay_in s range (take at ns) low before n (subst (Has (map (merged_number range) (take at ns))) source.2 (map_has (merged_number range) source.0 (take at ns) there))
      | inr within ↦ let inside : Has range source.0 = subst (λ j. Has (take j (drop at ns)) source.0) (sym wide) within in subst (Has s) (sym (merged_in range source.0 inside) ∙ source.2) (low source.0 inside)
    ] in
    merges_leave_first asks s (at + k) lens mid
    (subst IsRising (sym seen) (order_kept_as false Unites at (at + k) ns (omega arith) rise))
    (subst (λ ms. BringsNone s (take (at + k) ms)) (sym seen) passed)
    (subst (λ ms. BringsNone s (first_numbers lens (drop (at + k) ms))) (sym seen)
    (subst (λ ms. BringsNone s (first_numbers lens ms)) (sym (drop-map (merged_number range) (at + k) ns))
    (subst (BringsNone s) (sym (first_mapped (merged_number range) lens (drop (at + k) ns))) (stay_in s range (first_numbers lens (drop (at + k) ns)) low later))))
    (let many = ap (λ ms. length ms) seen ∙ length-map ns (merged_number range) in omega (arith, many, long))

-- ---- groups

grouped_total : {X : Type 0} (p : X → X → Bool) (x : X) (gs : List (List X)) → total (map (λ ys. length ys) (in_front p x gs)) ≡ suc (total (map (λ ys. length ys) gs))
grouped_total p x [] = refl
grouped_total p x ([] ∷ gs) = omega arith
grouped_total p x ((y ∷ ys) ∷ gs) = by_test (p x y)
  where
    by_test : (b : Bool) → total (map (λ zs. length zs) (if b then (x ∷ y ∷ ys) ∷ gs else (x ∷ []) ∷ (y ∷ ys) ∷ gs)) ≡ suc (suc (length ys) + total (map (λ zs. length zs) gs))
    by_test true = omega arith
    by_test false = omega arith

-- groups have all elements
pub groups_are_all : {X : Type 0} (p : X → X → Bool) (xs : List X) → total (map (λ ys. length ys) (groups p xs)) ≡ length xs
groups_are_all p [] = refl
groups_are_all p (x ∷ xs) = grouped_total p x (groups p xs) ∙ ap suc (groups_are_all p xs)

-- an element before the first group, with its first number, brings no first number
circled_first : {X : Type 0} (p : X → X → Bool) (c : X) (g : List X) (gs : List (List X)) (m : ℕ) (ns : List ℕ)
    → BringsNone (first_numbers (map (λ ys. length ys) (g ∷ gs)) (m ∷ ns)) (first_numbers (map (λ ys. length ys) (in_front p c (g ∷ gs))) (m ∷ m ∷ ns))
circled_first p c [] gs m ns n h = h
circled_first p c (y ∷ ys) gs m ns n h = by_test (p c y) h
  where
    by_test : (b : Bool) → Has (first_numbers (map (λ zs. length zs) (if b then (c ∷ y ∷ ys) ∷ gs else (c ∷ []) ∷ (y ∷ ys) ∷ gs)) (m ∷ m ∷ ns)) n → Has (first_numbers (map (λ zs. length zs) ((y ∷ ys) ∷ gs)) (m ∷ ns)) n
    by_test true k = k
    by_test false k = elim (has_cases m n (first_numbers (map (λ zs. length zs) ((y ∷ ys) ∷ gs)) (m ∷ ns)) k) [
      | inl e ↦ subst (Has (first_numbers (map (λ zs. length zs) ((y ∷ ys) ∷ gs)) (m ∷ ns))) e (has_here m (first_numbers (map (λ zs. length zs) gs) (drop (length ys) ns)))
      | inr more ↦ more
    ]

-- some group comes first where an element is in front
first_group : {X : Type 0} (P : List (List X) → Type 0) (p : X → X → Bool) (x : X) (gs : List (List X)) → ((g : List X) (hs : List (List X)) → P (g ∷ hs)) → P (in_front p x gs)
first_group P p x [] all = all (x ∷ []) []
first_group P p x ([] ∷ gs) all = all (x ∷ []) gs
first_group P p x ((y ∷ ys) ∷ gs) all = elim (p x y) as (λ b. P (if b then (x ∷ y ∷ ys) ∷ gs else (x ∷ []) ∷ (y ∷ ys) ∷ gs)) [ true ↦ all (x ∷ y ∷ ys) gs | false ↦ all (x ∷ []) ((y ∷ ys) ∷ gs) ]

-- so an element before others, with the number of the first, brings no first number
pub circle_brings_none : {X : Type 0} (p : X → X → Bool) (c x : X) (xs : List X) (m : ℕ) (ns : List ℕ)
    → BringsNone (first_numbers (map (λ ys. length ys) (groups p (x ∷ xs))) (m ∷ ns)) (first_numbers (map (λ ys. length ys) (groups p (c ∷ x ∷ xs))) (m ∷ m ∷ ns))
circle_brings_none p c x xs m ns =
    first_group (λ gs. BringsNone (first_numbers (map (λ ys. length ys) gs) (m ∷ ns)) (first_numbers (map (λ ys. length ys) (in_front p c gs)) (m ∷ m ∷ ns))) p x (groups p xs) (λ g hs. circled_first p c g hs m ns)
