-- Merges of ranges that grow, and moves within them.
use Rattle.std.proofs.Common.{ℕ, ◌≡◌, ◌≤◌, ◌+◌, ◌-◌, ◌==◌, ◌||◌, Bool, true, false, max, if◌then◌else◌, List, [], ◌∷◌, ◌++◌, length, map, take, drop, arith, refl, ap, sym, subst, ◌∙◌, append_assoc}
use Rattle.std.specs.Prelude.{slice_range}
use Rattle.std.specs.Int.RustNames.{bit_or}
use Rattle.std.proofs.Math.Seq.{take-append_seam, drop-append_seam, drop-append-add}
use Rattle.std.proofs.lemmas.Grind.{common_steps}
use Rattle.std.proofs.lemmas.Bool.Decides.{nat_tests}
use Rattle.std.proofs.lemmas.List.{map-append, map-id, length-append, length-map, length-drop, length-take-le, drop-drop, take-append-drop}
use Rattle.std.proofs.lemmas.List.Folds.{list_any-append}
use Rattle.std.proofs.lemmas.Nat.{and_or_self}
use Rattle.std.specs.Int.Bits.{or_add_and}
use Rattle.buffer_glyphs.specs.Parts.{range_of}
use Rattle.buffer_glyphs.specs.Order.{has_number}
use Rattle.buffer_glyphs.specs.Merges.{least_number, merged_number}
use Rattle.buffer_glyphs.specs.Origins.{Origin, numbers, cast, added_outside, Manner, Unites, Marks, Keeps, origins_merged_as}
use Rattle.buffer_glyphs.specs.Lemmas.Numbers.{Has, has_here, has_more, has_left, has_map, map_has}
use Rattle.buffer_glyphs.specs.Lemmas.Merges.{least_number_is, merged_in, has_least}
use Rattle.buffer_glyphs.specs.Lemmas.Origins.{number_cast, number_outside, numbers_merged, numbers_marked}
use Rattle.buffer_glyphs.specs.Origins.{with_range_arranged}
use Rattle.buffer_glyphs.specs.Levels.{InList, manner}
use Rattle.buffer_glyphs.specs.Origins.{Asks}
use Rattle.buffer_glyphs.specs.Events.{origins_after}
use Rattle.buffer_glyphs.specs.declared.level.BufferClusterLevel.{BufferClusterLevel}
use Rattle.buffer_stages.specs.Moves.{MoveToFront, IsGrowing, MovesMergeOnce, all_moved, move_events, with_range_moved, order_of_move, reach}
use Rattle.buffer_stages.specs.Lemmas.Moves.{arranged_moved, moved_length, moved_seen, order_long}
use Rattle.buffer_lists.proofs.Lemmas.SortedEvents.{lone_merged as merged_alone}

pub map_alike : {X Y : Type 0} (f g : X → Y) (xs : List X) → ((x : X) → f x ≡ g x) → map f xs ≡ map g xs
map_alike f g [] same = refl
map_alike f g (x ∷ xs) same = rw (same x, map_alike f g xs same) refl

map_both : {X Y Z : Type 0} (f : X → Y) (g : Y → Z) (h : X → Z) (xs : List X) → ((x : X) → g (f x) ≡ h x) → map g (map f xs) ≡ map h xs
map_both f g h [] same = refl
map_both f g h (x ∷ xs) same = rw (same x, map_both f g h xs same) refl

-- what changes each origin alike where its number is among some
map_both_among : (f g h : Origin → Origin) (os : List Origin) → ((o : Origin) → Has (numbers os) o.cluster → g (f o) ≡ h o) → map g (map f os) ≡ map h os
map_both_among f g h [] same = refl
map_both_among f g h (o ∷ os) same = rw (same o (has_here o.cluster (numbers os)), map_both_among f g h os (λ p k. same p (has_more o.cluster p.cluster (numbers os) k))) refl

-- ---- ranges of the same numbers

least_below : (n : ℕ) (range : List ℕ) → Has range n → least_number range ≤ n
least_below n [] h = cc
least_below n (x ∷ xs) h = (least_number_is x xs).below n h

least_alike : (xs ys : List ℕ) → ((n : ℕ) → has_number xs n ≡ has_number ys n) → least_number xs ≡ least_number ys
least_alike [] [] same = refl
least_alike [] (y ∷ ys) same = let none : false ≡ true = same y ∙ has_here y ys in cc
least_alike (x ∷ xs) [] same = let none : true ≡ false = sym (has_here x xs) ∙ same x in cc
least_alike (x ∷ xs) (y ∷ ys) same =
    let low = least_number (x ∷ xs) in
    let other = least_number (y ∷ ys) in
    let a = least_below low (y ∷ ys) (sym (same low) ∙ (least_number_is x xs).among) in
    let b = least_below other (x ∷ xs) (same other ∙ (least_number_is y ys).among) in
    omega (arith, a, b)

merged_alike : (xs ys : List ℕ) (n : ℕ) → ((m : ℕ) → has_number xs m ≡ has_number ys m) → merged_number xs n ≡ merged_number ys n
merged_alike xs ys n same = ap (λ t. if t then least_number xs else n) (same n) ∙ ap (λ m. if has_number ys n then m else n) (least_alike xs ys same)

-- ---- one range within another

merged_has : (range ys : List ℕ) (n : ℕ) → ((m : ℕ) → Has range m → Has ys m) → Has ys n → (t : Bool) → has_number range n ≡ t → Has ys (if t then least_number range else n)
merged_has range ys n sub h true e = sub (least_number range) (has_least n range e)
merged_has range ys n sub h false e = h

merged_below : (range : List ℕ) (n : ℕ) (t : Bool) → has_number range n ≡ t → (if t then least_number range else n) ≤ n
merged_below range n true e = least_below n range e
merged_below range n false e = omega arith

-- a merge of a part of a range leaves its least number
nested_least : (range ys : List ℕ) (n : ℕ) → ((m : ℕ) → Has range m → Has ys m) → Has ys n → least_number (map (merged_number range) ys) ≡ least_number ys
nested_least range [] n sub h = cc
nested_least range (y ∷ ys) n sub h =
    let zs = map (merged_number range) (y ∷ ys) in
    let first = (least_number_is (merged_number range y) (map (merged_number range) ys)).among in
    let from = has_map (merged_number range) (least_number zs) (y ∷ ys) first in
    let there : Has (y ∷ ys) (merged_number range from.0) = merged_has range (y ∷ ys) from.0 sub from.1 (has_number range from.0) refl in
    let low = least_below (merged_number range from.0) (y ∷ ys) there in
    let same = from.2 in
    let least = least_number (y ∷ ys) in
    let high = least_below (merged_number range least) zs (map_has (merged_number range) least (y ∷ ys) (least_number_is y ys).among) in
    let down = merged_below range least (has_number range least) refl in
    omega (arith, low, same, high, down)

pub not_merged : (range : List ℕ) (n : ℕ) → has_number range n ≡ false → merged_number range n ≡ n
not_merged range n e = ap (λ t. if t then least_number range else n) e

nested_none : (range ys : List ℕ) (n : ℕ) → has_number range n ≡ false → has_number ys n ≡ false → has_number (map (merged_number range) ys) n ≡ false
nested_none range ys n e f = by_test (has_number (map (merged_number range) ys) n) refl
  where
    from_range : (k : ℕ) → Has ys k → (t : Bool) → has_number range k ≡ t → (if t then least_number range else k) ≡ n → true ≡ false
    from_range k h true g is = sym (subst (Has range) is (has_least k range g)) ∙ e
    from_range k h false g is = sym (subst (Has ys) is h) ∙ f

    by_test : (t : Bool) → has_number (map (merged_number range) ys) n ≡ t → t ≡ false
    by_test true g = let k = has_map (merged_number range) n ys g in from_range k.0 k.1 (has_number range k.0) refl k.2
    by_test false g = refl

-- a merge of a part, and then of all, is one of all
nested_number : (range ys : List ℕ) (n : ℕ) → ((m : ℕ) → Has range m → Has ys m) → merged_number (map (merged_number range) ys) (merged_number range n) ≡ merged_number ys n
nested_number range ys n sub = by_part (has_number range n) refl
  where
    zs : List ℕ
    zs = map (merged_number range) ys

    by_all : has_number range n ≡ false → (t : Bool) → has_number ys n ≡ t → merged_number zs n ≡ merged_number ys n
    by_all e true f =
        let there : Has zs n = subst (Has zs) (not_merged range n e) (map_has (merged_number range) n ys f) in
        merged_in zs n there ∙ nested_least range ys n sub f ∙ sym (merged_in ys n f)
    by_all e false f = not_merged zs n (nested_none range ys n e f) ∙ sym (not_merged ys n f)

    by_part : (t : Bool) → has_number range n ≡ t → merged_number zs (merged_number range n) ≡ merged_number ys n
    by_part true e =
        let low = least_number range in
        let among : Has range low = has_least n range e in
        let there : Has zs low = subst (Has zs) (merged_in range low among) (map_has (merged_number range) low ys (sub low among)) in
        ap (merged_number zs) (merged_in range n e) ∙ merged_in zs low there ∙ nested_least range ys n sub (sub n e) ∙ sym (merged_in ys n (sub n e))
    by_part false e = ap (merged_number zs) (not_merged range n e) ∙ by_all e (has_number ys n) refl

-- where a part's merge changes a number, that of all changes it
nested_apart : (range ys : List ℕ) (n : ℕ) → ((m : ℕ) → Has range m → Has ys m) → (n == merged_number range n) ≡ false → (n == merged_number ys n) ≡ false
nested_apart range ys n sub e = by_test (has_number range n) refl
  where
    by_test : (t : Bool) → has_number range n ≡ t → (n == merged_number ys n) ≡ false
    by_test true f =
        let low = least_number range in
        let less = least_below n range f in
        let is : merged_number range n ≡ low = merged_in range n f in
        let other : (n == low) ≡ false = ap (λ m. n == m) (sym is) ∙ e in
        let all : merged_number ys n ≡ least_number ys = merged_in ys n (sub n f) in
        let lower = least_below low ys (sub low (has_least n range f)) in
        let apart : (n == least_number ys) ≡ false = grind (arith, nat_tests, common_steps, less, other, lower) in
        ap (λ m. n == m) all ∙ apart
    by_test false f = let same : (n == n) ≡ false = ap (λ m. n == m) (sym (not_merged range n f)) ∙ e in let is : (n == n) ≡ true = grind (arith, common_steps) in cc

-- ---- a merge of the middle of three parts

abbrev outer : Manner → List Origin → Origin → Origin
outer Unites ms o = cast (merged_number (numbers ms) o.cluster) 0 o
outer Marks ms o = o
outer Keeps ms o = o

abbrev inner : Manner → List Origin → Origin → Origin
inner Unites ms o = cast (merged_number (numbers ms) o.cluster) 0 o
inner Marks ms o = added_outside 3 (least_number (numbers ms)) o
inner Keeps ms o = o

abbrev merged_middle : Manner → List Origin → List Origin → List Origin → List Origin
merged_middle m fs ms es = map (outer m ms) fs ++ (map (inner m ms) ms ++ map (outer m ms) es)

slice_middle : {X : Type 0} (fs ms es : List X) → slice_range (fs ++ (ms ++ es)) (length fs) (length fs + length ms) ≡ ms
slice_middle fs ms es =
    let count : length fs + length ms - length fs ≡ length ms = omega arith in
    ap (λ n. take n (drop (length fs) (fs ++ (ms ++ es)))) count ∙ ap (take (length ms)) (drop-append_seam fs (ms ++ es)) ∙ take-append_seam ms es

range_middle : (fs ms es : List Origin) → range_of (length fs) (length fs + length ms) (numbers (fs ++ (ms ++ es))) ≡ numbers ms
range_middle fs ms es =
    let n : Origin → ℕ = λ o. o.cluster in
    let whole : numbers (fs ++ (ms ++ es)) ≡ numbers fs ++ (numbers ms ++ numbers es) = map-append n fs (ms ++ es) ∙ ap (λ ns. numbers fs ++ ns) (map-append n ms es) in
    ap (range_of (length fs) (length fs + length ms)) whole
    ∙ ap (λ i. range_of i (i + length ms) (numbers fs ++ (numbers ms ++ numbers es))) (sym (length-map fs n))
    ∙ ap (λ i. range_of (length (numbers fs)) (length (numbers fs) + i) (numbers fs ++ (numbers ms ++ numbers es))) (sym (length-map ms n))
    ∙ slice_middle (numbers fs) (numbers ms) (numbers es)

after_middle : {X : Type 0} (fs ms es : List X) → drop (max (length fs) (length fs + length ms)) (fs ++ (ms ++ es)) ≡ es
after_middle fs ms es =
    let last : max (length fs) (length fs + length ms) ≡ length fs + length ms = grind (arith, nat_tests, common_steps) in
    ap (λ n. drop n (fs ++ (ms ++ es))) last ∙ drop-append-add fs (ms ++ es) (length ms) ∙ drop-append_seam ms es

middle_is : (m : Manner) (fs ms es : List Origin) → origins_merged_as m (length fs) (length fs + length ms) (fs ++ (ms ++ es)) ≡ merged_middle m fs ms es
middle_is Unites fs ms es =
    let u : Origin → Origin = outer Unites ms in
    ap (λ ns. map (λ (o : Origin). cast (merged_number ns o.cluster) 0 o) (fs ++ (ms ++ es))) (range_middle fs ms es) ∙ map-append u fs (ms ++ es) ∙ ap (λ os. map u fs ++ os) (map-append u ms es)
middle_is Marks fs ms es =
    let f : Origin → Origin = inner Marks ms in
    let i = length fs in
    let j = length fs + length ms in
    let os = fs ++ (ms ++ es) in
    ap (λ ns. take i os ++ map (added_outside 3 (least_number ns)) (slice_range os i j) ++ drop (max i j) os) (range_middle fs ms es)
    ∙ ap (λ xs. xs ++ map f (slice_range os i j) ++ drop (max i j) os) (take-append_seam fs (ms ++ es))
    ∙ ap (λ xs. fs ++ map f xs ++ drop (max i j) os) (slice_middle fs ms es)
    ∙ ap (λ xs. fs ++ map f ms ++ xs) (after_middle fs ms es)
    ∙ append_assoc fs (map f ms) es
    ∙ ap (λ xs. xs ++ (map f ms ++ es)) (sym (map-id fs)) ∙ ap (λ xs. map (outer Marks ms) fs ++ (map f ms ++ xs)) (sym (map-id es))
middle_is Keeps fs ms es =
    ap (λ xs. xs ++ (ms ++ es)) (sym (map-id fs)) ∙ ap (λ xs. map (outer Keeps ms) fs ++ (xs ++ es)) (sym (map-id ms)) ∙ ap (λ xs. map (outer Keeps ms) fs ++ (map (inner Keeps ms) ms ++ xs)) (sym (map-id es))

outer_alike : (m : Manner) (ms ns : List Origin) (o : Origin) → ((n : ℕ) → has_number (numbers ms) n ≡ has_number (numbers ns) n) → outer m ms o ≡ outer m ns o
outer_alike Unites ms ns o same = ap (λ n. cast n 0 o) (merged_alike (numbers ms) (numbers ns) o.cluster same)
outer_alike Marks ms ns o same = refl
outer_alike Keeps ms ns o same = refl

inner_alike : (m : Manner) (ms ns : List Origin) (o : Origin) → ((n : ℕ) → has_number (numbers ms) n ≡ has_number (numbers ns) n) → inner m ms o ≡ inner m ns o
inner_alike Unites ms ns o same = outer_alike Unites ms ns o same
inner_alike Marks ms ns o same = ap (λ n. added_outside 3 n o) (least_alike (numbers ms) (numbers ns) same)
inner_alike Keeps ms ns o same = refl

-- ---- a merge of a range within which something moved

or_swapped : (c b d : Bool) → (c || (b || d)) ≡ (b || (c || d))
or_swapped true true d = refl
or_swapped true false d = refl
or_swapped false b d = refl

pub numbers_both : (xs ys : List Origin) → numbers (xs ++ ys) ≡ numbers xs ++ numbers ys
numbers_both xs ys = map-append (λ (o : Origin). o.cluster) xs ys

has_three : (xs ys zs : List Origin) (n : ℕ) → has_number (numbers (xs ++ (ys ++ zs))) n ≡ (has_number (numbers xs) n || (has_number (numbers ys) n || has_number (numbers zs) n))
has_three xs ys zs n =
    ap (λ ns. has_number ns n) (numbers_both xs (ys ++ zs)) ∙ list_any-append (λ m. m == n) (numbers xs) (numbers (ys ++ zs))
    ∙ ap (λ ns. has_number (numbers xs) n || has_number ns n) (numbers_both ys zs) ∙ ap (λ t. has_number (numbers xs) n || t) (list_any-append (λ m. m == n) (numbers ys) (numbers zs))

has_swapped : (bs cs ds : List Origin) (n : ℕ) → has_number (numbers (cs ++ (bs ++ ds))) n ≡ has_number (numbers (bs ++ (cs ++ ds))) n
has_swapped bs cs ds n = has_three cs bs ds n ∙ or_swapped (has_number (numbers cs) n) (has_number (numbers bs) n) (has_number (numbers ds) n) ∙ sym (has_three bs cs ds n)

pub moved_middle : {X : Type 0} (fs bs cs ds es : List X) → with_range_moved (length fs) (length bs) (length cs) (fs ++ ((bs ++ (cs ++ ds)) ++ es)) ≡ fs ++ ((cs ++ (bs ++ ds)) ++ es)
moved_middle fs bs cs ds es =
    let tail = cs ++ (ds ++ es) in
    let flat : fs ++ ((bs ++ (cs ++ ds)) ++ es) ≡ fs ++ (bs ++ tail) = ap (λ xs. fs ++ xs) (append_assoc bs (cs ++ ds) es) ∙ ap (λ xs. fs ++ (bs ++ xs)) (append_assoc cs ds es) in
    let b = length fs in
    let n = length bs in
    let k = length cs in
    let at_n : drop (b + n) (fs ++ (bs ++ tail)) ≡ tail = drop-append-add fs (bs ++ tail) n ∙ drop-append_seam bs tail in
    let at_b : drop b (fs ++ (bs ++ tail)) ≡ bs ++ tail = drop-append_seam fs (bs ++ tail) in
    let last : drop (b + (n + k)) (fs ++ (bs ++ tail)) ≡ ds ++ es = drop-append-add fs (bs ++ tail) (n + k) ∙ drop-append-add bs tail k ∙ drop-append_seam cs (ds ++ es) in
    ap (with_range_moved b n k) flat
    ∙ ap (λ xs. xs ++ (take k (drop (b + n) (fs ++ (bs ++ tail))) ++ take n (drop b (fs ++ (bs ++ tail)))) ++ drop (b + (n + k)) (fs ++ (bs ++ tail))) (take-append_seam fs (bs ++ tail))
    ∙ ap (λ xs. fs ++ (take k xs ++ take n (drop b (fs ++ (bs ++ tail)))) ++ drop (b + (n + k)) (fs ++ (bs ++ tail))) at_n
    ∙ ap (λ xs. fs ++ (xs ++ take n (drop b (fs ++ (bs ++ tail)))) ++ drop (b + (n + k)) (fs ++ (bs ++ tail))) (take-append_seam cs (ds ++ es))
    ∙ ap (λ xs. fs ++ (cs ++ take n xs) ++ drop (b + (n + k)) (fs ++ (bs ++ tail))) at_b
    ∙ ap (λ xs. fs ++ (cs ++ xs) ++ drop (b + (n + k)) (fs ++ (bs ++ tail))) (take-append_seam bs tail)
    ∙ ap (λ xs. fs ++ (cs ++ bs) ++ xs) last
    ∙ regrouped
  where
    regrouped : (fs ++ (cs ++ bs)) ++ (ds ++ es) ≡ fs ++ ((cs ++ (bs ++ ds)) ++ es)
    regrouped = simp append_assoc

swapped_length : {X : Type 0} (bs cs ds : List X) → length (cs ++ (bs ++ ds)) ≡ length (bs ++ (cs ++ ds))
swapped_length bs cs ds = omega (arith, length-append cs (bs ++ ds), length-append bs ds, length-append bs (cs ++ ds), length-append cs ds)

map_three : {X Y : Type 0} (f : X → Y) (xs ys zs : List X) → map f (xs ++ (ys ++ zs)) ≡ map f xs ++ (map f ys ++ map f zs)
map_three f xs ys zs = map-append f xs (ys ++ zs) ∙ ap (λ ws. map f xs ++ ws) (map-append f ys zs)

merged_moved_middle : (m : Manner) (fs bs cs ds es : List Origin)
    → origins_merged_as m (length fs) (length fs + length (bs ++ (cs ++ ds))) (with_range_moved (length fs) (length bs) (length cs) (fs ++ ((bs ++ (cs ++ ds)) ++ es)))
    ≡ with_range_moved (length fs) (length bs) (length cs) (origins_merged_as m (length fs) (length fs + length (bs ++ (cs ++ ds))) (fs ++ ((bs ++ (cs ++ ds)) ++ es)))
merged_moved_middle m fs bs cs ds es =
    let ms = bs ++ (cs ++ ds) in
    let ns = cs ++ (bs ++ ds) in
    let f = outer m ms in
    let g = inner m ms in
    let first : origins_merged_as m (length fs) (length fs + length ms) (with_range_moved (length fs) (length bs) (length cs) (fs ++ (ms ++ es))) ≡ merged_middle m fs ns es =
    ap (origins_merged_as m (length fs) (length fs + length ms)) (moved_middle fs bs cs ds es) ∙ ap (λ j. origins_merged_as m (length fs) (length fs + j) (fs ++ (ns ++ es))) (sym (swapped_length bs cs ds)) ∙ middle_is m fs ns es in
    let same : (n : ℕ) → has_number (numbers ns) n ≡ has_number (numbers ms) n = has_swapped bs cs ds in
    let out : (o : Origin) → outer m ns o ≡ outer m ms o = λ o. outer_alike m ns ms o same in
    let within : (o : Origin) → inner m ns o ≡ inner m ms o = λ o. inner_alike m ns ms o same in
    let alike : merged_middle m fs ns es ≡ map f fs ++ ((map g cs ++ (map g bs ++ map g ds)) ++ map f es) =
    ap (λ xs. xs ++ (map (inner m ns) ns ++ map (outer m ns) es)) (map_alike (outer m ns) f fs out)
    ∙ ap (λ xs. map f fs ++ (xs ++ map (outer m ns) es)) (map_alike (inner m ns) g ns within ∙ map_three g cs bs ds)
    ∙ ap (λ xs. map f fs ++ ((map g cs ++ (map g bs ++ map g ds)) ++ xs)) (map_alike (outer m ns) f es out) in
    let second : origins_merged_as m (length fs) (length fs + length ms) (fs ++ (ms ++ es)) ≡ map f fs ++ ((map g bs ++ (map g cs ++ map g ds)) ++ map f es) =
    middle_is m fs ms es ∙ ap (λ xs. map f fs ++ (xs ++ map f es)) (map_three g bs cs ds) in
    let last : with_range_moved (length fs) (length bs) (length cs) (map f fs ++ ((map g bs ++ (map g cs ++ map g ds)) ++ map f es)) ≡ map f fs ++ ((map g cs ++ (map g bs ++ map g ds)) ++ map f es) =
    ap (λ i. with_range_moved i (length bs) (length cs) (map f fs ++ ((map g bs ++ (map g cs ++ map g ds)) ++ map f es))) (sym (length-map fs f))
    ∙ ap (λ i. with_range_moved (length (map f fs)) i (length cs) (map f fs ++ ((map g bs ++ (map g cs ++ map g ds)) ++ map f es))) (sym (length-map bs g))
    ∙ ap (λ i. with_range_moved (length (map f fs)) (length (map g bs)) i (map f fs ++ ((map g bs ++ (map g cs ++ map g ds)) ++ map f es))) (sym (length-map cs g))
    ∙ moved_middle (map f fs) (map g bs) (map g cs) (map g ds) (map f es) in
    first ∙ alike ∙ sym last ∙ ap (with_range_moved (length fs) (length bs) (length cs)) (sym second)

cut_at : {X : Type 0} (i n : ℕ) (xs : List X) → drop i xs ≡ take n (drop i xs) ++ drop (i + n) xs
cut_at i n xs = sym (take-append-drop n (drop i xs)) ∙ ap (λ ys. take n (drop i xs) ++ ys) (drop-drop n i xs)

parted : {X : Type 0} (b n k d : ℕ) (xs : List X) → xs ≡ take b xs ++ ((take n (drop b xs) ++ (take k (drop (b + n) xs) ++ take d (drop (b + n + k) xs))) ++ drop (b + n + k + d) xs)
parted b n k d xs =
    let rest = drop (b + n + k + d) xs in
    let ds = take d (drop (b + n + k) xs) in
    let cs = take k (drop (b + n) xs) in
    let bs = take n (drop b xs) in
    sym (take-append-drop b xs) ∙ ap (λ ys. take b xs ++ ys)
    (cut_at b n xs ∙ ap (λ ys. bs ++ ys) (cut_at (b + n) k xs ∙ ap (λ ys. cs ++ ys) (cut_at (b + n + k) d xs)) ∙ ap (λ ys. bs ++ ys) (sym (append_assoc cs ds rest)) ∙ sym (append_assoc bs (cs ++ ds) rest))

-- a merge of a range, within which something moved, and the move after the merge
pub merged_moved : (m : Manner) (b n k c : ℕ) (os : List Origin) → b + (n + k) ≤ c → c ≤ length os → origins_merged_as m b c (with_range_moved b n k os) ≡ with_range_moved b n k (origins_merged_as m b c os)
merged_moved m b n k c os le fits =
    let d = c - (b + n + k) in
    let fs = take b os in
    let bs = take n (drop b os) in
    let cs = take k (drop (b + n) os) in
    let ds = take d (drop (b + n + k) os) in
    let es = drop (b + n + k + d) os in
    let ms = bs ++ (cs ++ ds) in
    let a : length fs ≡ b = length-take-le b os (omega (arith, le, fits)) in
    let e : length bs ≡ n = length-take-le n (drop b os) (omega (arith, le, fits, length-drop b os)) in
    let g : length cs ≡ k = length-take-le k (drop (b + n) os) (omega (arith, le, fits, length-drop (b + n) os)) in
    let h : length ds ≡ d = length-take-le d (drop (b + n + k) os) (omega (arith, le, fits, length-drop (b + n + k) os)) in
    let total : length fs + length ms ≡ c = omega (arith, a, e, g, h, length-append bs (cs ++ ds), length-append cs ds, le) in
    let P : ℕ → ℕ → ℕ → ℕ → List Origin → Type 0 = λ i x y j xs. origins_merged_as m i j (with_range_moved i x y xs) ≡ with_range_moved i x y (origins_merged_as m i j xs) in
    let base : P (length fs) (length bs) (length cs) (length fs + length ms) (fs ++ (ms ++ es)) = merged_moved_middle m fs bs cs ds es in
    let one = subst (λ j. P (length fs) (length bs) (length cs) j (fs ++ (ms ++ es))) total base in
    let two = subst (λ i. P i (length bs) (length cs) c (fs ++ (ms ++ es))) a one in
    let three = subst (λ x. P b x (length cs) c (fs ++ (ms ++ es))) e two in
    let four = subst (λ y. P b n y c (fs ++ (ms ++ es))) g three in
    subst (λ xs. P b n k c xs) (sym (parted b n k d os)) four

-- ---- a merge of a range, and then of a longer one

cast_again : (m1 m : ℕ) (o : Origin) (t : Bool) → (o.cluster == m1) ≡ t → ((o.cluster == m1) ≡ false → (o.cluster == m) ≡ false) → cast m 0 (if t then o else record { cluster = m1; flags = 0 }) ≡ cast m 0 o
cast_again m1 m o true e apart = refl
cast_again m1 m o false e apart =
    let blank : Origin = record { cluster = m; flags = 0 } in
    let right : cast m 0 o ≡ blank = ap (λ t. if t then o else blank) (apart e) in
    by_test (m1 == m) refl ∙ sym right
  where
    blank_of : ℕ → Origin
    blank_of n = record { cluster = n; flags = 0 }

    by_test : (t : Bool) → (m1 == m) ≡ t → (if t then blank_of m1 else blank_of m) ≡ blank_of m
    by_test true f = let same : m1 ≡ m = grind (arith, common_steps, f) in ap blank_of same
    by_test false f = refl

cast_nested : (range ys : List ℕ) (o : Origin) → ((n : ℕ) → Has range n → Has ys n)
    → cast (merged_number (map (merged_number range) ys) (cast (merged_number range o.cluster) 0 o).cluster) 0 (cast (merged_number range o.cluster) 0 o) ≡ cast (merged_number ys o.cluster) 0 o
cast_nested range ys o sub =
    let m1 = merged_number range o.cluster in
    let m = merged_number ys o.cluster in
    ap (λ n. cast (merged_number (map (merged_number range) ys) n) 0 (cast m1 0 o)) (number_cast m1 0 o)
    ∙ ap (λ n. cast n 0 (cast m1 0 o)) (nested_number range ys o.cluster sub)
    ∙ cast_again m1 m o (o.cluster == m1) refl (nested_apart range ys o.cluster sub)

or_again : (f : ℕ) → bit_or (bit_or f 3) 3 ≡ bit_or f 3
or_again f = omega (arith, or_add_and (bit_or f 3) 3, and_or_self 3 f)

marked_again : (l1 l : ℕ) (o : Origin) → l1 ≤ o.cluster → l ≤ l1 → added_outside 3 l (added_outside 3 l1 o) ≡ added_outside 3 l o
marked_again l1 l o low lower = by_test (o.cluster == l) refl
  where
    by_first : (o.cluster == l) ≡ false → (t : Bool) → added_outside 3 l (if t then o else record o { flags = bit_or o.flags 3 }) ≡ record o { flags = bit_or o.flags 3 }
    by_first e true = ap (λ t. if t then o else record o { flags = bit_or o.flags 3 }) e
    by_first e false = ap (λ t. if t then record o { flags = bit_or o.flags 3 } else record o { flags = bit_or (bit_or o.flags 3) 3 }) e ∙ ap (λ n. record o { flags = n }) (or_again o.flags)

    by_test : (t : Bool) → (o.cluster == l) ≡ t → added_outside 3 l (added_outside 3 l1 o) ≡ (if t then o else record o { flags = bit_or o.flags 3 })
    by_test true e =
        let at : o.cluster ≡ l = grind (arith, common_steps, e) in
        let there : o.cluster ≡ l1 = omega (arith, at, low, lower) in
        let same : (o.cluster == l1) ≡ true = grind (arith, common_steps, there) in
        ap (λ t. added_outside 3 l (if t then o else record o { flags = bit_or o.flags 3 })) same ∙ ap (λ t. if t then o else record o { flags = bit_or o.flags 3 }) e
    by_test false e = by_first e (o.cluster == l1)

numbers_inner : (ms : List Origin) → numbers (map (inner Marks ms) ms) ≡ numbers ms
numbers_inner ms = map_both (inner Marks ms) (λ (o : Origin). o.cluster) (λ (o : Origin). o.cluster) ms (λ o. number_outside 3 (least_number (numbers ms)) o)

part_has : (ms gs : List Origin) (n : ℕ) → Has (numbers ms) n → Has (numbers (ms ++ gs)) n
part_has ms gs n h = subst (λ ns. Has ns n) (sym (numbers_both ms gs)) (has_left n (numbers ms) (numbers gs) h)

-- what a merge of a part leaves of a range
left_of : Manner → List Origin → List Origin → List Origin
left_of m ms gs = map (inner m ms) ms ++ map (outer m ms) gs

numbers_united : (ms gs : List Origin) → numbers (map (inner Unites ms) ms ++ map (outer Unites ms) gs) ≡ map (merged_number (numbers ms)) (numbers (ms ++ gs))
numbers_united ms gs = ap numbers (sym (map-append (outer Unites ms) ms gs)) ∙ numbers_merged (numbers ms) (ms ++ gs)

numbers_left : (ms gs : List Origin) → numbers (map (inner Marks ms) ms ++ map (outer Marks ms) gs) ≡ numbers (ms ++ gs)
numbers_left ms gs =
    numbers_both (map (inner Marks ms) ms) (map (outer Marks ms) gs) ∙ ap (λ ns. ns ++ numbers (map (outer Marks ms) gs)) (numbers_inner ms)
    ∙ ap (λ os. numbers ms ++ numbers os) (map-id gs) ∙ sym (numbers_both ms gs)

outer_again : (m : Manner) (ms gs : List Origin) (o : Origin) → outer m (map (inner m ms) ms ++ map (outer m ms) gs) (outer m ms o) ≡ outer m (ms ++ gs) o
outer_again Unites ms gs o =
    let moved_to = cast (merged_number (numbers ms) o.cluster) 0 o in
    ap (λ ns. cast (merged_number ns moved_to.cluster) 0 moved_to) (numbers_united ms gs) ∙ cast_nested (numbers ms) (numbers (ms ++ gs)) o (part_has ms gs)
outer_again Marks ms gs o = refl
outer_again Keeps ms gs o = refl

inner_outer_again : (m : Manner) (ms gs : List Origin) (o : Origin) → inner m (map (inner m ms) ms ++ map (outer m ms) gs) (outer m ms o) ≡ inner m (ms ++ gs) o
inner_outer_again Unites ms gs o = outer_again Unites ms gs o
inner_outer_again Marks ms gs o = ap (λ ns. added_outside 3 (least_number ns) o) (numbers_left ms gs)
inner_outer_again Keeps ms gs o = refl

inner_again : (m : Manner) (ms gs : List Origin) (o : Origin) → Has (numbers ms) o.cluster → inner m (map (inner m ms) ms ++ map (outer m ms) gs) (inner m ms o) ≡ inner m (ms ++ gs) o
inner_again Unites ms gs o h = outer_again Unites ms gs o
inner_again Marks ms gs o h =
    let low = least_number (numbers ms) in
    let lower = least_below low (numbers (ms ++ gs)) (part_has ms gs low (has_least o.cluster (numbers ms) h)) in
    ap (λ ns. added_outside 3 (least_number ns) (added_outside 3 low o)) (numbers_left ms gs)
    ∙ marked_again low (least_number (numbers (ms ++ gs))) o (least_below o.cluster (numbers ms) h) lower
inner_again Keeps ms gs o h = refl

merged_again_middle : (m : Manner) (fs ms gs es : List Origin)
    → origins_merged_as m (length fs) (length fs + length (ms ++ gs)) (origins_merged_as m (length fs) (length fs + length ms) (fs ++ ((ms ++ gs) ++ es)))
    ≡ origins_merged_as m (length fs) (length fs + length (ms ++ gs)) (fs ++ ((ms ++ gs) ++ es))
merged_again_middle m fs ms gs es =
    let f = outer m ms in
    let g = inner m ms in
    let ws = map g ms ++ map f gs in
    let first : origins_merged_as m (length fs) (length fs + length ms) (fs ++ ((ms ++ gs) ++ es)) ≡ map f fs ++ (ws ++ map f es) =
    ap (λ xs. origins_merged_as m (length fs) (length fs + length ms) (fs ++ xs)) (append_assoc ms gs es) ∙ middle_is m fs ms (gs ++ es)
    ∙ ap (λ xs. map f fs ++ (map g ms ++ xs)) (map-append f gs es) ∙ ap (λ xs. map f fs ++ xs) (sym (append_assoc (map g ms) (map f gs) (map f es))) in
    let count : length ws ≡ length (ms ++ gs) = omega (arith, length-append (map g ms) (map f gs), length-append ms gs, length-map ms g, length-map gs f) in
    let second : origins_merged_as m (length fs) (length fs + length (ms ++ gs)) (map f fs ++ (ws ++ map f es)) ≡ merged_middle m (map f fs) ws (map f es) =
    ap (λ i. origins_merged_as m i (i + length (ms ++ gs)) (map f fs ++ (ws ++ map f es))) (sym (length-map fs f))
    ∙ ap (λ i. origins_merged_as m (length (map f fs)) (length (map f fs) + i) (map f fs ++ (ws ++ map f es))) (sym count)
    ∙ middle_is m (map f fs) ws (map f es) in
    let fronts : map (outer m ws) (map f fs) ≡ map (outer m (ms ++ gs)) fs = map_both f (outer m ws) (outer m (ms ++ gs)) fs (outer_again m ms gs) in
    let backs : map (outer m ws) (map f es) ≡ map (outer m (ms ++ gs)) es = map_both f (outer m ws) (outer m (ms ++ gs)) es (outer_again m ms gs) in
    let within : map (inner m ws) ws ≡ map (inner m (ms ++ gs)) (ms ++ gs) =
    map-append (inner m ws) (map g ms) (map f gs)
    ∙ ap (λ xs. xs ++ map (inner m ws) (map f gs)) (map_both_among g (inner m ws) (inner m (ms ++ gs)) ms (inner_again m ms gs))
    ∙ ap (λ xs. map (inner m (ms ++ gs)) ms ++ xs) (map_both f (inner m ws) (inner m (ms ++ gs)) gs (inner_outer_again m ms gs))
    ∙ sym (map-append (inner m (ms ++ gs)) ms gs) in
    ap (origins_merged_as m (length fs) (length fs + length (ms ++ gs))) first ∙ second
    ∙ ap (λ xs. xs ++ (map (inner m ws) ws ++ map (outer m ws) (map f es))) fronts
    ∙ ap (λ xs. map (outer m (ms ++ gs)) fs ++ (xs ++ map (outer m ws) (map f es))) within
    ∙ ap (λ xs. map (outer m (ms ++ gs)) fs ++ (map (inner m (ms ++ gs)) (ms ++ gs) ++ xs)) backs
    ∙ sym (middle_is m fs (ms ++ gs) es)

parted_twice : {X : Type 0} (b n k : ℕ) (xs : List X) → xs ≡ take b xs ++ ((take n (drop b xs) ++ take k (drop (b + n) xs)) ++ drop (b + n + k) xs)
parted_twice b n k xs =
    let bs = take n (drop b xs) in
    sym (take-append-drop b xs) ∙ ap (λ ys. take b xs ++ ys)
    (cut_at b n xs ∙ ap (λ ys. bs ++ ys) (cut_at (b + n) k xs) ∙ sym (append_assoc bs (take k (drop (b + n) xs)) (drop (b + n + k) xs)))

-- a merge of a range, and then of one that is as long or longer, is that of the longer
pub merged_again : (m : Manner) (b n k : ℕ) (os : List Origin) → n ≤ k → b + k ≤ length os → origins_merged_as m b (b + k) (origins_merged_as m b (b + n) os) ≡ origins_merged_as m b (b + k) os
merged_again m b n k os le fits =
    let d = k - n in
    let fs = take b os in
    let ms = take n (drop b os) in
    let gs = take d (drop (b + n) os) in
    let es = drop (b + n + d) os in
    let a : length fs ≡ b = length-take-le b os (omega (arith, le, fits)) in
    let e : length ms ≡ n = length-take-le n (drop b os) (omega (arith, le, fits, length-drop b os)) in
    let g : length gs ≡ d = length-take-le d (drop (b + n) os) (omega (arith, le, fits, length-drop (b + n) os)) in
    let total : length (ms ++ gs) ≡ k = omega (arith, e, g, length-append ms gs, le) in
    let P : ℕ → ℕ → ℕ → List Origin → Type 0 = λ i x y xs. origins_merged_as m i (i + y) (origins_merged_as m i (i + x) xs) ≡ origins_merged_as m i (i + y) xs in
    let base : P (length fs) (length ms) (length (ms ++ gs)) (fs ++ ((ms ++ gs) ++ es)) = merged_again_middle m fs ms gs es in
    let one = subst (λ y. P (length fs) (length ms) y (fs ++ ((ms ++ gs) ++ es))) total base in
    let two = subst (λ i. P i (length ms) k (fs ++ ((ms ++ gs) ++ es))) a one in
    let three = subst (λ x. P b x k (fs ++ ((ms ++ gs) ++ es))) e two in
    subst (λ xs. P b n k xs) (sym (parted_twice b n d os)) three

-- ---- moves to one index, each of a range as long as those before it or longer

pub merged_length : (m : Manner) (from to : ℕ) (os : List Origin) → length (origins_merged_as m from to os) ≡ length os
merged_length Unites from to os = length-map os (λ (o : Origin). cast (merged_number (range_of from to (numbers os)) o.cluster) 0 o)
merged_length Marks from to os =
    let n : Origin → ℕ = λ o. o.cluster in
    sym (length-map (origins_merged_as Marks from to os) n) ∙ ap length (numbers_marked 3 from to os) ∙ length-map os n
merged_length Keeps from to os = refl

pub reach_grows : (n : ℕ) (ms : List MoveToFront) → IsGrowing n ms → n ≤ reach n ms
reach_grows n [] g = omega arith
reach_grows n (m ∷ ms) g = let rest = reach_grows (m.passed + m.taken) ms g.1 in let first = g.0 in omega (arith, first, rest)

moves_after : (asks : Asks) (level : BufferClusterLevel) (b n : ℕ) (ms : List MoveToFront) (os : List Origin) → IsGrowing n ms → b + reach n ms ≤ length os
    → origins_after asks level (move_events b ms) (origins_merged_as (manner InList level) b (b + n) os) ≡ all_moved b ms (origins_merged_as (manner InList level) b (b + reach n ms) os)
moves_after asks level b n [] os g fits = refl
moves_after asks level b n (m ∷ ms) os g fits =
    let how = manner InList level in
    let p = m.passed in
    let t = m.taken in
    let r = p + t in
    let all = reach r ms in
    let up = reach_grows r ms g.1 in
    let inside : b + (p + t) ≤ length os = omega (arith, up, fits) in
    let order = order_of_move p t in
    let long = order_long p t in
    let swapped = with_range_moved b p t os in
    let event : with_range_arranged b order (origins_merged_as how b (b + length order) (origins_merged_as how b (b + n) os)) ≡ origins_merged_as how b (b + r) swapped =
    ap (λ j. with_range_arranged b order (origins_merged_as how b (b + j) (origins_merged_as how b (b + n) os))) long
    ∙ ap (with_range_arranged b order) (merged_again how b n r os g.0 inside)
    ∙ arranged_moved b p t (origins_merged_as how b (b + r) os) (omega (arith, inside, merged_length how b (b + r) os))
    ∙ sym (merged_moved how b p t (b + r) os (omega arith) inside) in
    let size = moved_length b p t os inside in
    ap (origins_after asks level (move_events b ms)) event
    ∙ moves_after asks level b r ms swapped g.1 (omega (arith, size, fits))
    ∙ ap (all_moved b ms) (merged_moved how b p t (b + all) os (omega (arith, up)) fits)

-- they leave what one merge of the longest leaves, in the order to which they move
pub moves_merge_once : MovesMergeOnce
moves_merge_once asks level b ms os g fits =
    ap (origins_after asks level (move_events b ms)) (sym (merged_alone (manner InList level) b os)) ∙ moves_after asks level b 1 ms os g fits

-- what is seen of elements that moved
pub all_moved_seen : {X Y : Type 0} (f : X → Y) (b : ℕ) (ms : List MoveToFront) (xs : List X) → map f (all_moved b ms xs) ≡ all_moved b ms (map f xs)
all_moved_seen f b [] xs = refl
all_moved_seen f b (m ∷ ms) xs = all_moved_seen f b ms (with_range_moved b m.passed m.taken xs) ∙ ap (all_moved b ms) (moved_seen f b m.passed m.taken xs)
