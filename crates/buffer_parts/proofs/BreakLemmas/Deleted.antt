-- Deletions leave what is unsafe to break, where clusters are in order.
use Rattle.std.proofs.Common.{ℕ, ◌≡◌, ◌≢◌, ◌≤◌, ◌<◌, ◌==◌, ◌&&◌, ◌||◌, inl, inr, nat_lt, Bool, true, false, if◌then◌else◌, List, [], ◌∷◌, ◌++◌, Option, Some, None, length, map, take, drop, arith, refl, ap, sym, subst, ◌∙◌}
use Rattle.std.specs.List.{list_all}
use Rattle.std.proofs.lemmas.Grind.{common_steps}
use Rattle.std.proofs.lemmas.Bool.Decides.{nat_tests}
use Rattle.std.proofs.lemmas.List.{map-append, take-append-drop, drop-map, length-drop, length-take}
use Rattle.buffer_glyphs.specs.declared.level.BufferClusterLevel.{BufferClusterLevel}
use Rattle.buffer_glyphs.specs.Parts.{range_of, first_of, last_of, is_number, last_from}
use Rattle.buffer_glyphs.specs.Order.{IsChain, IsOrdered}
use Rattle.buffer_glyphs.specs.Merges.{least_number, merged_number, merged_numbers, numbers_merged_as}
use Rattle.buffer_glyphs.specs.Origins.{Origin, numbers, cast, added_outside, Manner, Unites, Marks, Keeps, InList, manner, origins_merged_as, end_cast, alone_deleted, one_deleted, first_deleted, origins_deleted, is_unsafe, origins_handed_if}
use Rattle.buffer_glyphs.specs.Lemmas.Numbers.{Has, has_here, has_more, has_cases, has_either, has_last, MayHave}
use Rattle.buffer_glyphs.specs.Lemmas.Origins.{number_cast, numbers_merged_by}
use Rattle.buffer_glyphs.specs.Lemmas.Merges.{chain_left, chain_right, chain_across}
use Rattle.buffer_glyphs.specs.Lemmas.Deletions.{no_last, last_is}
use Rattle.buffer_glyphs.specs.Lemmas.Drawn.{last_more}
use Rattle.buffer_glyphs.specs.Lemmas.Ends.{from_has, from_first, to_last}
use Rattle.buffer_parts.specs.Breaks.Unsafe.{is_unsafe_of, has_unsafe_of}
use Rattle.buffer_parts.proofs.BreakLemmas.Any.{any_here, any_more, any_cases, any_left, any_right, any_either, any_changed}
use Rattle.buffer_parts.proofs.BreakLemmas.Flags.{unsafe_of, of_unsafe, outside_stays}
use Rattle.buffer_parts.proofs.BreakLemmas.Handed.{handing_stays, handing_gives, IsBeside, seam_beside, beside_range, first_same}
use Rattle.buffer_parts.proofs.BreakLemmas.Merged.{united_stays, united_ordered, merged_again}
use Rattle.buffer_stages.specs.Lemmas.Nested.{numbers_both}
use Rattle.buffer_facts.proofs.Numbers.{some_is, same_by_test as equal_test, test_of_same as test_equal}
use Rattle.buffer_facts.proofs.Truth.{both_true, and_true}

-- an unsafe origin of another cluster than the one at the end
all_of : (c p : ℕ) (os : List Origin) → list_all (λ (k : Origin). k.cluster == p) os ≡ true → has_unsafe_of c os ≡ true → c ≡ p
all_of c p [] all h = cc
all_of c p (o ∷ os) all h = by_test (o.cluster == p) refl all (all_of c p os)
  where
    by_test : (t : Bool) → (o.cluster == p) ≡ t → (t && list_all (λ (k : Origin). k.cluster == p) os) ≡ true → (list_all (λ (k : Origin). k.cluster == p) os ≡ true → has_unsafe_of c os ≡ true → c ≡ p) → c ≡ p
    by_test false e a rest = cc
    by_test true e a rest = elim (any_cases (is_unsafe_of c) o os h) [
      | inl here ↦ sym (unsafe_of c o here).0 ∙ equal_test o.cluster p e
      | inr later ↦ rest a later
    ]

end_stays : (c p : ℕ) (x : Origin) (qs : List Origin) → c ≢ p → has_unsafe_of c qs ≡ true → has_unsafe_of c (end_cast p x qs) ≡ true
end_stays c p x [] ne h = h
end_stays c p x (q ∷ qs) ne h = by_test (list_all (λ (k : Origin). k.cluster == p) (q ∷ qs)) refl (end_stays c p x qs ne)
  where
    by_test : (t : Bool) → list_all (λ (k : Origin). k.cluster == p) (q ∷ qs) ≡ t → (has_unsafe_of c qs ≡ true → has_unsafe_of c (end_cast p x qs) ≡ true)
        → has_unsafe_of c (if t then map (cast x.cluster x.flags) (q ∷ qs) else q ∷ end_cast p x qs) ≡ true
    by_test true e rest = absurd (ne (all_of c p (q ∷ qs) e h))
    by_test false e rest = elim (any_cases (is_unsafe_of c) q qs h) [
      | inl here ↦ any_here (is_unsafe_of c) q (end_cast p x qs) here
      | inr later ↦ any_more (is_unsafe_of c) q (end_cast p x qs) (rest later)
    ]

cast_has : (n flags k : ℕ) (qs : List Origin) → Has (numbers (map (cast n flags) qs)) k → n ≡ k
cast_has n flags k [] h = cc
cast_has n flags k (q ∷ qs) h = elim (has_cases (cast n flags q).cluster k (numbers (map (cast n flags) qs)) h) [
  | inl e ↦ sym (number_cast n flags q) ∙ e
  | inr later ↦ cast_has n flags k qs later
]

all_same : (p : ℕ) (qs : List Origin) → ((k : ℕ) → Has (numbers qs) k → k ≡ p) → list_all (λ (k : Origin). k.cluster == p) qs ≡ true
all_same p [] same = refl
all_same p (q ∷ qs) same = and_true (q.cluster == p) (list_all (λ (k : Origin). k.cluster == p) qs) (test_equal q.cluster p (same q.cluster (has_here q.cluster (numbers qs)))) (all_same p qs (λ k h. same k (has_more q.cluster k (numbers qs) h)))

-- what is not in the rest of a list whose last is p, where the rest is the end of its own
in_rest : (p : ℕ) (x q : Origin) (qs : List Origin) → last_of (numbers (q ∷ qs)) ≡ Some p → (last_of (numbers qs) ≡ Some p → Has (numbers (end_cast p x qs)) p → ⊥) → Has (numbers (end_cast p x qs)) p → ⊥
in_rest p x q [] last rest there = cc
in_rest p x q (r ∷ rs) last rest there = rest (sym (last_more q.cluster r.cluster (numbers rs)) ∙ last) there

-- where clusters fall, none of the last cluster is left as the end is moved to another
pub none_left : (p : ℕ) (x : Origin) (qs : List Origin) → IsChain (λ m n. n ≤ m) (numbers qs) → last_of (numbers qs) ≡ Some p → x.cluster ≢ p → Has (numbers (end_cast p x qs)) p → ⊥
none_left p x [] falls last ne h = cc
none_left p x (q ∷ qs) falls last ne h = by_test (list_all (λ (k : Origin). k.cluster == p) (q ∷ qs)) refl h (λ l there. none_left p x qs falls.1 l ne there)
  where
    at : last_from q.cluster (numbers qs) ≡ p
    at = some_is (last_from q.cluster (numbers qs)) p (sym (last_is q.cluster (numbers qs)) ∙ last)

    by_test : (t : Bool) → list_all (λ (k : Origin). k.cluster == p) (q ∷ qs) ≡ t → Has (numbers (if t then map (cast x.cluster x.flags) (q ∷ qs) else q ∷ end_cast p x qs)) p
        → (last_of (numbers qs) ≡ Some p → Has (numbers (end_cast p x qs)) p → ⊥) → ⊥
    by_test true e g rest = ne (cast_has x.cluster x.flags p (q ∷ qs) g)
    by_test false e g rest = elim (has_cases q.cluster p (numbers (end_cast p x qs)) g) [
      | inl here ↦
          let all = all_same p (q ∷ qs) (λ k there.
          let high : k ≤ q.cluster = from_first (λ m n. n ≤ m) (λ m. omega arith) q.cluster k (numbers qs) falls.0 there in
          let low : last_from q.cluster (numbers qs) ≤ k = to_last (λ m n. n ≤ m) (λ m. omega arith) q.cluster k (numbers qs) falls there in
          omega (arith, high, low, at, here)) in
          let no : true ≡ false = sym all ∙ e in cc
      | inr later ↦ in_rest p x q qs last rest later
    ]

-- the last of some numbers is among them
last_has : (p : ℕ) (ns : List ℕ) → last_of ns ≡ Some p → Has ns p
last_has p ns e = subst (MayHave ns) e (has_last ns)

-- clusters in order, of which the last before an origin is greater, fall; so none of it is left as that end is moved
ordered_left : (p : ℕ) (front : List Origin) (x : Origin) (back : List Origin) → IsOrdered (numbers front ++ x.cluster ∷ numbers back) → last_of (numbers front) ≡ Some p → x.cluster < p → Has (numbers (end_cast p x front ++ back)) p → ⊥
ordered_left p front x back (inl rises) last lt h =
    let up : p ≤ x.cluster = chain_across (λ m n. m ≤ n) p x.cluster (numbers front) (x.cluster ∷ numbers back) rises (last_has p (numbers front) last) (has_here x.cluster (numbers back)) in
    omega (arith, up, lt)
ordered_left p front x back (inr falls) last lt h =
    let before = chain_left (λ m n. n ≤ m) (numbers front) (x.cluster ∷ numbers back) falls in
    let after = chain_right (λ m n. n ≤ m) (numbers front) (x.cluster ∷ numbers back) falls in
    let ne : x.cluster ≢ p = λ e. omega (arith, e, lt) in
    elim (has_either p (numbers (end_cast p x front)) (numbers back) (subst (λ (ns : List ℕ). Has ns p) (numbers_both (end_cast p x front) back) h)) [
      | inl there ↦ none_left p x front before last ne there
      | inr beyond ↦ let up : p ≤ x.cluster = from_has (λ m n. n ≤ m) x.cluster p (numbers back) after.0 beyond in omega (arith, up, lt)
    ]

-- an unsafe origin before the one that is deleted
front_stays : (level : BufferClusterLevel) (c : ℕ) (front : List Origin) (x : Origin) (back : List Origin) → IsOrdered (numbers front ++ x.cluster ∷ numbers back) → Has (numbers (one_deleted level front x back)) c → has_unsafe_of c front ≡ true
    → has_unsafe_of c (one_deleted level front x back) ≡ true
front_stays level c front x back o there h = by_neighbours (is_number (last_of (numbers front)) x.cluster || is_number (first_of (numbers back)) x.cluster) there
  where
    by_less : (p : ℕ) → last_of (numbers front) ≡ Some p → (t : Bool) → nat_lt x.cluster p ≡ t → Has (numbers ((if t then end_cast p x front else front) ++ back)) c → has_unsafe_of c ((if t then end_cast p x front else front) ++ back) ≡ true
    by_less p last false e g = any_left (is_unsafe_of c) front back h
    by_less p last true e g = by_cluster (c == p) refl
      where
        less : x.cluster < p
        less = grind (arith, nat_tests, common_steps)

        by_cluster : (s : Bool) → (c == p) ≡ s → has_unsafe_of c (end_cast p x front ++ back) ≡ true
        by_cluster true f = absurd (ordered_left p front x back o last less (subst (Has (numbers (end_cast p x front ++ back))) (equal_test c p f) g))
        by_cluster false f = any_left (is_unsafe_of c) (end_cast p x front) back (end_stays c p x front (λ same. let no : true ≡ false = sym (test_equal c p same) ∙ f in cc) h)

    by_before : (before : Option ℕ) → last_of (numbers front) ≡ before → Has (numbers (alone_deleted level before front x back)) c → has_unsafe_of c (alone_deleted level before front x back) ≡ true
    by_before None last g = any_left (is_unsafe_of c) front (drop 1 (origins_merged_as (manner InList level) 0 2 (x ∷ back))) h
    by_before (Some p) last g = by_less p last (nat_lt x.cluster p) refl g

    by_neighbours : (t : Bool) → Has (numbers (if t then front ++ back else alone_deleted level (last_of (numbers front)) front x back)) c → has_unsafe_of c (if t then front ++ back else alone_deleted level (last_of (numbers front)) front x back) ≡ true
    by_neighbours true g = any_left (is_unsafe_of c) front back h
    by_neighbours false g = by_before (last_of (numbers front)) refl g

-- the merge of the first two, without the first
rest_stays : (m : Manner) (c : ℕ) (x : Origin) (back : List Origin) → Has (numbers (drop 1 (origins_merged_as m 0 2 (x ∷ back)))) c → has_unsafe_of c back ≡ true → has_unsafe_of c (drop 1 (origins_merged_as m 0 2 (x ∷ back))) ≡ true
rest_stays Unites c x back there h = united_stays (range_of 0 2 (numbers (x ∷ back))) c back there h
rest_stays Marks c x back there h = any_changed (is_unsafe_of c) (added_outside 3 (least_number (range_of 0 2 (numbers (x ∷ back))))) 0 1 back (λ o f. outside_stays c 3 (least_number (range_of 0 2 (numbers (x ∷ back)))) o f) h
rest_stays Keeps c x back there h = h

-- an unsafe origin after the one that is deleted
back_stays : (level : BufferClusterLevel) (c : ℕ) (front : List Origin) (x : Origin) (back : List Origin) → Has (numbers (one_deleted level front x back)) c → has_unsafe_of c back ≡ true → has_unsafe_of c (one_deleted level front x back) ≡ true
back_stays level c front x back there h = by_neighbours (is_number (last_of (numbers front)) x.cluster || is_number (first_of (numbers back)) x.cluster) there
  where
    by_before : (before : Option ℕ) → last_of (numbers front) ≡ before → Has (numbers (alone_deleted level before front x back)) c → has_unsafe_of c (alone_deleted level before front x back) ≡ true
    by_before (Some p) last g = any_right (is_unsafe_of c) (if nat_lt x.cluster p then end_cast p x front else front) back h
    by_before None last g =
        let rest = drop 1 (origins_merged_as (manner InList level) 0 2 (x ∷ back)) in
        let none : numbers front ≡ [] = no_last (numbers front) last in
        let both : Has (numbers front ++ numbers rest) c = subst (λ (ns : List ℕ). Has ns c) (numbers_both front rest) g in
        let only : Has (numbers rest) c = subst (λ (ns : List ℕ). Has (ns ++ numbers rest) c) none both in
        any_right (is_unsafe_of c) front rest (rest_stays (manner InList level) c x back only h)

    by_neighbours : (t : Bool) → Has (numbers (if t then front ++ back else alone_deleted level (last_of (numbers front)) front x back)) c → has_unsafe_of c (if t then front ++ back else alone_deleted level (last_of (numbers front)) front x back) ≡ true
    by_neighbours true g = any_right (is_unsafe_of c) front back h
    by_neighbours false g = by_before (last_of (numbers front)) refl g

-- ---- the one that is deleted is unsafe

cast_gives : (x q : Origin) → (q.cluster ≡ x.cluster → ⊥) → is_unsafe x.flags ≡ true → is_unsafe_of x.cluster (cast x.cluster x.flags q) ≡ true
cast_gives x q ne h = by_test (q.cluster == x.cluster) refl
  where
    by_test : (t : Bool) → (q.cluster == x.cluster) ≡ t → is_unsafe_of x.cluster (if t then q else record { cluster = x.cluster; flags = x.flags }) ≡ true
    by_test true e = absurd (ne (equal_test q.cluster x.cluster e))
    by_test false e = of_unsafe x.cluster (record { cluster = x.cluster; flags = x.flags }) refl h

-- the end of a list is not all of it, so that its last is in the rest
end_rest : (p : ℕ) (x q : Origin) (qs : List Origin) → last_of (numbers (q ∷ qs)) ≡ Some p → list_all (λ (k : Origin). k.cluster == p) (q ∷ qs) ≡ false
    → (last_of (numbers qs) ≡ Some p → has_unsafe_of x.cluster (end_cast p x qs) ≡ true) → has_unsafe_of x.cluster (end_cast p x qs) ≡ true
end_rest p x q [] last e rest =
    let all : list_all (λ (k : Origin). k.cluster == p) (q ∷ []) ≡ true = and_true (q.cluster == p) true (test_equal q.cluster p (some_is q.cluster p last)) refl in
    let no : true ≡ false = sym all ∙ e in cc
end_rest p x q (r ∷ rs) last e rest = rest (sym (last_more q.cluster r.cluster (numbers rs)) ∙ last)

-- the end that takes the cluster and the flags of an unsafe origin is unsafe
end_gives : (p : ℕ) (x : Origin) (qs : List Origin) → last_of (numbers qs) ≡ Some p → (p ≡ x.cluster → ⊥) → is_unsafe x.flags ≡ true → has_unsafe_of x.cluster (end_cast p x qs) ≡ true
end_gives p x [] last ne h = cc
end_gives p x (q ∷ qs) last ne h = by_test (list_all (λ (k : Origin). k.cluster == p) (q ∷ qs)) refl (λ l. end_gives p x qs l ne h)
  where
    by_test : (t : Bool) → list_all (λ (k : Origin). k.cluster == p) (q ∷ qs) ≡ t → (last_of (numbers qs) ≡ Some p → has_unsafe_of x.cluster (end_cast p x qs) ≡ true)
        → has_unsafe_of x.cluster (if t then map (cast x.cluster x.flags) (q ∷ qs) else q ∷ end_cast p x qs) ≡ true
    by_test true e rest =
        let here : q.cluster ≡ p = equal_test q.cluster p (both_true (q.cluster == p) (list_all (λ (k : Origin). k.cluster == p) qs) e).0 in
        any_here (is_unsafe_of x.cluster) (cast x.cluster x.flags q) (map (cast x.cluster x.flags) qs) (cast_gives x q (λ same. ne (sym here ∙ same)) h)
    by_test false e rest = any_more (is_unsafe_of x.cluster) q (end_cast p x qs) (end_rest p x q qs last e rest)

-- its cluster keeps a glyph beside it
both_beside : (c : ℕ) (front : List Origin) (x : Origin) (back : List Origin) → IsOrdered (numbers front ++ x.cluster ∷ numbers back) → x.cluster ≡ c → Has (numbers (front ++ back)) c → IsBeside c (length front) (front ++ back)
both_beside c front x back o e there =
    seam_beside c front back (beside_range c (numbers front) (x.cluster ∷ []) (numbers back) o (subst (λ n. Has (x.cluster ∷ []) n) e (has_here x.cluster [])) (subst (λ (ns : List ℕ). Has ns c) (numbers_both front back) there))

-- the first two merged, without the first, whose number stays
merged_first : (m : Manner) (c n : ℕ) (ns : List ℕ) → n ≡ c → IsOrdered (n ∷ ns) → Has (drop 1 (numbers_merged_as m 0 2 (n ∷ ns))) c → first_of (drop 1 (numbers_merged_as m 0 2 (n ∷ ns))) ≡ Some c
merged_first Unites c n ns e o there =
    let range = range_of 0 2 (n ∷ ns) in
    let order : IsOrdered (merged_numbers range (n ∷ ns)) = united_ordered Unites 0 2 (n ∷ ns) (omega arith) o in
    let rest = map (merged_number range) ns in
    let again : merged_number range c ≡ c = merged_again range c (n ∷ ns) (has_more (merged_number range n) c rest there) in
    let first : merged_number range n ≡ c = ap (merged_number range) e ∙ again in
    first_same c (merged_number range n ∷ []) rest order (subst (λ k. Has (merged_number range n ∷ []) k) first (has_here (merged_number range n) [])) there
merged_first Marks c n ns e o there = first_same c (n ∷ []) ns o (subst (λ k. Has (n ∷ []) k) e (has_here n [])) there
merged_first Keeps c n ns e o there = first_same c (n ∷ []) ns o (subst (λ k. Has (n ∷ []) k) e (has_here n [])) there

rest_beside : (m : Manner) (c : ℕ) (x : Origin) (back : List Origin) → IsOrdered (x.cluster ∷ numbers back) → x.cluster ≡ c → Has (numbers (drop 1 (origins_merged_as m 0 2 (x ∷ back)))) c → IsBeside c 0 (drop 1 (origins_merged_as m 0 2 (x ∷ back)))
rest_beside m c x back o e there =
    let is : numbers (drop 1 (origins_merged_as m 0 2 (x ∷ back))) ≡ drop 1 (numbers_merged_as m 0 2 (x.cluster ∷ numbers back)) =
    sym (drop-map (λ (q : Origin). q.cluster) 1 (origins_merged_as m 0 2 (x ∷ back))) ∙ ap (drop 1) (numbers_merged_by m 0 2 (x ∷ back)) in
    inr (ap first_of is ∙ merged_first m c x.cluster (numbers back) e o (subst (λ (ns : List ℕ). Has ns c) is there))

one_gives : (asked : Bool) (level : BufferClusterLevel) (c : ℕ) (front : List Origin) (x : Origin) (back : List Origin) → asked ≡ true → IsOrdered (numbers front ++ x.cluster ∷ numbers back) → is_unsafe_of c x ≡ true → Has (numbers (one_deleted level front x back)) c
    → has_unsafe_of c (origins_handed_if asked (x ∷ []) (length front) (one_deleted level front x back)) ≡ true
one_gives asked level c front x back e o h there = by_front front refl o there
  where
    both : (x.cluster ≡ c) × (is_unsafe x.flags ≡ true)
    both = unsafe_of c x h

    gives : (seam : ℕ) (os : List Origin) → IsBeside c seam os → has_unsafe_of c (origins_handed_if asked (x ∷ []) seam os) ≡ true
    gives seam os beside = handing_gives asked c (x ∷ []) seam os e (any_here (is_unsafe_of c) x [] h) beside

    joined : (xs : List Origin) → IsOrdered (numbers xs ++ x.cluster ∷ numbers back) → Has (numbers (xs ++ back)) c → has_unsafe_of c (origins_handed_if asked (x ∷ []) (length xs) (xs ++ back)) ≡ true
    joined xs order g = gives (length xs) (xs ++ back) (both_beside c xs x back order both.0 g)

    none_before : (t : Bool) → IsOrdered (x.cluster ∷ numbers back) → Has (numbers (if t then [] ++ back else alone_deleted level None [] x back)) c → has_unsafe_of c (origins_handed_if asked (x ∷ []) 0 (if t then [] ++ back else alone_deleted level None [] x back)) ≡ true
    none_before true order g = joined [] order g
    none_before false order g = gives 0 (drop 1 (origins_merged_as (manner InList level) 0 2 (x ∷ back))) (rest_beside (manner InList level) c x back order both.0 g)

    by_less : (xs : List Origin) (p : ℕ) → last_of (numbers xs) ≡ Some p → IsOrdered (numbers xs ++ x.cluster ∷ numbers back) → (t : Bool) → nat_lt x.cluster p ≡ t → Has (numbers ((if t then end_cast p x xs else xs) ++ back)) c
        → has_unsafe_of c (origins_handed_if asked (x ∷ []) (length xs) ((if t then end_cast p x xs else xs) ++ back)) ≡ true
    by_less xs p last order false f g = joined xs order g
    by_less xs p last order true f g =
        let less : x.cluster < p = grind (arith, nat_tests, common_steps) in
        let end : has_unsafe_of x.cluster (end_cast p x xs) ≡ true = end_gives p x xs last (λ same. omega (arith, same, less)) both.1 in
        handing_stays asked c (x ∷ []) (length xs) (end_cast p x xs ++ back) (any_left (is_unsafe_of c) (end_cast p x xs) back (subst (λ n. has_unsafe_of n (end_cast p x xs) ≡ true) both.0 end))

    by_last : (f : Origin) (xs : List Origin) (before : Option ℕ) → last_of (numbers (f ∷ xs)) ≡ before → IsOrdered (numbers (f ∷ xs) ++ x.cluster ∷ numbers back) → Has (numbers (alone_deleted level before (f ∷ xs) x back)) c
        → has_unsafe_of c (origins_handed_if asked (x ∷ []) (length (f ∷ xs)) (alone_deleted level before (f ∷ xs) x back)) ≡ true
    by_last f xs None last order g = let none : f.cluster ∷ numbers xs ≡ [] = no_last (f.cluster ∷ numbers xs) last in cc
    by_last f xs (Some p) last order g = by_less (f ∷ xs) p last order (nat_lt x.cluster p) refl g

    some_before : (f : Origin) (xs : List Origin) (t : Bool) → IsOrdered (numbers (f ∷ xs) ++ x.cluster ∷ numbers back) → Has (numbers (if t then (f ∷ xs) ++ back else alone_deleted level (last_of (numbers (f ∷ xs))) (f ∷ xs) x back)) c
        → has_unsafe_of c (origins_handed_if asked (x ∷ []) (length (f ∷ xs)) (if t then (f ∷ xs) ++ back else alone_deleted level (last_of (numbers (f ∷ xs))) (f ∷ xs) x back)) ≡ true
    some_before f xs true order g = joined (f ∷ xs) order g
    some_before f xs false order g = by_last f xs (last_of (numbers (f ∷ xs))) refl order g

    by_front : (xs : List Origin) → front ≡ xs → IsOrdered (numbers xs ++ x.cluster ∷ numbers back) → Has (numbers (one_deleted level xs x back)) c → has_unsafe_of c (origins_handed_if asked (x ∷ []) (length xs) (one_deleted level xs x back)) ≡ true
    by_front [] f order g = none_before (is_number (first_of (numbers back)) x.cluster) order g
    by_front (o ∷ xs) f order g = some_before o xs (is_number (last_of (numbers (o ∷ xs))) x.cluster || is_number (first_of (numbers back)) x.cluster) order g

-- ---- deletions

first_stays : (asked : Bool) (level : BufferClusterLevel) (c seam : ℕ) (front rest : List Origin) → asked ≡ true → (0 < length rest → seam ≡ length front) → IsOrdered (numbers (front ++ rest)) → Has (numbers (first_deleted level front rest)) c → has_unsafe_of c (front ++ rest) ≡ true
    → has_unsafe_of c (origins_handed_if asked (take 1 rest) seam (first_deleted level front rest)) ≡ true
first_stays asked level c seam front [] e s o there h = handing_stays asked c [] seam front (elim (any_either (is_unsafe_of c) front [] h) [ inl before ↦ before | inr none ↦ cc ])
first_stays asked level c seam front (x ∷ back) e s o there h =
    let new = one_deleted level front x back in
    let gone : List Origin = x ∷ [] in
    let p = is_unsafe_of c in
    let order : IsOrdered (numbers front ++ x.cluster ∷ numbers back) = subst IsOrdered (numbers_both front (x ∷ back)) o in
    elim (any_either p front (x ∷ back) h) [
      | inl before ↦ handing_stays asked c gone seam new (front_stays level c front x back order there before)
      | inr beyond ↦ elim (any_cases p x back beyond) [
        | inl here ↦ subst (λ n. has_unsafe_of c (origins_handed_if asked gone n new) ≡ true) (sym (s (omega arith))) (one_gives asked level c front x back e order here there)
        | inr after ↦ handing_stays asked c gone seam new (back_stays level c front x back there after)
      ]
    ]

pub deleting_stays : (asked : Bool) (level : BufferClusterLevel) (c at : ℕ) (os : List Origin) → asked ≡ true → IsOrdered (numbers os) → Has (numbers (origins_deleted level at os)) c → has_unsafe_of c os ≡ true
    → has_unsafe_of c (origins_handed_if asked (take 1 (drop at os)) at (origins_deleted level at os)) ≡ true
deleting_stays asked level c at os e o there h =
    let whole = take-append-drop at os in
    let count = length-drop at os in
    let first = length-take at os in
    let seam : 0 < length (drop at os) → at ≡ length (take at os) = λ some. omega (arith, count, first, some) in
    first_stays asked level c at (take at os) (drop at os) e seam (subst (λ (qs : List Origin). IsOrdered (numbers qs)) (sym whole) o) there (ap (has_unsafe_of c) whole ∙ h)
