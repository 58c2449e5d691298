-- What is known of a walk over a Hangul text whose graphemes are merged before, or once each syllable is written.
use Rattle.std.proofs.Common.{ℕ, zero, suc, ◌≡◌, ◌≤◌, ◌<◌, ◌+◌, ◌-◌, ◌==◌, ◌⊎◌, inl, inr, Bool, true, false, max, if◌then◌else◌, List, [], ◌∷◌, ◌++◌, length, map, take, drop, arith, refl, ap, sym, subst, ◌∙◌, append_assoc}
use Rattle.std.specs.Prelude.{slice_range}
use Rattle.std.proofs.lemmas.Bool.Decides.{nat_tests}
use Rattle.std.proofs.lemmas.Grind.{common_steps}
use Rattle.std.proofs.lemmas.List.{drop_at, drop-drop, drop-map, length-append, length-drop, length-map, length-take-le, map-append, take-append-drop, take_at, take-map}
use Rattle.buffer_glyphs.specs.declared.level.BufferClusterLevel.{BufferClusterLevel}
use Rattle.buffer_glyphs.specs.declared.level.BufferClusterLevel.TheVariants.{MonotoneGraphemes, MonotoneCharacters, Characters, Graphemes}
use Rattle.buffer_glyphs.specs.Parts.{elements_replaced, range_of}
use Rattle.buffer_glyphs.proofs.Merging.{order_kept_as}
use Rattle.buffer_glyphs.specs.Merges.{least_number, merged_number, merged_numbers}
use Rattle.buffer_glyphs.specs.Order.{IsChain, IsInOrder, has_number}
use Rattle.buffer_glyphs.specs.Levels.{InOutput, grapheme_manner}
use Rattle.buffer_glyphs.specs.Origins.{Origin, numbers, cast, added_outside, flags_added, origins_marked, origins_merged, Unites, origins_merged_as, with_range_arranged}
use Rattle.buffer_glyphs.specs.Events.{Event, MergeGrapheme, Replace, Move, origins_after}
use Rattle.buffer_glyphs.specs.Lemmas.Ends.{from_first}
use Rattle.buffer_glyphs.specs.Lemmas.Merges.{chain_across, chain_right, least_number_is, stands_chain, has_least}
use Rattle.buffer_glyphs.specs.Lemmas.Numbers.{Has, has_here, has_map, has_take, has_drop, map_has}
use Rattle.buffer_glyphs.specs.Lemmas.Origins.{number_cast, number_outside, numbers_marked, numbers_merged}
use Rattle.buffer_glyphs.specs.Lemmas.Parts.{Stands, stands_self}
use Rattle.buffer_glyphs.specs.Lemmas.Replacements.{among_seen}
use Rattle.script_hangul.proofs.Unions.{below}
use Rattle.script_hangul.proofs.Carried.{arranged_rest, arranged_seen, begins_at, both_pass, carried_passes, merge_passes, replaced_is, replaced_rest, replacing_carries}
use Rattle.script_hangul.proofs.WrittenEvents.{AreWritten, numbers_after, unasked}
use Rattle.buffer_stages.specs.Lemmas.Nested.{not_merged, merged_length as merged_many}
use Rattle.buffer_core.proofs.MergedOrigins.{cast_self as same_cast}
use Rattle.buffer_parts.specs.Lemmas.Groups.{range_map}

-- ---- walks

-- a relation `R` of origins that a walk keeps, where `Inv` holds of the origins from an index on
pub record IsWalk (level : BufferClusterLevel) (R : List Origin → List Origin → Type 0) (Inv : ℕ → List Origin → Type 0) : Type 0 where
  pub same : (os : List Origin) → R os os
  pub chain : (os ps qs : List Origin) → R os ps → R ps qs → R os qs
  pub after : (es : List Event) (os qs : List Origin) → AreWritten es → R os qs → R (origins_after unasked level es os) (origins_after unasked level es qs)
  pub merged : (at i j : ℕ) (os : List Origin) → at ≤ i → i ≤ j → Inv at os → Inv at (origins_merged_as (grapheme_manner level) i j os)
  pub later : (at d : ℕ) (os : List Origin) → Inv at os → Inv (at + d) os
  pub replaced : (at n k : ℕ) (os : List Origin) → 0 < n → at + n ≤ length os → Inv (at + n) os → Inv (at + k) (origins_after unasked level (Replace at n k ∷ []) os)
  pub moved : (from : ℕ) (order : List ℕ) (os : List Origin) → from ≤ length os → Inv (from + length order) os → Inv (from + length order) (origins_after unasked level (Move InOutput from order ∷ []) os)
  -- merges of what is after a syllable may come before it is composed, or after
  pub composed : (at n i c : ℕ) (os : List Origin) → 0 < n → at + n ≤ length os → Inv at os
      → R (origins_after unasked level (Replace at n 1 ∷ []) (origins_merged_as (grapheme_manner level) (at + n + i) (at + n + i + c) os)) (origins_merged_as (grapheme_manner level) (at + 1 + i) (at + 1 + i + c) (origins_after unasked level (Replace at n 1 ∷ []) os))

-- a level whose merges of graphemes unite only where those of other ranges do
abbrev pub IsEvenLevel : BufferClusterLevel → Type 0
IsEvenLevel MonotoneGraphemes = Unit {0}
IsEvenLevel MonotoneCharacters = Unit {0}
IsEvenLevel Characters = Unit {0}
IsEvenLevel Graphemes = ⊥

-- everything
abbrev pub Anything : ℕ → List Origin → Type 0
Anything at os = Unit {0}

composed_exactly : (level : BufferClusterLevel) (at n i c : ℕ) (os : List Origin) → IsEvenLevel level → 0 < n → at + n ≤ length os
    → origins_after unasked level (Replace at n 1 ∷ []) (origins_merged_as (grapheme_manner level) (at + n + i) (at + n + i + c) os) ≡ origins_merged_as (grapheme_manner level) (at + 1 + i) (at + 1 + i + c) (origins_after unasked level (Replace at n 1 ∷ []) os)
composed_exactly MonotoneGraphemes at n i c os p some fits =
    let need = at + n in
    both_pass Unites (origins_merged_as Unites at need) (elements_replaced at n 1) need need need need (at + 1)
    (merge_passes Unites Unites at need need need tt tt)
    (carried_passes Unites (elements_replaced at n 1) need need (at + 1) tt (replacing_carries at n 1 need some (omega arith)))
    (λ qs le. let many = merged_many Unites at need qs in omega (arith, le, many)) i c os fits
composed_exactly MonotoneCharacters at n i c os p some fits = refl
composed_exactly Characters at n i c os p some fits = refl
composed_exactly Graphemes at n i c os p some fits = absurd p

-- at the other levels than Graphemes all is the same
pub exact_walk : (level : BufferClusterLevel) → IsEvenLevel level → IsWalk level (λ os qs. os ≡ qs) Anything
exact_walk level p = record {
  same = λ os. refl;
  chain = λ os ps qs e f. e ∙ f;
  after = λ es os qs w e. ap (λ ps. origins_after unasked level es ps) e;
  merged = λ at i j os le more k. tt;
  later = λ at d os k. tt;
  replaced = λ at n k os some fits inv. tt;
  moved = λ from order os fits inv. tt;
  composed = λ at n i c os some fits inv. composed_exactly level at n i c os p some fits;
}

-- at the level Graphemes a composed syllable is flagged
abbrev flagged : ℕ → ℕ → List Origin → List Origin
flagged at n os = elements_replaced at n 1 (origins_marked 3 at (at + n) os)

flagged_clusters : (at n : ℕ) (os : List Origin) → numbers (flagged at n os) ≡ numbers (elements_replaced at n 1 os)
flagged_clusters at n os =
    let v : Origin → ℕ = λ o. o.cluster in
    among_seen v at n 1 (origins_marked 3 at (at + n) os) ∙ ap (elements_replaced at n 1) (numbers_marked 3 at (at + n) os) ∙ sym (among_seen v at n 1 os)

-- at the level Graphemes the clusters are the same
pub cluster_walk : IsWalk Graphemes (λ os qs. numbers os ≡ numbers qs) Anything
cluster_walk = record {
  same = λ os. refl;
  chain = λ os ps qs e f. e ∙ f;
  after = λ es os qs w e. numbers_after unasked unasked Graphemes es os qs w e;
  merged = λ at i j os le more k. tt;
  later = λ at d os k. tt;
  replaced = λ at n k os some fits inv. tt;
  moved = λ from order os fits inv. tt;
  composed = λ at n i c os some fits inv.
      let merged = origins_merged_as Unites (at + n + i) (at + n + i + c) os in
      let put = elements_replaced at n 1 os in
      flagged_clusters at n merged
      ∙ ap numbers (carried_passes Unites (elements_replaced at n 1) (at + n) (at + n) (at + 1) tt (replacing_carries at n 1 (at + n) some (omega arith)) i c os fits)
      ∙ numbers_after unasked unasked Graphemes (MergeGrapheme (at + 1 + i) (at + 1 + i + c) ∷ []) put (flagged at n os) tt (sym (flagged_clusters at n os));
}

-- ---- clusters in order

order_later : (falls : Bool) (d : ℕ) (ns : List ℕ) → IsInOrder falls ns → IsInOrder falls (drop d ns)
order_later false d ns h = chain_right (λ m n. m ≤ n) (take d ns) (drop d ns) (subst (IsChain (λ m n. m ≤ n)) (sym (take-append-drop d ns)) h)
order_later true d ns h = chain_right (λ m n. n ≤ m) (take d ns) (drop d ns) (subst (IsChain (λ m n. n ≤ m)) (sym (take-append-drop d ns)) h)

-- the clusters from an index on are in order
abbrev pub IsOrderedFrom : Bool → ℕ → List Origin → Type 0
IsOrderedFrom falls at os = IsInOrder falls (drop at (numbers os))

merged_order : (falls : Bool) (at i j : ℕ) (os : List Origin) → at ≤ i → i ≤ j → IsOrderedFrom falls at os → IsOrderedFrom falls at (origins_merged_as Unites i j os)
merged_order falls at i j os le more h =
    let ns = numbers os in
    let rest = drop at ns in
    let start : at + (i - at) ≡ i = omega (arith, le) in
    let count : j - i ≡ j - at - (i - at) = omega (arith, le, more) in
    let range : range_of i j ns ≡ range_of (i - at) (j - at) rest = ap (λ k. take k (drop i ns)) count ∙ ap (λ k. take (j - at - (i - at)) (drop k ns)) (sym start) ∙ ap (take (j - at - (i - at))) (sym (drop-drop (i - at) at ns)) in
    let seen : drop at (numbers (origins_merged_as Unites i j os)) ≡ merged_numbers (range_of (i - at) (j - at) rest) rest =
    ap (drop at) (numbers_merged (range_of i j ns) os) ∙ drop-map (merged_number (range_of i j ns)) at ns ∙ ap (λ ms. merged_numbers ms rest) range in
    subst (IsInOrder falls) (sym seen) (order_kept_as falls Unites (i - at) (j - at) rest (omega (arith, le, more)) h)

replaced_order : (falls : Bool) (at n k : ℕ) (os : List Origin) → 0 < n → at + n ≤ length os → IsOrderedFrom falls (at + n) os → IsOrderedFrom falls (at + k) (elements_replaced at n k (origins_marked 3 at (at + n) os))
replaced_order falls at n k os some fits h =
    let v : Origin → ℕ = λ o. o.cluster in
    let long : length (numbers os) ≡ length os = length-map os v in
    let seen : drop (at + k) (numbers (elements_replaced at n k (origins_marked 3 at (at + n) os))) ≡ drop (at + n) (numbers os) =
    ap (drop (at + k)) (among_seen v at n k (origins_marked 3 at (at + n) os) ∙ ap (elements_replaced at n k) (numbers_marked 3 at (at + n) os)) ∙ replaced_rest at n k (numbers os) some (omega (arith, fits, long)) in
    subst (IsInOrder falls) (sym seen) h

moved_order : (falls : Bool) (from : ℕ) (order : List ℕ) (os : List Origin) → from ≤ length os → IsOrderedFrom falls (from + length order) os → IsOrderedFrom falls (from + length order) (with_range_arranged from order os)
moved_order falls from order os fits h =
    let v : Origin → ℕ = λ o. o.cluster in
    let long : length (numbers os) ≡ length os = length-map os v in
    let seen : drop (from + length order) (numbers (with_range_arranged from order os)) ≡ drop (from + length order) (numbers os) =
    ap (drop (from + length order)) (sym (arranged_seen v from order os)) ∙ arranged_rest from order (numbers os) (omega (arith, fits, long)) in
    subst (IsInOrder falls) (sym seen) h

-- ---- a composed syllable

-- what a composed syllable leaves: its first origin, flagged where it isn't of the least cluster
flagged_is : (at n : ℕ) (os : List Origin) (o : Origin) (rest : List Origin) → 0 < n → at + n ≤ length os → drop at os ≡ o ∷ rest
    → flagged at n os ≡ take at os ++ (added_outside 3 (least_number (range_of at (at + n) (numbers os))) o ∷ []) ++ drop (at + n) os
flagged_is at zero os o rest some fits e = absurd (omega (arith, some))
flagged_is at (suc k) os o rest some fits e =
    let n = suc k in
    let f : Origin → Origin = added_outside 3 (least_number (range_of at (at + n) (numbers os))) in
    let count : at + n - at ≡ n = omega arith in
    let last : max at (at + n) ≡ at + n = grind (arith, nat_tests, common_steps) in
    let range : map f (slice_range os at (at + n)) ≡ f o ∷ map f (take k rest) = ap (λ m. map f (take m (drop at os))) count ∙ ap (λ qs. map f (take n qs)) e in
    let marked : origins_marked 3 at (at + n) os ≡ take at os ++ (f o ∷ map f (take k rest)) ++ drop (at + n) os =
    ap (λ qs. take at os ++ qs ++ drop (max at (at + n)) os) range ∙ ap (λ m. take at os ++ (f o ∷ map f (take k rest)) ++ drop m os) last in
    let front : length (take at os) ≡ at = length-take-le at os (omega (arith, fits)) in
    let cut : take at os ++ (f o ∷ map f (take k rest)) ++ drop (at + n) os ≡ take at os ++ (f o ∷ (map f (take k rest) ++ drop (at + n) os)) = append_assoc (take at os) (f o ∷ map f (take k rest)) (drop (at + n) os) in
    let many : length (take at os ++ (f o ∷ map f (take k rest))) ≡ at + n =
    length-append (take at os) (f o ∷ map f (take k rest)) ∙ ap (λ m. m + suc (length (map f (take k rest)))) front ∙ ap (λ m. at + suc m) (length-map (take k rest) f ∙ rest_long) in
    let there : drop at (origins_marked 3 at (at + n) os) ≡ f o ∷ (map f (take k rest) ++ drop (at + n) os) = ap (drop at) (marked ∙ cut) ∙ drop_at (take at os) (f o ∷ (map f (take k rest) ++ drop (at + n) os)) at front in
    let before : take at (origins_marked 3 at (at + n) os) ≡ take at os = ap (take at) (marked ∙ cut) ∙ take_at (take at os) (f o ∷ (map f (take k rest) ++ drop (at + n) os)) at front in
    let beyond : drop (at + n) (origins_marked 3 at (at + n) os) ≡ drop (at + n) os = ap (drop (at + n)) marked ∙ drop_at (take at os ++ (f o ∷ map f (take k rest))) (drop (at + n) os) (at + n) many in
    replaced_is at n 1 (origins_marked 3 at (at + n) os) (f o) (map f (take k rest) ++ drop (at + n) os) there
    ∙ ap (λ qs. qs ++ (f o ∷ []) ++ drop (at + n) (origins_marked 3 at (at + n) os)) before
    ∙ ap (λ qs. take at os ++ (f o ∷ []) ++ qs) beyond
  where
    rest_long : length (take k rest) ≡ k
    rest_long = let long : length os - at ≡ suc (length rest) = sym (length-drop at os) ∙ ap length e in length-take-le k rest (omega (arith, long, fits))

-- the first cluster of a range stays, and is the least after a union of later clusters as before, or it is the least before and after
abbrev Stays : List ℕ → List ℕ → ℕ → Type 0
Stays range more c =
    ((merged_number more c ≡ c) × ((c == least_number range) ≡ (c == least_number (map (merged_number more) range))))
    ⊎ ((c ≡ least_number range) × (merged_number more c ≡ least_number (map (merged_number more) range)))

-- what is known of the clusters of a syllable, from a first one on, and of later ones
record AreFirst (falls : Bool) (c : ℕ) (ms more : List ℕ) : Type 0 where
  first : (t : ℕ) → Has (c ∷ ms) t → Stands falls c t
  across : (t k : ℕ) → Has (c ∷ ms) t → Has more k → Stands falls t k

rising_stays : (c : ℕ) (ms more : List ℕ) → AreFirst false c ms more → Stays (c ∷ ms) more c
rising_stays c ms more k =
    let f = merged_number more in
    let low = least_number_is c ms in
    let high = least_number_is (f c) (map f ms) in
    let a = low.below c (has_here c ms) in
    let b = k.first (least_number (c ∷ ms)) low.among in
    let d = high.below (f c) (has_here (f c) (map f ms)) in
    let from = has_map f (least_number (map f (c ∷ ms))) (c ∷ ms) high.among in
    let up = raised from.0 from.1 in
    inr (same c (least_number (c ∷ ms)) a b, between c (f c) (f from.0) (least_number (map f (c ∷ ms))) (below more c) up from.2 d)
  where
    same : (x y : ℕ) → y ≤ x → x ≤ y → x ≡ y
    same x y p q = omega (arith, p, q)

    between : (x low up least : ℕ) → low ≤ x → x ≤ up → up ≡ least → least ≤ low → low ≡ least
    between x low up least p q e r = omega (arith, p, q, e, r)

    raised : (t : ℕ) → Has (c ∷ ms) t → c ≤ merged_number more t
    raised t h = by_test (has_number more t) refl
      where
        by_test : (b : Bool) → has_number more t ≡ b → c ≤ (if b then least_number more else t)
        by_test true e =
            let p = k.first t h in
            let q = k.across t (least_number more) h (has_least t more e) in
            omega (arith, p, q)
        by_test false e = k.first t h

falling_stays : (c : ℕ) (ms more : List ℕ) → AreFirst true c ms more → Stays (c ∷ ms) more c
falling_stays c ms more k = by_test (c == least_number (c ∷ ms)) refl
  where
    f : ℕ → ℕ
    f = merged_number more

    by_test : (t : Bool) → (c == least_number (c ∷ ms)) ≡ t → Stays (c ∷ ms) more c
    by_test true e =
        let is : c ≡ least_number (c ∷ ms) = grind (arith, common_steps, e) in
        let high = least_number_is (f c) (map f ms) in
        let from = has_map f (least_number (map f (c ∷ ms))) (c ∷ ms) high.among in
        let p = k.first from.0 from.1 in
        let q = (least_number_is c ms).below from.0 from.1 in
        let one : c ≡ from.0 = all_one c from.0 (least_number (c ∷ ms)) p q is in
        inr (is, ap f one ∙ from.2)
      where
        all_one : (x y low : ℕ) → y ≤ x → low ≤ y → x ≡ low → x ≡ y
        all_one x y low p q e = omega (arith, p, q, e)
    by_test false e =
        let low = least_number (c ∷ ms) in
        let is = least_number_is c ms in
        let under = is.below c (has_here c ms) in
        let less : low < c = grind (arith, nat_tests, common_steps, under, e) in
        let stays : f c ≡ c = not_merged more c (none less (has_number more c) refl) in
        let lower = (least_number_is (f c) (map f ms)).below (f low) (map_has f low (c ∷ ms) is.among) in
        let down = below more low in
        let other : (c == least_number (map f (c ∷ ms))) ≡ false = far c (least_number (map f (c ∷ ms))) (f low) low lower down less in
        inl (stays, e ∙ sym other)
      where
        far : (x least mid low : ℕ) → least ≤ mid → mid ≤ low → low < x → (x == least) ≡ false
        far x least mid low p q r = grind (arith, nat_tests, common_steps, p, q, r)

        none : least_number (c ∷ ms) < c → (b : Bool) → has_number more c ≡ b → b ≡ false
        none less true g = let bad = k.across (least_number (c ∷ ms)) c (least_number_is c ms).among g in absurd (omega (arith, less, bad))
        none less false g = refl

first_stays : (falls : Bool) (c : ℕ) (ms more : List ℕ) → AreFirst falls c ms more → Stays (c ∷ ms) more c
first_stays false c ms more k = rising_stays c ms more k
first_stays true c ms more k = falling_stays c ms more k

-- the first cluster of a range in order, and a union of some after the range
range_stays : (falls : Bool) (c : ℕ) (ms : List ℕ) (n : ℕ) (more : List ℕ) → 0 < n → IsInOrder falls (c ∷ ms) → ((k : ℕ) → Has more k → Has (drop n (c ∷ ms)) k) → Stays (take n (c ∷ ms)) more c
range_stays falls c ms zero more some o sub = absurd (omega (arith, some))
range_stays falls c ms (suc j) more some o sub =
    let chain = stands_chain falls (c ∷ ms) o in
    let whole = subst (IsChain (Stands falls)) (sym (take-append-drop (suc j) (c ∷ ms))) chain in
    first_stays falls c (take j ms) more (record {
      first = λ t h. from_first (Stands falls) (stands_self falls) c t ms chain.0 (has_take t (suc j) (c ∷ ms) h);
      across = λ t k h later. chain_across (Stands falls) t k (take (suc j) (c ∷ ms)) (drop (suc j) (c ∷ ms)) whole h (sub k later);
    })

-- a union, and the flag of a composed syllable
flag_united : (range more : List ℕ) (o : Origin) → Stays range more o.cluster
    → added_outside 3 (least_number (map (merged_number more) range)) (cast (merged_number more o.cluster) 0 o) ≡ cast (merged_number more (added_outside 3 (least_number range) o).cluster) 0 (added_outside 3 (least_number range) o)
flag_united range more o (inl (stays, alike)) =
    let c = o.cluster in
    let low = least_number range in
    let marked = added_outside 3 low o in
    let number = number_outside 3 low o in
    ap (added_outside 3 (least_number (map (merged_number more) range))) (same_cast (merged_number more c) o stays)
    ∙ ap (λ t. if t then o else flags_added 3 o) (sym alike)
    ∙ sym (same_cast (merged_number more marked.cluster) marked (ap (merged_number more) number ∙ stays ∙ sym number))
flag_united range more o (inr (is, image)) =
    let c = o.cluster in
    let low = least_number range in
    let united = cast (merged_number more c) 0 o in
    let there : (united.cluster == least_number (map (merged_number more) range)) ≡ true = let e = number_cast (merged_number more c) 0 o ∙ image in grind (arith, common_steps, e) in
    let here : (c == low) ≡ true = grind (arith, common_steps, is) in
    ap (λ t. if t then united else flags_added 3 united) there
    ∙ ap (λ (t : Bool). cast (merged_number more (if t then o else flags_added 3 o).cluster) 0 (if t then o else flags_added 3 o)) (sym here)

range_rest : (k i n : ℕ) (ns : List ℕ) → range_of (k + i) (k + i + n) ns ≡ take n (drop i (drop k ns))
range_rest k i n ns = let count : k + i + n - (k + i) ≡ n = omega arith in ap (λ m. take m (drop (k + i) ns)) count ∙ ap (take n) (sym (drop-drop i k ns))

composed_in_order : (falls : Bool) (at n i c : ℕ) (os : List Origin) → 0 < n → at + n ≤ length os → IsOrderedFrom falls at os
    → flagged at n (origins_merged_as Unites (at + n + i) (at + n + i + c) os) ≡ origins_merged_as Unites (at + 1 + i) (at + 1 + i + c) (flagged at n os)
composed_in_order falls at n i c os some fits inv =
    let v : Origin → ℕ = λ o. o.cluster in
    let ns = numbers os in
    let b = begins_at at os (omega (arith, some, fits)) in
    let o = b.first in
    let ms = numbers b.rest in
    let more = range_of (at + n + i) (at + n + i + c) ns in
    let u : Origin → Origin = λ p. cast (merged_number more p.cluster) 0 p in
    let from : drop at ns ≡ o.cluster ∷ ms = drop-map v at os ∙ ap numbers b.is in
    let count : at + n - at ≡ n = omega arith in
    let old : range_of at (at + n) ns ≡ take n (o.cluster ∷ ms) = ap (λ m. take m (drop at ns)) count ∙ ap (take n) from in
    let new : range_of at (at + n) (numbers (origins_merged more os)) ≡ map (merged_number more) (take n (o.cluster ∷ ms)) =
    ap (range_of at (at + n)) (numbers_merged more os) ∙ range_map (merged_number more) at (at + n) ns ∙ ap (map (merged_number more)) old in
    let beyond : drop (at + n) ns ≡ drop n (o.cluster ∷ ms) = sym (drop-drop n at ns) ∙ ap (drop n) from in
    let sub : (k : ℕ) → Has more k → Has (drop n (o.cluster ∷ ms)) k = λ k h.
    subst (λ qs. Has qs k) beyond (has_drop k i (drop (at + n) ns) (has_take k c (drop i (drop (at + n) ns)) (subst (λ qs. Has qs k) (range_rest (at + n) i c ns) h))) in
    let stays = range_stays falls o.cluster ms n more some (subst (IsInOrder falls) from inv) sub in
    let middle : added_outside 3 (least_number (range_of at (at + n) (numbers (origins_merged more os)))) (u o) ≡ u (added_outside 3 (least_number (range_of at (at + n) ns)) o) =
    ap (λ qs. added_outside 3 (least_number qs) (u o)) new ∙ flag_united (take n (o.cluster ∷ ms)) more o stays ∙ ap (λ qs. u (added_outside 3 (least_number qs) o)) (sym old) in
    let long : length (map u os) ≡ length os = length-map os u in
    let x = added_outside 3 (least_number (range_of at (at + n) ns)) o in
    let size : length ns ≡ length os = length-map os v in
    let same : range_of (at + 1 + i) (at + 1 + i + c) (numbers (flagged at n os)) ≡ more =
    range_rest (at + 1) i c (numbers (flagged at n os))
    ∙ ap (λ qs. take c (drop i (drop (at + 1) qs))) (flagged_clusters at n os ∙ among_seen v at n 1 os)
    ∙ ap (λ qs. take c (drop i qs)) (replaced_rest at n 1 ns some (omega (arith, fits, size)))
    ∙ sym (range_rest (at + n) i c ns) in
    flagged_is at n (map u os) (u o) (map u b.rest) some (omega (arith, fits, long)) (drop-map u at os ∙ ap (map u) b.is)
    ∙ ap (λ q. take at (map u os) ++ (q ∷ []) ++ drop (at + n) (map u os)) middle
    ∙ ap (λ qs. qs ++ (u x ∷ []) ++ drop (at + n) (map u os)) (take-map u at os)
    ∙ ap (λ qs. map u (take at os) ++ (u x ∷ []) ++ qs) (drop-map u (at + n) os)
    ∙ ap (λ qs. qs ++ map u (drop (at + n) os)) (sym (map-append u (take at os) (x ∷ [])))
    ∙ sym (map-append u (take at os ++ (x ∷ [])) (drop (at + n) os))
    ∙ ap (map u) (sym (flagged_is at n os o b.rest some fits b.is))
    ∙ ap (λ qs. origins_merged qs (flagged at n os)) (sym same)

-- at the level Graphemes all is the same where clusters are in order
pub ordered_walk : (falls : Bool) → IsWalk Graphemes (λ os qs. os ≡ qs) (IsOrderedFrom falls)
ordered_walk falls = record {
  same = λ os. refl;
  chain = λ os ps qs e f. e ∙ f;
  after = λ es os qs w e. ap (λ ps. origins_after unasked Graphemes es ps) e;
  merged = λ at i j os le more inv. merged_order falls at i j os le more inv;
  later = λ at d os inv. subst (IsInOrder falls) (drop-drop d at (numbers os)) (order_later falls d (drop at (numbers os)) inv);
  replaced = λ at n k os some fits inv. replaced_order falls at n k os some fits inv;
  moved = λ from order os fits inv. moved_order falls from order os fits inv;
  composed = λ at n i c os some fits inv. composed_in_order falls at n i c os some fits inv;
}
