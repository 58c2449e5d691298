-- What is found and read.
use Rattle.std.proofs.Common.{ℕ, ◌≡◌, ◌≤◌, ◌<◌, ◌+◌, ◌-◌, zero, suc, List, [], ◌∷◌, length, drop, Result, Ok, Err, Some, inl, inr, slice_get, refl, sym, ap, ◌∙◌, arith}
use Rattle.std.specs.Prelude.{option_map}
use Rattle.std.proofs.lemmas.List.{length-drop}
use Rattle.buffer_glyphs.specs.Items.{Item}
use Rattle.layout_match.specs.declared.search.match_t.{match_t}
use Rattle.layout_match.specs.declared.search.match_t.TheVariants.{MATCH, SKIP, NOT_MATCH}
use Rattle.layout_match.specs.Matches.{by_answer, nearest, nearest_from, then_sequence_end, sequence_end, with_index, indices}
use Rattle.layout_match.specs.Laws.{Says, HasRead, IsNearest, AreNearest, NearestIsTaken, FailedSearchesRead, MatchesAreWhole, MatchesAreNearest, NearestAreMatched}

one_more : (r : Result ℕ ℕ) (end n : ℕ) (next : ℕ → Result ℕ ℕ) (rest : ℕ → List ℕ) → ((at : ℕ) → next at ≡ Ok end → length (rest at) ≡ n) → then_sequence_end r next ≡ Ok end → length (with_index r rest) ≡ n + 1
one_more (Ok at) end n next rest h e = rw (h (at + 1) e) (omega arith)
one_more (Err k) end n next rest h e = cc

pub whole_match : MatchesAreWhole
whole_match [] from end xs e = refl
whole_match (ask ∷ asks) from end xs e = one_more (nearest_from ask from xs) end (length asks) (λ next. sequence_end asks next xs) (λ next. indices asks next xs) (λ at. whole_match asks at end xs) e ∙ omega arith

-- ---- of a list whose first item has an index

-- so far into what is left is that much further in the whole
get_dropped : (n i : ℕ) (xs : List Item) → slice_get (drop n xs) i ≡ slice_get xs (n + i)
get_dropped zero i xs = let same : i ≡ 0 + i = omega arith in ap (slice_get xs) same
get_dropped (suc n) i [] = none i (suc n + i)
  where
    none : (j k : ℕ) → slice_get {X = Item} [] j ≡ slice_get [] k
    none zero zero = refl
    none zero (suc k) = refl
    none (suc j) zero = refl
    none (suc j) (suc k) = refl
get_dropped (suc n) i (x ∷ xs) = let more : suc n + i ≡ suc (n + i) = omega arith in rw more (get_dropped n i xs)

record Found (ask : Item → match_t) (at p : ℕ) (ys : List Item) : Type 0 where
  there : at ≤ p
  taken : Says ask ys (p - at) MATCH
  passed : (k : ℕ) → at + k < p → Says ask ys k SKIP

found : (ask : Item → match_t) (at p : ℕ) (ys : List Item) → nearest ask at ys ≡ Ok p → Found ask at p ys
found ask at p [] e = cc
found ask at p (y ∷ ys) e = by_first (ask y) refl (found ask (at + 1) p ys) e
  where
    behind : Found ask (at + 1) p ys → ask y ≡ SKIP → Found ask at p (y ∷ ys)
    behind f is =
        let further : p - at ≡ suc (p - (at + 1)) = omega (arith, f.there) in
        record { there = omega (arith, f.there); taken = rw further f.taken; passed = passed }
      where
        passed : (k : ℕ) → at + k < p → Says ask (y ∷ ys) k SKIP
        passed zero lt = ap Some is
        passed (suc k) lt = f.passed k (omega (arith, lt))

    by_first : (m : match_t) → ask y ≡ m → (nearest ask (at + 1) ys ≡ Ok p → Found ask (at + 1) p ys) → by_answer m at (nearest ask (at + 1) ys) ≡ Ok p → Found ask at p (y ∷ ys)
    by_first MATCH is later h =
        let same : at ≡ p = cc in
        let none : p - at ≡ 0 = omega (arith, same) in
        record { there = omega (arith, same); taken = rw none (ap Some is); passed = λ k lt. absurd (omega (arith, lt, same)) }
    by_first NOT_MATCH is later h = cc
    by_first SKIP is later h = behind (later h) is

pub nearest_taken : NearestIsTaken
nearest_taken ask from at xs e =
    let f = found ask from at (drop from xs) e in
    let further : from + (at - from) ≡ at = omega (arith, f.there) in
    record {
      there = f.there;
      taken = ap (option_map ask) (sym (get_dropped from (at - from) xs ∙ ap (slice_get xs) further)) ∙ f.taken;
      passed = λ k low high.
          let back : from + (k - from) ≡ k = omega (arith, low) in
          ap (option_map ask) (sym (get_dropped from (k - from) xs ∙ ap (slice_get xs) back)) ∙ f.passed (k - from) (omega (arith, low, high));
    }

-- what a search that failed read of a list
data Read (ask : Item → match_t) (at end : ℕ) (ys : List Item) : Type 0 where
  all : ((k : ℕ) → k < length ys → Says ask ys k SKIP) → end ≡ at + length ys → Read ask at end ys
  until : (n : ℕ) → end ≡ at + n + 1 → ((k : ℕ) → k < n → Says ask ys k SKIP) → Says ask ys n NOT_MATCH → Read ask at end ys

read : (ask : Item → match_t) (at end : ℕ) (ys : List Item) → nearest ask at ys ≡ Err end → Read ask at end ys
read ask at end [] e = let same : at ≡ end = cc in all (λ k lt. absurd (omega (arith, lt))) (omega (arith, same))
read ask at end (y ∷ ys) e = by_first (ask y) refl (read ask (at + 1) end ys) e
  where
    skipped : (n : ℕ) → ask y ≡ SKIP → ((k : ℕ) → k < n → Says ask ys k SKIP) → (k : ℕ) → k < n + 1 → Says ask (y ∷ ys) k SKIP
    skipped n is h zero lt = ap Some is
    skipped n is h (suc k) lt = h k (omega (arith, lt))

    behind : Read ask (at + 1) end ys → ask y ≡ SKIP → Read ask at end (y ∷ ys)
    behind (all passed is) first = all (λ k lt. skipped (length ys) first passed k (omega (arith, lt))) (omega (arith, is))
    behind (until n is passed here) first = until (suc n) (omega (arith, is)) (λ k lt. skipped n first passed k (omega (arith, lt))) here

    by_first : (m : match_t) → ask y ≡ m → (nearest ask (at + 1) ys ≡ Err end → Read ask (at + 1) end ys) → by_answer m at (nearest ask (at + 1) ys) ≡ Err end → Read ask at end (y ∷ ys)
    by_first MATCH is later h = cc
    by_first NOT_MATCH is later h = let same : at + 1 ≡ end = cc in until 0 (omega (arith, same)) (λ k lt. absurd (omega (arith, lt))) (ap Some is)
    by_first SKIP is later h = behind (later h) is

lifted : (ask : Item → match_t) (from end : ℕ) (xs : List Item) → from ≤ length xs → Read ask from end (drop from xs) → HasRead ask from xs end
lifted ask from end xs le (all passed is) =
    let long : length (drop from xs) ≡ length xs - from = length-drop from xs in
    inl (
      (λ k low high.
          let back : from + (k - from) ≡ k = omega (arith, low) in
          ap (option_map ask) (sym (get_dropped from (k - from) xs ∙ ap (slice_get xs) back)) ∙ passed (k - from) (omega (arith, low, high, long))),
      omega (arith, is, long, le),
    )
lifted ask from end xs le (until n is passed here) =
    let last : end - 1 ≡ from + n = omega (arith, is) in
    inr (
      (λ k low high.
          let back : from + (k - from) ≡ k = omega (arith, low) in
          ap (option_map ask) (sym (get_dropped from (k - from) xs ∙ ap (slice_get xs) back)) ∙ passed (k - from) (omega (arith, low, high, last))),
      ap (option_map ask) (ap (slice_get xs) last ∙ sym (get_dropped from n xs)) ∙ here,
    )

pub failed_read : FailedSearchesRead
failed_read ask from end xs le e = lifted ask from end xs le (read ask from end (drop from xs) e)

-- ---- matches

nearest_more : (ask : Item → match_t) (asks : List (Item → match_t)) (from end : ℕ) (xs : List Item) (r : Result ℕ ℕ) → nearest_from ask from xs ≡ r → ((at : ℕ) → sequence_end asks at xs ≡ Ok end → AreNearest asks at xs (indices asks at xs) end)
    → then_sequence_end r (λ next. sequence_end asks next xs) ≡ Ok end → AreNearest (ask ∷ asks) from xs (with_index r (λ next. indices asks next xs)) end
nearest_more ask asks from end xs (Ok at) is more e = (nearest_taken ask from at xs is, more (at + 1) e)
nearest_more ask asks from end xs (Err k) is more e = cc

pub nearest_match : MatchesAreNearest
nearest_match [] from end xs e = let same : from ≡ end = cc in sym same
nearest_match (ask ∷ asks) from end xs e = nearest_more ask asks from end xs (nearest_from ask from xs) refl (λ at. nearest_match asks at end xs) e

-- what is said of one item is said once
said_once : (ask : Item → match_t) (xs : List Item) (k : ℕ) → Says ask xs k MATCH → Says ask xs k SKIP → ⊥
said_once ask xs k taken passed = cc

-- the index of an item that is there
there_inside : (ask : Item → match_t) (m : match_t) (xs : List Item) (k : ℕ) → Says ask xs k m → k < length xs
there_inside ask m [] k e = cc
there_inside ask m (x ∷ xs) zero e = omega arith
there_inside ask m (x ∷ xs) (suc k) e = omega (arith, there_inside ask m xs k e)

-- a search reads what is taken, where all before it is skipped
unread : (ask : Item → match_t) (ys : List Item) (d from end : ℕ) → Says ask ys d MATCH → ((k : ℕ) → k < d → Says ask ys k SKIP) → Read ask from end ys → ⊥
unread ask ys d from end taken before (all passed is) = said_once ask ys d taken (passed d (there_inside ask MATCH ys d taken))
unread ask ys d from end taken before (until n is passed here) = by_order (n - d) (d - n) refl refl
  where
    by_order : (up down : ℕ) → n - d ≡ up → d - n ≡ down → ⊥
    by_order zero zero e f = let same : n ≡ d = omega (arith, e, f) in cc
    by_order (suc up) down e f = said_once ask ys d taken (passed d (omega (arith, e)))
    by_order zero (suc down) e f = let skipped = before n (omega (arith, f)) in cc

nearest_found : (ask : Item → match_t) (from at : ℕ) (xs : List Item) (r : Result ℕ ℕ) → nearest_from ask from xs ≡ r → IsNearest ask from xs at → r ≡ Ok at
nearest_found ask from at xs (Ok k) is n =
    let m = nearest_taken ask from k xs is in
    ap Ok (by_order (k - at) (at - k) refl refl m)
  where
    by_order : (up down : ℕ) → k - at ≡ up → at - k ≡ down → IsNearest ask from xs k → k ≡ at
    by_order zero zero e f m = omega (arith, e, f)
    by_order (suc up) down e f m = absurd (said_once ask xs at n.taken (m.passed at n.there (omega (arith, e))))
    by_order zero (suc down) e f m = absurd (said_once ask xs k m.taken (n.passed k m.there (omega (arith, f))))
nearest_found ask from at xs (Err end) is n = absurd (unread ask (drop from xs) (at - from) from end taken passed (read ask from end (drop from xs) is))
  where
    taken : Says ask (drop from xs) (at - from) MATCH
    taken =
        let back : from + (at - from) ≡ at = omega (arith, n.there) in
        ap (option_map ask) (get_dropped from (at - from) xs ∙ ap (slice_get xs) back) ∙ n.taken

    passed : (k : ℕ) → k < at - from → Says ask (drop from xs) k SKIP
    passed k lt = ap (option_map ask) (get_dropped from k xs) ∙ n.passed (from + k) (omega arith) (omega (arith, lt))

only_more : (ask : Item → match_t) (asks : List (Item → match_t)) (from at end : ℕ) (xs : List Item) (more : List ℕ) → IsNearest ask from xs at → (sequence_end asks (at + 1) xs ≡ Ok end) × (indices asks (at + 1) xs ≡ more)
    → (sequence_end (ask ∷ asks) from xs ≡ Ok end) × (indices (ask ∷ asks) from xs ≡ at ∷ more)
only_more ask asks from at end xs more n h =
    let is : nearest_from ask from xs ≡ Ok at = nearest_found ask from at xs (nearest_from ask from xs) refl n in
    (rw is h.0, rw is (ap (λ l. at ∷ l) h.1))

pub only_match : NearestAreMatched
only_match [] from end xs [] e = (ap Ok (sym e), refl)
only_match [] from end xs (at ∷ more) e = absurd e
only_match (ask ∷ asks) from end xs [] e = absurd e
only_match (ask ∷ asks) from end xs (at ∷ more) e = only_more ask asks from at end xs more e.0 (only_match asks (at + 1) end xs more e.1)
