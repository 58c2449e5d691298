-- Events within one of two lists that are cut at a cluster.
use Rattle.std.proofs.Common.{ℕ, suc, ◌≡◌, ◌≤◌, ◌<◌, ◌+◌, ◌==◌, ◌||◌, ◌⊎◌, inl, inr, nat_lt, Bool, true, false, if◌then◌else◌, List, [], ◌∷◌, ◌++◌, Option, Some, None, length, map, take, drop, arith, refl, ap, sym, subst, ◌∙◌}
use Rattle.std.specs.Int.RustNames.{bit_or}
use Rattle.std.proofs.lemmas.Grind.{common_steps}
use Rattle.std.proofs.lemmas.Bool.Decides.{nat_tests}
use Rattle.std.proofs.lemmas.List.{append-nil, map-append, reverse-append, take-append-drop, take-append-le, drop-append-le, length-drop, drop-map}
use Rattle.std.proofs.Math.Seq.{take-append-add, drop-append-add}
use Rattle.buffer_glyphs.specs.declared.level.BufferClusterLevel.{BufferClusterLevel}
use Rattle.buffer_glyphs.specs.Levels.{IsMonotone}
use Rattle.buffer_glyphs.specs.Parts.{first_of, last_of, last_from, is_number}
use Rattle.buffer_glyphs.specs.Order.{IsChain, IsOrdered}
use Rattle.buffer_glyphs.specs.Origins.{Origin, Asks, numbers, Manner, Unites, Marks, Keeps, InList, manner, origins_merged_as, end_cast, alone_deleted, one_deleted, first_deleted, origins_deleted, settled_flags, run_flags, spread_flags, origins_spread_after}
use Rattle.buffer_glyphs.specs.Events.{Event, Merge, MergeGrapheme, Replace, Circle, Delete, Move, Arrange, Sort, Reverse, Break, Concat, Tatweel, StrictBreak, Spread, Reset, origins_after_event, origins_after}
use Rattle.buffer_glyphs.specs.Rewriting.{shifted_event}
use Rattle.buffer_glyphs.specs.Lemmas.Numbers.{Has, MayHave, has_here, has_more, has_either, has_last, has_drop}
use Rattle.buffer_glyphs.specs.Lemmas.Deletions.{last_is}
use Rattle.buffer_glyphs.specs.Lemmas.Merges.{chain_left, chain_right, chain_across}
use Rattle.buffer_glyphs.specs.Lemmas.Ends.{from_has, from_first, to_last}
use Rattle.buffer_glyphs.specs.Lemmas.Origins.{origins_after_both}
use Rattle.buffer_glyphs.specs.Lemmas.EventParts.{event_brings}
use Rattle.buffer_parts.specs.Orderly.{IsOrderly}
use Rattle.buffer_parts.specs.Counts.{count_after, count_after_event}
use Rattle.buffer_parts.specs.Lemmas.Counts.{counts_follow}
use Rattle.buffer_parts.specs.Lemmas.Orderly.{orderly_in_turn}
use Rattle.buffer_parts.specs.Breaks.Unsafe.{IsUnsafeAt, HaveSafeBreaks}
use Rattle.buffer_parts.specs.Breaks.Lossless.{AreLossless}
use Rattle.buffer_parts.specs.Breaks.Bound.{Crosses}
use Rattle.buffer_parts.specs.Breaks.Sides.{IsBounded, AreBounded, AreCutAt}
use Rattle.buffer_parts.specs.Breaks.SideLaws.{FirstChangesAlone, SecondChangesAlone, BothChangeAlone, BothChangeBackward, WholeEventsDivide}
use Rattle.buffer_parts.proofs.BreakLemmas.Handed.{handed_there}
use Rattle.buffer_parts.proofs.BreakLemmas.Events.{unsafe_stays, safe_breaks_stay, lossless_in_turn}
use Rattle.buffer_parts.proofs.BreakLemmas.Bound.{united_absent}
use Rattle.buffer_parts.proofs.BreakLemmas.Deleted.{none_left}
use Rattle.buffer_parts.proofs.BreakLemmas.Apart.{Lacks, AreApart, differs, last_there}
use Rattle.buffer_parts.proofs.BreakLemmas.First.{DeletesBeside, event_first}
use Rattle.buffer_parts.proofs.BreakLemmas.Last.{CoversFirst, event_last}
use Rattle.buffer_stages.specs.Lemmas.Nested.{numbers_both}
use Rattle.buffer_facts.proofs.Numbers.{same_by_test as equal_test, test_of_same as test_equal, some_is}

-- ---- cuts

pub cut_apart : (c : ℕ) (os qs : List Origin) → AreCutAt c os qs → AreApart os qs
cut_apart c os qs (inl both) = λ n h k. let low = both.0 n h in let high = both.1 n k in omega (arith, low, high)
cut_apart c os qs (inr both) = λ n h k. let high = both.0 n h in let low = both.1 n k in omega (arith, low, high)

cut_after : (asks : Asks) (level : BufferClusterLevel) (e : Event) (os qs : List Origin) (c : ℕ) → AreCutAt c os qs → AreCutAt c (origins_after_event asks level os e) qs
cut_after asks level e os qs c (inl both) = inl (λ n h. both.0 n (event_brings asks level os e n h), both.1)
cut_after asks level e os qs c (inr both) = inr (λ n h. both.0 n (event_brings asks level os e n h), both.1)

cut_before : (asks : Asks) (level : BufferClusterLevel) (e : Event) (os qs : List Origin) (c : ℕ) → AreCutAt c os qs → AreCutAt c os (origins_after_event asks level qs e)
cut_before asks level e os qs c (inl both) = inl (both.0, λ n h. both.1 n (event_brings asks level qs e n h))
cut_before asks level e os qs c (inr both) = inr (both.0, λ n h. both.1 n (event_brings asks level qs e n h))

-- ---- the only glyph of the first list is deleted

-- the first two of a list that is cut at the second cross the start of c
first_crosses : (c : ℕ) (x q : Origin) (qs : List Origin) → AreCutAt c (x ∷ []) (q ∷ qs) → Crosses c 0 2 (x.cluster ∷ (q.cluster ∷ numbers qs))
first_crosses c x q qs (inl both) = record {
  low = x.cluster;
  high = q.cluster;
  has_low = has_here x.cluster (q.cluster ∷ []);
  has_high = has_more x.cluster q.cluster (q.cluster ∷ []) (has_here q.cluster []);
  below = both.0 x.cluster (has_here x.cluster []);
  above = both.1 q.cluster (has_here q.cluster (numbers qs));
}
first_crosses c x q qs (inr both) = record {
  low = q.cluster;
  high = x.cluster;
  has_low = has_more x.cluster q.cluster (q.cluster ∷ []) (has_here q.cluster []);
  has_high = has_here x.cluster (q.cluster ∷ []);
  below = both.1 q.cluster (has_here q.cluster (numbers qs));
  above = both.0 x.cluster (has_here x.cluster []);
}

none_merged : (m : Manner) (x : Origin) → drop 1 (origins_merged_as m 0 2 (x ∷ [])) ≡ []
none_merged Unites x = refl
none_merged Marks x = refl
none_merged Keeps x = refl

only_lacks : (level : BufferClusterLevel) (c : ℕ) (x : Origin) (qs : List Origin) → IsMonotone level → IsOrdered (numbers (x ∷ qs)) → AreCutAt c (x ∷ []) qs → Lacks c (one_deleted level [] x qs)
only_lacks level c x [] mono o cut = λ h. let none : Has [] c = subst (λ (ys : List Origin). Has (numbers ys) c) (none_merged (manner InList level) x) h in cc
only_lacks level c x (q ∷ qs) mono o cut = λ h.
    let apart = cut_apart c (x ∷ []) (q ∷ qs) cut in
    let other : (q.cluster == x.cluster) ≡ false = differs q.cluster x.cluster (λ e. apart q.cluster (subst (λ n. Has (x.cluster ∷ []) n) (sym e) (has_here x.cluster [])) (has_here q.cluster (numbers qs))) in
    let all : List Origin = x ∷ (q ∷ qs) in
    let m = manner InList level in
    let is : one_deleted level [] x (q ∷ qs) ≡ drop 1 (origins_merged_as m 0 2 all) = ap (λ (b : Bool). if b then [] ++ (q ∷ qs) else alone_deleted level None [] x (q ∷ qs)) other in
    let there : Has (numbers (drop 1 (origins_merged_as m 0 2 all))) c = subst (λ (ys : List Origin). Has (numbers ys) c) is h in
    let whole : Has (numbers (origins_merged_as m 0 2 all)) c = has_drop c 1 (numbers (origins_merged_as m 0 2 all)) (subst (λ (ns : List ℕ). Has ns c) (sym (drop-map (λ (o : Origin). o.cluster) 1 (origins_merged_as m 0 2 all))) there) in
    united_absent m 0 2 c all mono o (first_crosses c x q qs cut) whole

-- ---- the first glyph of the second list is deleted, the only one of its cluster

-- of numbers that rise, c is none but the first of those from it on
rises_absent : (c n : ℕ) (ns : List ℕ) → IsChain (λ i j. i ≤ j) (n ∷ ns) → c ≤ n → is_number (first_of ns) n ≡ false → Has ns c → ⊥
rises_absent c n [] rises le other h = cc
rises_absent c n (m ∷ ns) rises le other h =
    let least : m ≤ c = from_first (λ i j. i ≤ j) (λ i. omega arith) m c ns rises.1.0 h in
    let up : n ≤ m = from_has (λ i j. i ≤ j) n m (m ∷ ns) rises.0 (has_here m ns) in
    let same : (m == n) ≡ true = test_equal m n (omega (arith, least, up, le)) in
    let no : true ≡ false = sym same ∙ other in cc

none_there : (os : List Origin) → 0 < length os → last_of (numbers os) ≡ None → ⊥
none_there [] some e = omega (arith, some)
none_there (o ∷ os) some e = last_there o.cluster (numbers os) e

-- the last of numbers that fall is the least
last_least : (ns : List ℕ) (p c : ℕ) → IsChain (λ i j. j ≤ i) ns → last_of ns ≡ Some p → Has ns c → p ≤ c
last_least [] p c falls last h = cc
last_least (n ∷ ns) p c falls last h =
    let low : last_from n ns ≤ c = to_last (λ i j. j ≤ i) (λ i. omega arith) n c ns falls h in
    let at : last_from n ns ≡ p = some_is (last_from n ns) p (sym (last_is n ns) ∙ last) in
    omega (arith, low, at)

first_lacks : (level : BufferClusterLevel) (c : ℕ) (os : List Origin) (x : Origin) (back : List Origin) → IsOrdered (numbers (os ++ x ∷ back)) → AreCutAt c os (x ∷ back) → 0 < length os → is_number (first_of (numbers back)) x.cluster ≡ false
    → Has (numbers (os ++ x ∷ back)) c → Lacks c (one_deleted level os x back)
first_lacks level c os x back o cut some other old = λ h. by_last (last_of (numbers os)) refl (has_last (numbers os)) (subst (λ (b : Bool). Has (numbers (if is_number (last_of (numbers os)) x.cluster || b then os ++ back else alone_deleted level (last_of (numbers os)) os x back)) c) other h)
  where
    order : IsOrdered (numbers os ++ x.cluster ∷ numbers back)
    order = subst IsOrdered (numbers_both os (x ∷ back)) o

    falls_lacks : (p : ℕ) → last_of (numbers os) ≡ Some p → Has (numbers os) p → x.cluster < p → IsChain (λ i j. j ≤ i) (numbers os ++ x.cluster ∷ numbers back) → c ≤ p → Has (numbers os) c → Has (numbers (end_cast p x os)) c → ⊥
    falls_lacks p last among less falls le there h =
        let before = chain_left (λ i j. j ≤ i) (numbers os) (x.cluster ∷ numbers back) falls in
        let least : p ≤ c = last_least (numbers os) p c before last there in
        let same : c ≡ p = omega (arith, least, le) in
        none_left p x os before last (λ e. omega (arith, e, less)) (subst (λ n. Has (numbers (end_cast p x os)) n) same h)

    by_cut : (p : ℕ) → last_of (numbers os) ≡ Some p → Has (numbers os) p → AreCutAt c os (x ∷ back) → IsOrdered (numbers os ++ x.cluster ∷ numbers back) → (t : Bool) → nat_lt x.cluster p ≡ t
        → Has (numbers ((if t then end_cast p x os else os) ++ back)) c → ⊥
    by_cut p last among (inl both) (inr falls) t e h =
        let low = both.0 p among in
        let high = both.1 x.cluster (has_here x.cluster (numbers back)) in
        let down : x.cluster ≤ p = chain_across (λ i j. j ≤ i) p x.cluster (numbers os) (x.cluster ∷ numbers back) falls among (has_here x.cluster (numbers back)) in
        omega (arith, low, high, down)
    by_cut p last among (inl both) (inl rises) true e h =
        let low = both.0 p among in
        let high = both.1 x.cluster (has_here x.cluster (numbers back)) in
        let less : x.cluster < p = grind (arith, nat_tests, common_steps) in
        omega (arith, low, high, less)
    by_cut p last among (inl both) (inl rises) false e h = elim (has_either c (numbers os) (numbers back) (subst (λ (ns : List ℕ). Has ns c) (numbers_both os back) h)) [
      | inl before ↦ let under = both.0 c before in omega (arith, under)
      | inr after ↦
          let high = both.1 x.cluster (has_here x.cluster (numbers back)) in
          rises_absent c x.cluster (numbers back) (chain_right (λ i j. i ≤ j) (numbers os) (x.cluster ∷ numbers back) rises) high other after
    ]
    by_cut p last among (inr both) (inl rises) t e h =
        let high = both.0 p among in
        let low = both.1 x.cluster (has_here x.cluster (numbers back)) in
        let up : p ≤ x.cluster = chain_across (λ i j. i ≤ j) p x.cluster (numbers os) (x.cluster ∷ numbers back) rises among (has_here x.cluster (numbers back)) in
        omega (arith, low, high, up)
    by_cut p last among (inr both) (inr falls) false e h =
        let high = both.0 p among in
        let low = both.1 x.cluster (has_here x.cluster (numbers back)) in
        let no_less : p ≤ x.cluster = grind (arith, nat_tests, common_steps) in
        omega (arith, low, high, no_less)
    by_cut p last among (inr both) (inr falls) true e h =
        let high = both.0 p among in
        let low = both.1 x.cluster (has_here x.cluster (numbers back)) in
        let there : Has (numbers os) c = elim (has_either c (numbers os) (x.cluster ∷ numbers back) (subst (λ (ns : List ℕ). Has ns c) (numbers_both os (x ∷ back)) old)) [
          | inl before ↦ before
          | inr after ↦ let under = both.1 c after in absurd (omega (arith, under))
        ] in
        elim (has_either c (numbers (end_cast p x os)) (numbers back) (subst (λ (ns : List ℕ). Has ns c) (numbers_both (end_cast p x os) back) h)) [
          | inl before ↦ falls_lacks p last among (omega (arith, low, high)) falls high there before
          | inr after ↦ let under = both.1 c (has_more x.cluster c (numbers back) after) in omega (arith, under)
        ]

    by_number : (p : ℕ) → last_of (numbers os) ≡ Some p → Has (numbers os) p → (t : Bool) → (p == x.cluster) ≡ t → Has (numbers (if t || false then os ++ back else alone_deleted level (Some p) os x back)) c → ⊥
    by_number p last among true e h = cut_apart c os (x ∷ back) cut p among (subst (λ n. Has (x.cluster ∷ numbers back) n) (sym (equal_test p x.cluster e)) (has_here x.cluster (numbers back)))
    by_number p last among false e h = by_cut p last among cut order (nat_lt x.cluster p) refl h

    by_last : (q : Option ℕ) → last_of (numbers os) ≡ q → MayHave (numbers os) q → Has (numbers (if is_number q x.cluster || false then os ++ back else alone_deleted level q os x back)) c → ⊥
    by_last None last among h = none_there os some last
    by_last (Some p) last among h = by_number p last among (p == x.cluster) refl h

-- ---- one event

first_deletes : (asks : Asks) (level : BufferClusterLevel) (at : ℕ) (os qs : List Origin) (c : ℕ) → HaveSafeBreaks asks level (os ++ qs) → at < length os → AreCutAt c os qs
    → IsUnsafeAt c (origins_after_event asks level (os ++ qs) (Delete at)) ⊎ (origins_after_event asks level (os ++ qs) (Delete at) ≡ origins_after_event asks level os (Delete at) ++ qs)
first_deletes asks level at os qs c s l cut = by_sides (take at os) (drop at os) refl refl
  where
    apart : AreApart os qs
    apart = cut_apart c os qs cut

    alone : (front rest : List Origin) → take at os ≡ front → drop at os ≡ rest → DeletesBeside front rest → IsUnsafeAt c (origins_after_event asks level (os ++ qs) (Delete at)) ⊎ (origins_after_event asks level (os ++ qs) (Delete at) ≡ origins_after_event asks level os (Delete at) ++ qs)
    alone front rest e f some = inr (event_first asks level (Delete at) os qs apart l (subst (λ (xs : List Origin). DeletesBeside xs (drop at os)) (sym e) (subst (DeletesBeside front) (sym f) some)))

    only : (x : Origin) → take at os ≡ [] → drop at os ≡ x ∷ [] → IsUnsafeAt c (origins_after_event asks level (os ++ qs) (Delete at))
    only x e f = λ there.
        let le : at ≤ length os = omega (arith, l) in
        let front : take at (os ++ qs) ≡ [] = take-append-le at os qs le ∙ e in
        let rest : drop at (os ++ qs) ≡ x ∷ qs = drop-append-le at os qs le ∙ ap (λ (xs : List Origin). xs ++ qs) f in
        let whole : os ≡ x ∷ [] = sym (take-append-drop at os) ∙ ap (λ (xs : List Origin). xs ++ drop at os) e ∙ f in
        let is : origins_deleted level at (os ++ qs) ≡ one_deleted level [] x qs = ap (λ (xs : List Origin). first_deleted level xs (drop at (os ++ qs))) front ∙ ap (λ (xs : List Origin). first_deleted level [] xs) rest in
        let new : Has (numbers (one_deleted level [] x qs)) c = subst (λ (xs : List Origin). Has (numbers xs) c) is (handed_there asks.breaks c (take 1 (drop at (os ++ qs))) at (origins_deleted level at (os ++ qs)) there) in
        let order : IsOrdered (numbers (x ∷ qs)) = subst (λ (xs : List Origin). IsOrdered (numbers (xs ++ qs))) whole s.ordered in
        absurd (only_lacks level c x qs s.monotone order (subst (λ (xs : List Origin). AreCutAt c xs qs) whole cut) new)

    by_sides : (front rest : List Origin) → take at os ≡ front → drop at os ≡ rest → IsUnsafeAt c (origins_after_event asks level (os ++ qs) (Delete at)) ⊎ (origins_after_event asks level (os ++ qs) (Delete at) ≡ origins_after_event asks level os (Delete at) ++ qs)
    by_sides front [] e f = let count = length-drop at os in let none : length (drop at os) ≡ 0 = ap length f in absurd (omega (arith, count, none, l))
    by_sides [] (x ∷ []) e f = inl (only x e f)
    by_sides [] (x ∷ (y ∷ back)) e f = alone [] (x ∷ (y ∷ back)) e f tt
    by_sides (o ∷ front) (x ∷ back) e f = alone (o ∷ front) (x ∷ back) e f tt

first_event : (asks : Asks) (level : BufferClusterLevel) (e : Event) (os qs : List Origin) (c : ℕ) → HaveSafeBreaks asks level (os ++ qs) → IsBounded e (length os) → AreCutAt c os qs
    → IsUnsafeAt c (origins_after_event asks level (os ++ qs) e) ⊎ (origins_after_event asks level (os ++ qs) e ≡ origins_after_event asks level os e ++ qs)
first_event asks level (Delete at) os qs c s w cut = first_deletes asks level at os qs c s w cut
first_event asks level (Merge how from to) os qs c s w cut = inr (event_first asks level (Merge how from to) os qs (cut_apart c os qs cut) w tt)
first_event asks level (MergeGrapheme from to) os qs c s w cut = inr (event_first asks level (MergeGrapheme from to) os qs (cut_apart c os qs cut) w tt)
first_event asks level (Replace at taken given) os qs c s w cut = inr (event_first asks level (Replace at taken given) os qs (cut_apart c os qs cut) w tt)
first_event asks level (Circle after beside like) os qs c s w cut = inr (event_first asks level (Circle after beside like) os qs (cut_apart c os qs cut) w tt)
first_event asks level (Move how from order) os qs c s w cut = inr (event_first asks level (Move how from order) os qs (cut_apart c os qs cut) w tt)
first_event asks level (Arrange from order) os qs c s w cut = inr (event_first asks level (Arrange from order) os qs (cut_apart c os qs cut) w tt)
first_event asks level (Sort from order) os qs c s w cut = inr (event_first asks level (Sort from order) os qs (cut_apart c os qs cut) w tt)
first_event asks level Reverse os qs c s w cut = absurd w
first_event asks level (Break from to) os qs c s w cut = inr (event_first asks level (Break from to) os qs (cut_apart c os qs cut) w tt)
first_event asks level (Concat from to) os qs c s w cut = inr (event_first asks level (Concat from to) os qs (cut_apart c os qs cut) w tt)
first_event asks level (Tatweel from to) os qs c s w cut = inr (event_first asks level (Tatweel from to) os qs (cut_apart c os qs cut) w tt)
first_event asks level (StrictBreak from to) os qs c s w cut = inr (event_first asks level (StrictBreak from to) os qs (cut_apart c os qs cut) w tt)
first_event asks level Spread os qs c s w cut = absurd w
first_event asks level Reset os qs c s w cut = absurd w

second_deletes : (asks : Asks) (level : BufferClusterLevel) (at : ℕ) (os qs : List Origin) (c : ℕ) → HaveSafeBreaks asks level (os ++ qs) → at < length qs → AreCutAt c os qs
    → IsUnsafeAt c (origins_after_event asks level (os ++ qs) (Delete (length os + at))) ⊎ (origins_after_event asks level (os ++ qs) (Delete (length os + at)) ≡ os ++ origins_after_event asks level qs (Delete at))
second_deletes asks level at os qs c s l cut = by_sides os (take at qs) (drop at qs) refl refl refl
  where
    apart : AreApart os qs
    apart = cut_apart c os qs cut

    alone : (before front rest : List Origin) → os ≡ before → take at qs ≡ front → drop at qs ≡ rest → CoversFirst before front rest → IsUnsafeAt c (origins_after_event asks level (os ++ qs) (Delete (length os + at))) ⊎ (origins_after_event asks level (os ++ qs) (Delete (length os + at)) ≡ os ++ origins_after_event asks level qs (Delete at))
    alone before front rest d e f some =
        inr (event_last asks level (Delete at) os qs apart l (subst (λ (xs : List Origin). CoversFirst xs (take at qs) (drop at qs)) (sym d) (subst (λ (xs : List Origin). CoversFirst before xs (drop at qs)) (sym e) (subst (CoversFirst before front) (sym f) some))))

    only : (x : Origin) (back : List Origin) → 0 < length os → take at qs ≡ [] → drop at qs ≡ x ∷ back → is_number (first_of (numbers back)) x.cluster ≡ false → IsUnsafeAt c (origins_after_event asks level (os ++ qs) (Delete (length os + at)))
    only x back some e f other = λ there.
        let front : take (length os + at) (os ++ qs) ≡ os = take-append-add os qs at ∙ ap (λ (xs : List Origin). os ++ xs) e ∙ append-nil os in
        let rest : drop (length os + at) (os ++ qs) ≡ x ∷ back = drop-append-add os qs at ∙ f in
        let whole : qs ≡ x ∷ back = sym (take-append-drop at qs) ∙ ap (λ (xs : List Origin). xs ++ drop at qs) e ∙ f in
        let is : origins_deleted level (length os + at) (os ++ qs) ≡ one_deleted level os x back = ap (λ (xs : List Origin). first_deleted level xs (drop (length os + at) (os ++ qs))) front ∙ ap (λ (xs : List Origin). first_deleted level os xs) rest in
        let new : Has (numbers (one_deleted level os x back)) c = subst (λ (xs : List Origin). Has (numbers xs) c) is (handed_there asks.breaks c (take 1 (drop (length os + at) (os ++ qs))) (length os + at) (origins_deleted level (length os + at) (os ++ qs)) there) in
        let order : IsOrdered (numbers (os ++ x ∷ back)) = subst (λ (xs : List Origin). IsOrdered (numbers (os ++ xs))) whole s.ordered in
        let old : Has (numbers (os ++ x ∷ back)) c = subst (λ (xs : List Origin). Has (numbers (os ++ xs)) c) whole (event_brings asks level (os ++ qs) (Delete (length os + at)) c there) in
        absurd (first_lacks level c os x back order (subst (AreCutAt c os) whole cut) some other old new)

    by_number : (o : Origin) (before : List Origin) (x : Origin) (back : List Origin) → os ≡ o ∷ before → take at qs ≡ [] → drop at qs ≡ x ∷ back → (t : Bool) → is_number (first_of (numbers back)) x.cluster ≡ t → IsUnsafeAt c (origins_after_event asks level (os ++ qs) (Delete (length os + at))) ⊎ (origins_after_event asks level (os ++ qs) (Delete (length os + at)) ≡ os ++ origins_after_event asks level qs (Delete at))
    by_number o before x back d e f true g = alone (o ∷ before) [] (x ∷ back) d e f g
    by_number o before x back d e f false g = let count : length os ≡ suc (length before) = ap length d in inl (only x back (omega (arith, count)) e f g)

    by_sides : (before front rest : List Origin) → os ≡ before → take at qs ≡ front → drop at qs ≡ rest → IsUnsafeAt c (origins_after_event asks level (os ++ qs) (Delete (length os + at))) ⊎ (origins_after_event asks level (os ++ qs) (Delete (length os + at)) ≡ os ++ origins_after_event asks level qs (Delete at))
    by_sides before front [] d e f = let count = length-drop at qs in let none : length (drop at qs) ≡ 0 = ap length f in absurd (omega (arith, count, none, l))
    by_sides [] front (x ∷ back) d e f = alone [] front (x ∷ back) d e f tt
    by_sides (o ∷ before) (q ∷ front) (x ∷ back) d e f = alone (o ∷ before) (q ∷ front) (x ∷ back) d e f tt
    by_sides (o ∷ before) [] (x ∷ back) d e f = by_number o before x back d e f (is_number (first_of (numbers back)) x.cluster) refl

second_event : (asks : Asks) (level : BufferClusterLevel) (e : Event) (os qs : List Origin) (c : ℕ) → HaveSafeBreaks asks level (os ++ qs) → IsBounded e (length qs) → AreCutAt c os qs
    → IsUnsafeAt c (origins_after_event asks level (os ++ qs) (shifted_event (length os) e)) ⊎ (origins_after_event asks level (os ++ qs) (shifted_event (length os) e) ≡ os ++ origins_after_event asks level qs e)
second_event asks level (Delete at) os qs c s w cut = second_deletes asks level at os qs c s w cut
second_event asks level (Merge how from to) os qs c s w cut = inr (event_last asks level (Merge how from to) os qs (cut_apart c os qs cut) w tt)
second_event asks level (MergeGrapheme from to) os qs c s w cut = inr (event_last asks level (MergeGrapheme from to) os qs (cut_apart c os qs cut) w tt)
second_event asks level (Replace at taken given) os qs c s w cut = inr (event_last asks level (Replace at taken given) os qs (cut_apart c os qs cut) w tt)
second_event asks level (Circle after beside like) os qs c s w cut = inr (event_last asks level (Circle after beside like) os qs (cut_apart c os qs cut) w tt)
second_event asks level (Move how from order) os qs c s w cut = inr (event_last asks level (Move how from order) os qs (cut_apart c os qs cut) w tt)
second_event asks level (Arrange from order) os qs c s w cut = inr (event_last asks level (Arrange from order) os qs (cut_apart c os qs cut) w tt)
second_event asks level (Sort from order) os qs c s w cut = inr (event_last asks level (Sort from order) os qs (cut_apart c os qs cut) w tt)
second_event asks level Reverse os qs c s w cut = absurd w
second_event asks level (Break from to) os qs c s w cut = inr (event_last asks level (Break from to) os qs (cut_apart c os qs cut) w tt)
second_event asks level (Concat from to) os qs c s w cut = inr (event_last asks level (Concat from to) os qs (cut_apart c os qs cut) w tt)
second_event asks level (Tatweel from to) os qs c s w cut = inr (event_last asks level (Tatweel from to) os qs (cut_apart c os qs cut) w tt)
second_event asks level (StrictBreak from to) os qs c s w cut = inr (event_last asks level (StrictBreak from to) os qs (cut_apart c os qs cut) w tt)
second_event asks level Spread os qs c s w cut = absurd w
second_event asks level Reset os qs c s w cut = absurd w

-- ---- some events

lossless_rest : (asks : Asks) (level : BufferClusterLevel) (e : Event) (es : List Event) (os : List Origin) → AreLossless es (count_after_event (length os) e) → AreLossless es (length (origins_after_event asks level os e))
lossless_rest asks level e es os l = subst (AreLossless es) (sym (counts_follow asks level (e ∷ []) os)) l

within_rest : (asks : Asks) (level : BufferClusterLevel) (e : Event) (es : List Event) (os : List Origin) → AreBounded es (count_after_event (length os) e) → AreBounded es (length (origins_after_event asks level os e))
within_rest asks level e es os w = subst (AreBounded es) (sym (counts_follow asks level (e ∷ []) os)) w

pub first_changes_alone : FirstChangesAlone
first_changes_alone asks level [] os qs c s h l w cut = inr refl
first_changes_alone asks level (e ∷ es) os qs c s h l w cut =
    let mid = origins_after_event asks level (os ++ qs) e in
    let new = origins_after_event asks level os e in
    let then_safe = safe_breaks_stay asks level (e ∷ []) (os ++ qs) s (h.0, tt) in
    let then_lossless = lossless_rest asks level e es (os ++ qs) l.1 in
    elim (first_event asks level e os qs c s w.0 cut) [
      | inl unsafe ↦ inl (unsafe_stays asks level es mid c then_safe h.1 then_lossless unsafe)
      | inr same ↦ elim (first_changes_alone asks level es new qs c (subst (HaveSafeBreaks asks level) same then_safe) (subst (IsOrderly asks level es) same h.1) (subst (λ (xs : List Origin). AreLossless es (length xs)) same then_lossless) (within_rest asks level e es os w.1) (cut_after asks level e os qs c cut)) [
        | inl unsafe ↦ inl (subst (λ (xs : List Origin). IsUnsafeAt c (origins_after asks level es xs)) (sym same) unsafe)
        | inr rest ↦ inr (ap (origins_after asks level es) same ∙ rest)
      ]
    ]

pub second_changes_alone : SecondChangesAlone
second_changes_alone asks level [] os qs c s h l w cut = inr refl
second_changes_alone asks level (e ∷ es) os qs c s h l w cut =
    let d = shifted_event (length os) e in
    let ds = map (shifted_event (length os)) es in
    let mid = origins_after_event asks level (os ++ qs) d in
    let new = origins_after_event asks level qs e in
    let then_safe = safe_breaks_stay asks level (d ∷ []) (os ++ qs) s (h.0, tt) in
    let then_lossless = lossless_rest asks level d ds (os ++ qs) l.1 in
    elim (second_event asks level e os qs c s w.0 cut) [
      | inl unsafe ↦ inl (unsafe_stays asks level ds mid c then_safe h.1 then_lossless unsafe)
      | inr same ↦ elim (second_changes_alone asks level es os new c (subst (HaveSafeBreaks asks level) same then_safe) (subst (IsOrderly asks level ds) same h.1) (subst (λ (xs : List Origin). AreLossless ds (length xs)) same then_lossless) (within_rest asks level e es qs w.1) (cut_before asks level e os qs c cut)) [
        | inl unsafe ↦ inl (subst (λ (xs : List Origin). IsUnsafeAt c (origins_after asks level ds xs)) (sym same) unsafe)
        | inr rest ↦ inr (ap (origins_after asks level ds) same ∙ rest)
      ]
    ]

cut_after_all : (asks : Asks) (level : BufferClusterLevel) (es : List Event) (os qs : List Origin) (c : ℕ) → AreCutAt c os qs → AreCutAt c (origins_after asks level es os) qs
cut_after_all asks level [] os qs c cut = cut
cut_after_all asks level (e ∷ es) os qs c cut = cut_after_all asks level es (origins_after_event asks level os e) qs c (cut_after asks level e os qs c cut)

-- events within the second list, whose indices count from a number that is the first list's length
second_at : (asks : Asks) (level : BufferClusterLevel) (es : List Event) (os qs : List Origin) (c n : ℕ) → n ≡ length os → HaveSafeBreaks asks level (os ++ qs) → IsOrderly asks level (map (shifted_event n) es) (os ++ qs)
    → AreLossless (map (shifted_event n) es) (length (os ++ qs)) → AreBounded es (length qs) → AreCutAt c os qs
    → IsUnsafeAt c (origins_after asks level (map (shifted_event n) es) (os ++ qs)) ⊎ (origins_after asks level (map (shifted_event n) es) (os ++ qs) ≡ os ++ origins_after asks level es qs)
second_at asks level es os qs c n e s h l w cut =
    subst (λ (k : ℕ). IsUnsafeAt c (origins_after asks level (map (shifted_event k) es) (os ++ qs)) ⊎ (origins_after asks level (map (shifted_event k) es) (os ++ qs) ≡ os ++ origins_after asks level es qs)) (sym e)
    (second_changes_alone asks level es os qs c s (subst (λ (k : ℕ). IsOrderly asks level (map (shifted_event k) es) (os ++ qs)) e h) (subst (λ (k : ℕ). AreLossless (map (shifted_event k) es) (length (os ++ qs))) e l) w cut)

-- ---- events within the first list, and then events within the second

pub both_change_alone : BothChangeAlone
both_change_alone asks level es fs os qs c s h l w v cut =
    let ds = map (shifted_event (count_after es (length os))) fs in
    let whole = os ++ qs in
    let new = origins_after asks level es os in
    let mid = origins_after asks level es whole in
    let orderly = (orderly_in_turn asks level es ds whole).0 h in
    let lossless = (lossless_in_turn es ds (length whole)).0 l in
    let then_safe = safe_breaks_stay asks level es whole s orderly.0 in
    let then_lossless : AreLossless ds (length mid) = subst (AreLossless ds) (sym (counts_follow asks level es whole)) lossless.1 in
    let count : count_after es (length os) ≡ length new = sym (counts_follow asks level es os) in
    let joined = origins_after_both asks level es ds whole in
    elim (first_changes_alone asks level es os qs c s orderly.0 lossless.0 w cut) [
      | inl unsafe ↦ inl (subst (IsUnsafeAt c) (sym joined) (unsafe_stays asks level ds mid c then_safe orderly.1 then_lossless unsafe))
      | inr same ↦ elim (second_at asks level fs new qs c (count_after es (length os)) count (subst (HaveSafeBreaks asks level) same then_safe) (subst (IsOrderly asks level ds) same orderly.1) (subst (λ (xs : List Origin). AreLossless ds (length xs)) same then_lossless) v (cut_after_all asks level es os qs c cut)) [
        | inl unsafe ↦ inl (subst (IsUnsafeAt c) (sym joined) (subst (λ (xs : List Origin). IsUnsafeAt c (origins_after asks level ds xs)) (sym same) unsafe))
        | inr rest ↦ inr (joined ∙ ap (origins_after asks level ds) same ∙ rest)
      ]
    ]

-- ---- events within the second list, and then events within the first

cut_before_all : (asks : Asks) (level : BufferClusterLevel) (es : List Event) (os qs : List Origin) (c : ℕ) → AreCutAt c os qs → AreCutAt c os (origins_after asks level es qs)
cut_before_all asks level [] os qs c cut = cut
cut_before_all asks level (e ∷ es) os qs c cut = cut_before_all asks level es os (origins_after_event asks level qs e) c (cut_before asks level e os qs c cut)

pub both_change_backward : BothChangeBackward
both_change_backward asks level es fs os qs c s h l w v cut =
    let ds = map (shifted_event (length os)) fs in
    let whole = os ++ qs in
    let new = origins_after asks level fs qs in
    let mid = origins_after asks level ds whole in
    let orderly = (orderly_in_turn asks level ds es whole).0 h in
    let lossless = (lossless_in_turn ds es (length whole)).0 l in
    let then_safe = safe_breaks_stay asks level ds whole s orderly.0 in
    let then_lossless : AreLossless es (length mid) = subst (AreLossless es) (sym (counts_follow asks level ds whole)) lossless.1 in
    let joined = origins_after_both asks level ds es whole in
    elim (second_changes_alone asks level fs os qs c s orderly.0 lossless.0 v cut) [
      | inl unsafe ↦ inl (subst (IsUnsafeAt c) (sym joined) (unsafe_stays asks level es mid c then_safe orderly.1 then_lossless unsafe))
      | inr same ↦ elim (first_changes_alone asks level es os new c (subst (HaveSafeBreaks asks level) same then_safe) (subst (IsOrderly asks level es) same orderly.1) (subst (λ (xs : List Origin). AreLossless es (length xs)) same then_lossless) w (cut_before_all asks level fs os qs c cut)) [
        | inl unsafe ↦ inl (subst (IsUnsafeAt c) (sym joined) (subst (λ (xs : List Origin). IsUnsafeAt c (origins_after asks level es xs)) (sym same) unsafe))
        | inr rest ↦ inr (joined ∙ ap (origins_after asks level es) same ∙ rest)
      ]
    ]

-- ---- events of the whole list

-- the flags of the run at the front of the first list
run_both : (n : ℕ) (os qs : List Origin) → Lacks n qs → run_flags n (os ++ qs) ≡ run_flags n os
run_both n [] [] none = refl
run_both n [] (q ∷ qs) none =
    let other : (q.cluster == n) ≡ false = differs q.cluster n (λ e. none (subst (λ k. Has (q.cluster ∷ numbers qs) k) e (has_here q.cluster (numbers qs)))) in
    ap (λ (b : Bool). if b then bit_or q.flags (run_flags n qs) else 0) other
run_both n (o ∷ os) qs none = ap (λ (k : ℕ). if o.cluster == n then bit_or o.flags k else 0) (run_both n os qs none)

-- a neighbour before of a cluster that the list lacks is as none
abbrev MayBeOther : Option Origin → List Origin → Type 0
MayBeOther None os = Unit {0}
MayBeOther (Some p) os = Lacks p.cluster os

spread_alone : (asks : Asks) (before : Option Origin) (os : List Origin) → MayBeOther before os → origins_spread_after asks before os ≡ origins_spread_after asks None os
spread_alone asks before [] other = refl
spread_alone asks None (o ∷ os) other = refl
spread_alone asks (Some p) (o ∷ os) other =
    let flags = settled_flags asks (run_flags o.cluster (o ∷ os)) in
    let apart : (p.cluster == o.cluster) ≡ false = differs p.cluster o.cluster (λ e. other (subst (λ k. Has (o.cluster ∷ numbers os) k) (sym e) (has_here o.cluster (numbers os)))) in
    ap (λ (b : Bool). after (if b then p.flags else flags)) apart
  where
    after : ℕ → List Origin
    after f = let now : Origin = record { cluster = o.cluster; flags = f } in now ∷ origins_spread_after asks (Some now) os

spread_both : (asks : Asks) (before : Option Origin) (os qs : List Origin) → AreApart os qs → MayBeOther before qs → origins_spread_after asks before (os ++ qs) ≡ origins_spread_after asks before os ++ origins_spread_after asks None qs
spread_both asks before [] qs apart other = spread_alone asks before qs other
spread_both asks before (o ∷ os) qs apart other =
    let none = apart o.cluster (has_here o.cluster (numbers os)) in
    let run : run_flags o.cluster (o ∷ (os ++ qs)) ≡ run_flags o.cluster (o ∷ os) = run_both o.cluster (o ∷ os) qs none in
    let flags = spread_flags before o.cluster (settled_flags asks (run_flags o.cluster (o ∷ os))) in
    ap (λ (n : ℕ). with_first (spread_flags before o.cluster (settled_flags asks n)) (os ++ qs)) run
    ∙ ap (λ (xs : List Origin). now flags ∷ xs) (spread_both asks (Some (now flags)) os qs (λ n h k. apart n (has_more o.cluster n (numbers os) h) k) none)
  where
    now : ℕ → Origin
    now f = record { cluster = o.cluster; flags = f }

    with_first : ℕ → List Origin → List Origin
    with_first f xs = now f ∷ origins_spread_after asks (Some (now f)) xs

pub whole_events_divide : WholeEventsDivide
whole_events_divide asks level os qs c cut = record {
  reversed = reverse-append os qs;
  spread = spread_both asks None os qs (cut_apart c os qs cut) tt;
  cleared = map-append (λ (o : Origin). record { cluster = o.cluster; flags = 0 }) os qs;
}
