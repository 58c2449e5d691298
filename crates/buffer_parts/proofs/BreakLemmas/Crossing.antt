-- Ranges that cross the start of a cluster, by index, and among other events.
use Rattle.std.proofs.Common.{ℕ, zero, suc, ◌≡◌, ◌≤◌, ◌<◌, ◌+◌, ◌-◌, inl, inr, List, [], ◌∷◌, ◌++◌, length, take, drop, arith, refl, ap, sym, subst, ◌∙◌}
use Rattle.std.proofs.lemmas.List.{map-append, length-map, length-append, length-drop, drop-append-le}
use Rattle.std.proofs.Math.Seq.{take-append-add}
use Rattle.buffer_glyphs.specs.declared.level.BufferClusterLevel.{BufferClusterLevel}
use Rattle.buffer_glyphs.specs.Parts.{range_of}
use Rattle.buffer_glyphs.specs.Origins.{Origin, Asks, numbers}
use Rattle.buffer_glyphs.specs.Events.{Event, Sort, origins_after_event, origins_after}
use Rattle.buffer_glyphs.specs.Lemmas.Numbers.{Has, has_here, has_left, has_right, has_drop}
use Rattle.buffer_glyphs.specs.Lemmas.Origins.{origins_after_both}
use Rattle.buffer_parts.specs.Orderly.{IsOrderlyAt, IsOrderly}
use Rattle.buffer_parts.specs.Counts.{count_after_event}
use Rattle.buffer_parts.specs.Lemmas.Counts.{counts_follow}
use Rattle.buffer_parts.specs.Lemmas.Orderly.{orderly_in_turn}
use Rattle.buffer_parts.specs.Breaks.Unsafe.{IsUnsafeAt, HaveSafeBreaks}
use Rattle.buffer_parts.specs.Breaks.Lossless.{IsLossless, AreLossless}
use Rattle.buffer_parts.specs.Breaks.Bound.{Crosses}
use Rattle.buffer_parts.specs.Breaks.Sides.{AreCutAt}
use Rattle.buffer_parts.specs.Breaks.Laws.{BoundStaysUnsafe, SortStaysUnsafe}
use Rattle.buffer_parts.specs.Breaks.SideLaws.{RangesCross}
use Rattle.buffer_parts.proofs.BreakLemmas.Events.{unsafe_stays, safe_breaks_stay, lossless_in_turn}
use Rattle.buffer_parts.proofs.BreakLemmas.Bound.{bound_is_unsafe}
use Rattle.buffer_parts.proofs.BreakLemmas.Sorts.{sort_is_unsafe}

-- an event that makes it unsafe to break, among others
unsafe_among : (asks : Asks) (level : BufferClusterLevel) (es fs : List Event) (e : Event) (os : List Origin) (c : ℕ) → HaveSafeBreaks asks level os → IsOrderly asks level (es ++ e ∷ fs) os → AreLossless (es ++ e ∷ fs) (length os)
    → (HaveSafeBreaks asks level (origins_after asks level es os) → IsOrderlyAt e (numbers (origins_after asks level es os)) → IsLossless e (length (origins_after asks level es os)) → IsUnsafeAt c (origins_after_event asks level (origins_after asks level es os) e))
    → IsUnsafeAt c (origins_after asks level (es ++ e ∷ fs) os)
unsafe_among asks level es fs e os c b h l makes =
    let rest = e ∷ fs in
    let orderly = (orderly_in_turn asks level es rest os).0 h in
    let lossless = (lossless_in_turn es rest (length os)).0 l in
    let mid = origins_after asks level es os in
    let safe = safe_breaks_stay asks level es os b orderly.0 in
    let fits : AreLossless rest (length mid) = subst (AreLossless rest) (sym (counts_follow asks level es os)) lossless.1 in
    let counted : length (origins_after_event asks level mid e) ≡ count_after_event (length mid) e = counts_follow asks level (e ∷ []) mid in
    let unsafe = makes safe orderly.1.0 fits.0 in
    subst (IsUnsafeAt c) (sym (origins_after_both asks level es rest os))
    (unsafe_stays asks level fs (origins_after_event asks level mid e) c (safe_breaks_stay asks level (e ∷ []) mid safe (orderly.1.0, tt)) orderly.1.1 (subst (AreLossless fs) (sym counted) fits.1) unsafe)

pub bound_stays_unsafe : BoundStaysUnsafe
bound_stays_unsafe asks level es fs e s os c b h l is x =
    unsafe_among asks level es fs e os c b h l (λ safe o lossless. bound_is_unsafe asks level e s (origins_after asks level es os) c safe.requested safe.ordered lossless is x)

pub sort_stays_unsafe : SortStaysUnsafe
sort_stays_unsafe asks level es fs from order i os c b h l within inner x =
    unsafe_among asks level es fs (Sort from order) os c b h l (λ safe o lossless. sort_is_unsafe asks level from order i (origins_after asks level es os) c safe.ordered lossless o within inner x)

-- ---- ranges by index

taken_first : (i n : ℕ) (ns : List ℕ) → 0 < i → Has (take i (n ∷ ns)) n
taken_first zero n ns lt = absurd (omega (arith, lt))
taken_first (suc i) n ns lt = has_here n (take i ns)

wide : (from to m rest : ℕ) → from < m → m < to → rest ≡ m - from → to - from ≡ rest + (to - m)
wide from to m rest l k e = omega (arith, l, k, e)

-- of two lists one after the other, a range that begins in the first and ends in the second has an element of each
range_has_both : (from to : ℕ) (ms ns : List ℕ) → from < length ms → length ms < to → to ≤ length ms + length ns
    → ((m : ℕ) × Has ms m × Has (range_of from to (ms ++ ns)) m) × ((n : ℕ) × Has ns n × Has (range_of from to (ms ++ ns)) n)
range_has_both from to ms ns l k fits = by_lists (drop from ms) ns refl refl
  where
    count : length (drop from ms) ≡ length ms - from
    count = length-drop from ms

    by_lists : (rest all : List ℕ) → drop from ms ≡ rest → ns ≡ all → ((m : ℕ) × Has ms m × Has (range_of from to (ms ++ ns)) m) × ((n : ℕ) × Has ns n × Has (range_of from to (ms ++ ns)) n)
    by_lists [] all e f = let none : length (drop from ms) ≡ 0 = ap length e in absurd (omega (arith, count, none, l))
    by_lists (m ∷ rest) [] e f = let none : length ns ≡ 0 = ap length f in absurd (omega (arith, none, k, fits))
    by_lists (m ∷ rest) (n ∷ all) e f =
        let front : Has (drop from ms) m = subst (λ (xs : List ℕ). Has xs m) (sym e) (has_here m rest) in
        let cut : range_of from to (ms ++ ns) ≡ drop from ms ++ take (to - length ms) ns =
        ap (take (to - from)) (drop-append-le from ms ns (omega (arith, l)))
        ∙ ap (λ (i : ℕ). take i (drop from ms ++ ns)) (wide from to (length ms) (length (drop from ms)) l k count)
        ∙ take-append-add (drop from ms) ns (to - length ms) in
        let last : Has (take (to - length ms) ns) n = subst (λ (xs : List ℕ). Has (take (to - length ms) xs) n) (sym f) (taken_first (to - length ms) n all (omega (arith, k))) in (
          (m, has_drop m from ms front, subst (λ (xs : List ℕ). Has xs m) (sym cut) (has_left m (drop from ms) (take (to - length ms) ns) front)),
          (n, subst (λ (xs : List ℕ). Has xs n) (sym f) (has_here n all), subst (λ (xs : List ℕ). Has xs n) (sym cut) (has_right n (drop from ms) (take (to - length ms) ns) last)),
        )

pub ranges_cross : RangesCross
ranges_cross c from to os qs cut l k fits = subst (Crosses c from to) (sym both) (by_cut cut)
  where
    both : numbers (os ++ qs) ≡ numbers os ++ numbers qs
    both = map-append (λ (o : Origin). o.cluster) os qs

    there : ((m : ℕ) × Has (numbers os) m × Has (range_of from to (numbers os ++ numbers qs)) m) × ((n : ℕ) × Has (numbers qs) n × Has (range_of from to (numbers os ++ numbers qs)) n)
    there =
        let first : length (numbers os) ≡ length os = length-map os (λ (o : Origin). o.cluster) in
        let second : length (numbers qs) ≡ length qs = length-map qs (λ (o : Origin). o.cluster) in
        let all = length-append os qs in
        range_has_both from to (numbers os) (numbers qs) (omega (arith, first, l)) (omega (arith, first, k)) (omega (arith, first, second, all, fits))

    by_cut : AreCutAt c os qs → Crosses c from to (numbers os ++ numbers qs)
    by_cut (inl sides) = record { low = there.0.0; high = there.1.0; has_low = there.0.2; has_high = there.1.2; below = sides.0 there.0.0 there.0.1; above = sides.1 there.1.0 there.1.1 }
    by_cut (inr sides) = record { low = there.1.0; high = there.0.0; has_low = there.1.2; has_high = there.0.2; below = sides.1 there.1.0 there.1.1; above = sides.0 there.0.0 there.0.1 }
