-- What events do to clusters.
use Rattle.std.proofs.Common.{ℕ, zero, suc, ◌≡◌, ◌+◌, ◌-◌, ◌==◌, ◌⊎◌, inl, inr, Bool, true, false, nat_le, if◌then◌else◌, List, [], ◌∷◌, ◌++◌, Option, Some, None, length, map, take, drop, reverse, arith, refl, ap, sym, subst, ◌∙◌, append_assoc}
use Rattle.std.specs.Prelude.{slice_get, unwrap_or}
use Rattle.std.specs.Int.RustNames.{bit_and}
use Rattle.std.specs.Int.Bits.{and_zero_r}
use Rattle.std.proofs.lemmas.Nat.{and_assoc}
use Rattle.std.proofs.lemmas.Grind.{common_steps, reverse_onto}
use Rattle.std.proofs.lemmas.Bool.Decides.{nat_tests}
use Rattle.std.proofs.lemmas.List.{append-nil, map-append, take-map, drop-map, drop-drop, take-append-drop, length-map, map-id}
use Rattle.std.proofs.lemmas.List.Sums.{fold-append}
use Rattle.buffer_glyphs.specs.declared.level.BufferClusterLevel.{BufferClusterLevel}
use Rattle.buffer_glyphs.specs.declared.level.BufferClusterLevel.TheVariants.{MonotoneGraphemes, MonotoneCharacters, Characters, Graphemes}
use Rattle.buffer_glyphs.specs.Parts.{JoinParts, ReplaceParts, DeletePart, CirclePart, first_of, range_of, copies, numbers_replaced, elements_replaced, after_part_event, after_part_events}
use Rattle.buffer_glyphs.specs.Order.{BringsNone, IsOrdered}
use Rattle.buffer_glyphs.specs.Merges.{least_number, merged_number, merged_numbers}
use Rattle.buffer_glyphs.specs.Deletions.{number_deleted}
use Rattle.buffer_glyphs.specs.Origins.{Origin, numbers, Asks, Manner, Unites, Marks, Keeps, Merging, InList, InOutput, manner, origins_merged_as, first_deleted, origins_deleted, picked_elements, with_range_arranged, Span, spans, spans_merged, flags_at, first_circled, origins_circled, origins_spread_after, spread_flags, settled_flags, run_flags, tatweel_settled, origins_spread, without_marks}
use Rattle.buffer_glyphs.specs.Events.{Event, StaysInSpans, Merge, MergeGrapheme, Replace, Circle, Delete, Move, Arrange, Sort, Reverse, Break, Concat, Tatweel, StrictBreak, Spread, Reset, concat_marked, strictly_marked, tatweel_marked, origins_after_event, origins_after, IsPlain}
use Rattle.buffer_glyphs.specs.EventParts.{joins_of, span_joins, parts_of_event, parts_of, IsEven, AreEvenRuns, HaveNoConcat}
use Rattle.buffer_glyphs.specs.Lemmas.Drawn.{drawn_replaced, drawn_doubled}
use Rattle.buffer_glyphs.specs.Lemmas.Numbers.{Has, has_here, has_more, has_cases, has_either, has_take, has_drop, has_map, has_reverse, drawn_brings}
use Rattle.buffer_glyphs.specs.Lemmas.Parts.{stays_ordered, numbers_through}
use Rattle.buffer_glyphs.specs.Levels.{IsUniting, IsMonotone, grapheme_manner}
use Rattle.buffer_glyphs.specs.Lemmas.Sorts.{spans_united, sorted_alike}
use Rattle.buffer_glyphs.specs.Lemmas.Merges.{merge_joins, merge_joins_ordered, merged_in, numbers_brought}
use Rattle.buffer_glyphs.specs.Lemmas.Deletions.{deletion_is_event, deletion_brings_none}
use Rattle.buffer_glyphs.specs.Lemmas.Replacements.{among_seen}
use Rattle.buffer_glyphs.specs.Lemmas.Handed.{numbers_handed_if}
use Rattle.buffer_glyphs.specs.Lemmas.Origins.{numbers_listed, numbers_merged, numbers_merged_by, numbers_marked, numbers_flagged, numbers_deleted}

pub map-reverse : {X Y : Type 0} (f : X → Y) (xs : List X) → map f (reverse xs) ≡ reverse (map f xs)
map-reverse f [] = refl
map-reverse f (x ∷ xs) = rw (reverse_onto xs x [], map-append, map-reverse f xs, reverse_onto (map f xs) (f x) []) refl

-- ---- the clusters after one event

numbers_circled : (after : Bool) (flags : ℕ) (os : List Origin) → numbers (first_circled after flags os) ≡ copies 2 (first_of (numbers os)) ++ drop 1 (numbers os)
numbers_circled after flags [] = refl
numbers_circled true flags (o ∷ os) = refl
numbers_circled false flags (o ∷ os) = refl

numbers_with_circle : (after : Bool) (beside like : ℕ) (os : List Origin) → numbers (origins_circled after beside like os) ≡ after_part_event (numbers os) (CirclePart beside)
numbers_with_circle after beside like os =
    let n : Origin → ℕ = λ o. o.cluster in
    map-append n (take beside os) (first_circled after (flags_at like os) (drop beside os)) ∙ ap (λ ns. ns ++ numbers (first_circled after (flags_at like os) (drop beside os))) (sym (take-map n beside os))
    ∙ ap (λ ns. take beside (numbers os) ++ ns) (numbers_circled after (flags_at like os) (drop beside os) ∙ ap (λ ns. copies 2 (first_of ns) ++ drop 1 ns) (sym (drop-map n beside os)) ∙ ap (λ ns. copies 2 (first_of (drop beside (numbers os))) ++ ns) (drop-drop 1 beside (numbers os)))
    ∙ sym (append_assoc (take beside (numbers os)) (copies 2 (first_of (drop beside (numbers os)))) (drop (beside + 1) (numbers os)))

pub numbers_picked : (all : List Origin) (order : List ℕ) (os : List Origin) → numbers (picked_elements all order os) ≡ picked_elements (numbers all) order (numbers os)
numbers_picked all [] os = refl
numbers_picked all (i ∷ order) [] = refl
numbers_picked all (i ∷ order) (o ∷ os) = rw (got all i, numbers_picked all order os) refl
  where
    got : (qs : List Origin) (k : ℕ) → (unwrap_or (slice_get qs k) o).cluster ≡ unwrap_or (slice_get (numbers qs) k) o.cluster
    got [] k = refl
    got (q ∷ qs) zero = refl
    got (q ∷ qs) (suc k) = got qs k

pub numbers_arranged : (from : ℕ) (order : List ℕ) (os : List Origin) → numbers (with_range_arranged from order os) ≡ with_range_arranged from order (numbers os)
numbers_arranged from order os =
    let n : Origin → ℕ = λ o. o.cluster in
    map-append n (take from os) (picked_elements (take (length order) (drop from os)) order (drop from os))
    ∙ ap (λ ns. ns ++ numbers (picked_elements (take (length order) (drop from os)) order (drop from os))) (sym (take-map n from os))
    ∙ ap (λ ns. take from (numbers os) ++ ns) (numbers_picked (take (length order) (drop from os)) order (drop from os) ∙ ap (λ ns. picked_elements ns order (numbers (drop from os))) (sym (take-map n (length order) (drop from os))) ∙ ap (λ ns. picked_elements (take (length order) ns) order ns) (sym (drop-map n from os)))

pub numbers_spread : (asks : Asks) (before : Option Origin) (os : List Origin) → numbers (origins_spread_after asks before os) ≡ numbers os
numbers_spread asks before [] = refl
numbers_spread asks before (o ∷ os) = ap (λ ns. o.cluster ∷ ns) (numbers_spread asks (Some (record { cluster = o.cluster; flags = spread_flags before o.cluster (settled_flags asks (run_flags o.cluster (o ∷ os))) })) os)

pub numbers_reset : (os : List Origin) → numbers (without_marks os) ≡ numbers os
numbers_reset [] = refl
numbers_reset (o ∷ os) = ap (λ ns. o.cluster ∷ ns) (numbers_reset os)

numbers_concat : (asked : Bool) (from to : ℕ) (os : List Origin) → numbers (concat_marked asked from to os) ≡ numbers os
numbers_concat true from to os = numbers_flagged 2 from to os
numbers_concat false from to os = refl

numbers_tatweel : (asked : Bool) (from to : ℕ) (os : List Origin) → numbers (tatweel_marked asked from to os) ≡ numbers os
numbers_tatweel true from to os = numbers_marked 4 from to os
numbers_tatweel false from to os = numbers_marked 3 from to os

pub numbers_strict : (asked : Bool) (from to : ℕ) (os : List Origin) → numbers (strictly_marked asked from to os) ≡ numbers os
numbers_strict true from to os = numbers_marked 3 from to os
numbers_strict false from to os = refl

-- ---- no number is new

same_brings : (old new : List ℕ) → new ≡ old → BringsNone old new
same_brings old new e = λ n h. subst (λ (ns : List ℕ). Has ns n) e h

pub merged_brings : (m : Manner) (from to : ℕ) (os : List Origin) → BringsNone (numbers os) (numbers (origins_merged_as m from to os))
merged_brings m from to os = λ n h. numbers_brought m from to (numbers os) n (subst (λ (ns : List ℕ). Has ns n) (numbers_merged_by m from to os) h)

picked_brings : (all : List ℕ) (order ns : List ℕ) (n : ℕ) → Has (picked_elements all order ns) n → Has all n ⊎ Has ns n
picked_brings all [] ns n h = inr h
picked_brings all (i ∷ order) [] n h = inr h
picked_brings all (i ∷ order) (m ∷ ns) n h = elim (has_cases (unwrap_or (slice_get all i) m) n (picked_elements all order ns) h) [
  | inl e ↦ by_get (slice_get all i) refl e
  | inr later ↦ elim (picked_brings all order ns n later) [ inl there ↦ inl there | inr old ↦ inr (has_more m n ns old) ]
]
  where
    has_at_index : (ks : List ℕ) (j k : ℕ) → slice_get ks j ≡ Some k → Has ks k
    has_at_index [] j k e = cc
    has_at_index (x ∷ xs) zero k e = let same : x ≡ k = cc in let P : ℕ → Type 0 = λ l. Has (x ∷ xs) l in subst P same (has_here x xs)
    has_at_index (x ∷ xs) (suc j) k e = has_more x k xs (has_at_index xs j k e)

    by_get : (o : Option ℕ) → slice_get all i ≡ o → unwrap_or o m ≡ n → Has all n ⊎ Has (m ∷ ns) n
    by_get None e is = let P : ℕ → Type 0 = λ l. Has (m ∷ ns) l in inr (subst P is (has_here m ns))
    by_get (Some k) e is = inl (subst (Has all) is (has_at_index all i k e))

arranged_brings : (from : ℕ) (order ns : List ℕ) → BringsNone ns (with_range_arranged from order ns)
arranged_brings from order ns n h = elim (has_either n (take from ns) (picked_elements (take (length order) (drop from ns)) order (drop from ns)) h) [
  | inl there ↦ has_take n from ns there
  | inr beyond ↦ elim (picked_brings (take (length order) (drop from ns)) order (drop from ns) n beyond) [
    | inl range ↦ has_drop n from ns (has_take n (length order) (drop from ns) range)
    | inr rest ↦ has_drop n from ns rest
  ]
]

first_brings : (level : BufferClusterLevel) (front rest : List Origin) → BringsNone (numbers (front ++ rest)) (numbers (first_deleted level front rest))
first_brings level front [] = λ n h. subst (λ (os : List Origin). Has (numbers os) n) (sym (append-nil front)) h
first_brings level front (o ∷ back) = λ n h.
    let there = deletion_brings_none level (numbers front) o.cluster (numbers back) n (subst (λ (ns : List ℕ). Has ns n) (numbers_deleted level front o back) h) in
    subst (λ (ns : List ℕ). Has ns n) (sym (map-append (λ (q : Origin). q.cluster) front (o ∷ back))) there

deleted_brings : (level : BufferClusterLevel) (at : ℕ) (os : List Origin) → BringsNone (numbers os) (numbers (origins_deleted level at os))
deleted_brings level at os = λ n h. subst (λ (qs : List Origin). Has (numbers qs) n) (take-append-drop at os) (first_brings level (take at os) (drop at os) n h)

pub spans_bring : (m : Manner) (at : ℕ) (ss : List Span) (os : List Origin) → BringsNone (numbers os) (numbers (spans_merged m at ss os))
spans_bring m at [] os = λ n h. h
spans_bring m at (s ∷ ss) os =
    let mid = origins_merged_as m (at + s.from) (at + s.to) os in
    numbers_through (numbers os) (numbers mid) _ (merged_brings m (at + s.from) (at + s.to) os) (spans_bring m at ss mid)

pub event_brings : (asks : Asks) (level : BufferClusterLevel) (os : List Origin) (e : Event) → BringsNone (numbers os) (numbers (origins_after_event asks level os e))
event_brings asks level os (Merge how from to) = merged_brings (manner how level) from to os
event_brings asks level os (MergeGrapheme from to) = merged_brings (grapheme_manner level) from to os
event_brings asks level os (Replace at taken given) =
    let mid = origins_merged_as (manner InList level) at (at + taken) os in
    numbers_through (numbers os) (numbers mid) _ (merged_brings (manner InList level) at (at + taken) os)
    (λ n h. drawn_brings (drawn_replaced at taken given (numbers mid)) n (subst (λ (ns : List ℕ). Has ns n) (numbers_handed_if asks.breaks (take taken (drop at mid)) (at + given) (elements_replaced at taken given mid) ∙ among_seen (λ (o : Origin). o.cluster) at taken given mid) h))
event_brings asks level os (Circle after beside like) = λ n h. drawn_brings (drawn_doubled beside (numbers os)) n (subst (λ (ns : List ℕ). Has ns n) (numbers_with_circle after beside like os) h)
event_brings asks level os (Delete at) = λ n h. deleted_brings level at os n (subst (λ (ns : List ℕ). Has ns n) (numbers_handed_if asks.breaks (take 1 (drop at os)) at (origins_deleted level at os)) h)
event_brings asks level os (Move how from order) =
    let mid = origins_merged_as (manner how level) from (from + length order) os in
    numbers_through (numbers os) (numbers mid) _ (merged_brings (manner how level) from (from + length order) os)
    (λ n h. arranged_brings from order (numbers mid) n (subst (λ (ns : List ℕ). Has ns n) (numbers_arranged from order mid) h))
event_brings asks level os (Arrange from order) = λ n h. arranged_brings from order (numbers os) n (subst (λ (ns : List ℕ). Has ns n) (numbers_arranged from order os) h)
event_brings asks level os (Sort from order) =
    let mid = spans_merged (manner InList level) from (spans order) os in
    numbers_through (numbers os) (numbers mid) _ (spans_bring (manner InList level) from (spans order) os)
    (λ n h. arranged_brings from order (numbers mid) n (subst (λ (ns : List ℕ). Has ns n) (numbers_arranged from order mid) h))
event_brings asks level os Reverse = λ n h. sym (has_reverse n (numbers os)) ∙ subst (λ (ns : List ℕ). Has ns n) (map-reverse (λ (o : Origin). o.cluster) os) h
event_brings asks level os (Break from to) = same_brings (numbers os) _ (numbers_marked 3 from to os)
event_brings asks level os (Concat from to) = same_brings (numbers os) _ (numbers_concat asks.concat from to os)
event_brings asks level os (Tatweel from to) = same_brings (numbers os) _ (numbers_tatweel asks.tatweel from to os)
event_brings asks level os (StrictBreak from to) = same_brings (numbers os) _ (numbers_strict asks.breaks from to os)
event_brings asks level os Spread = same_brings (numbers os) _ (numbers_spread asks None os)
event_brings asks level os Reset = same_brings (numbers os) _ (numbers_reset os)

pub origins_keep_numbers : (asks : Asks) (level : BufferClusterLevel) (es : List Event) (os : List Origin) → BringsNone (numbers os) (numbers (origins_after asks level es os))
origins_keep_numbers asks level [] os = λ n h. h
origins_keep_numbers asks level (e ∷ es) os = numbers_through (numbers os) (numbers (origins_after_event asks level os e)) _ (event_brings asks level os e) (origins_keep_numbers asks level es (origins_after_event asks level os e))

-- ---- in order, at a monotone level, events are those of the parts

none_left : {X : Type 0} (n : ℕ) (xs : List X) → n ≡ 0 → take n xs ≡ []
none_left n xs e = rw e refl

unites_joins : (from to : ℕ) (ns : List ℕ) → IsOrdered ns → merged_numbers (range_of from to ns) ns ≡ after_part_event ns (JoinParts from to)
unites_joins from to ns o = by_test (nat_le from to) refl
  where
    by_test : (t : Bool) → nat_le from to ≡ t → merged_numbers (range_of from to ns) ns ≡ after_part_event ns (JoinParts from to)
    by_test true e = merge_joins_ordered from to ns (grind (arith, nat_tests, e)) o
    by_test false e =
        let gap : to - from ≡ 0 = grind (arith, nat_tests, e) in
        let none : range_of from to ns ≡ [] = none_left (to - from) (drop from ns) gap in
        rw none (map-id ns)

merged_parts : (m : Manner) (from to : ℕ) (os : List Origin) → IsOrdered (numbers os) → numbers (origins_merged_as m from to os) ≡ after_part_events (joins_of m from to) (numbers os)
merged_parts Unites from to os o = numbers_merged (range_of from to (numbers os)) os ∙ unites_joins from to (numbers os) o
merged_parts Marks from to os o = numbers_marked 3 from to os
merged_parts Keeps from to os o = refl

replaced_parts : (level : BufferClusterLevel) (at taken given : ℕ) (os : List Origin) → IsMonotone level → IsOrdered (numbers os)
    → numbers (elements_replaced at taken given (origins_merged_as (manner InList level) at (at + taken) os)) ≡ after_part_event (numbers os) (ReplaceParts at taken given)
replaced_parts level at taken given os mono o =
    among_seen (λ (q : Origin). q.cluster) at taken given (origins_merged_as (manner InList level) at (at + taken) os)
    ∙ ap (numbers_replaced at taken given) (numbers_listed level at (at + taken) os ∙ merge_joins level at (at + taken) (numbers os) (omega arith) mono o)

deletion_parts : (level : BufferClusterLevel) (front : List ℕ) (n : ℕ) (back : List ℕ) → IsMonotone level → IsOrdered (front ++ n ∷ back) → number_deleted level front n back ≡ after_part_event (front ++ n ∷ back) (DeletePart (length front))
deletion_parts level front n back m o = elim o [ inl rises ↦ deletion_is_event level false front n back m rises | inr falls ↦ deletion_is_event level true front n back m falls ]

past_end : (at : ℕ) (ns : List ℕ) → drop at ns ≡ [] → take at ns ≡ after_part_event ns (DeletePart at)
past_end at ns e =
    let rest : drop (at + 1) ns ≡ [] = sym (drop-drop 1 at ns) ∙ ap (drop 1) e in
    rw (e, rest) (sym (append-nil (take at ns)))

length_of_front : {X : Type 0} (at : ℕ) (xs : List X) (y : X) (ys : List X) → drop at xs ≡ y ∷ ys → length (take at xs) ≡ at
length_of_front zero xs y ys e = refl
length_of_front (suc at) [] y ys e = cc
length_of_front (suc at) (x ∷ xs) y ys e = ap suc (length_of_front at xs y ys e)

first_parts : (level : BufferClusterLevel) (at : ℕ) (os rest : List Origin) → IsMonotone level → IsOrdered (numbers os) → drop at os ≡ rest → numbers (first_deleted level (take at os) rest) ≡ after_part_event (numbers os) (DeletePart at)
first_parts level at os [] mono o e =
    let n : Origin → ℕ = λ q. q.cluster in
    let none : drop at (numbers os) ≡ [] = drop-map n at os ∙ ap numbers e in
    sym (take-map n at os) ∙ past_end at (numbers os) none
first_parts level at os (q ∷ back) mono o e =
    let n : Origin → ℕ = λ p. p.cluster in
    let front = numbers (take at os) in
    let whole : front ++ q.cluster ∷ numbers back ≡ numbers os = sym (map-append n (take at os) (q ∷ back)) ∙ ap (λ rs. numbers (take at os ++ rs)) (sym e) ∙ ap numbers (take-append-drop at os) in
    let place : length front ≡ at = length-map (take at os) n ∙ length_of_front at os q back e in
    numbers_deleted level (take at os) q back ∙ deletion_parts level front q.cluster (numbers back) mono (subst IsOrdered (sym whole) o) ∙ ap (λ ns. after_part_event ns (DeletePart (length front))) whole ∙ ap (λ k. after_part_event (numbers os) (DeletePart k)) place

pub picked_alike : (low : ℕ) (all order ns : List ℕ) → ((k : ℕ) → Has all k → k ≡ low) → ((k : ℕ) → Has (take (length order) ns) k → k ≡ low) → picked_elements all order ns ≡ ns
picked_alike low all [] ns one near = refl
picked_alike low all (i ∷ order) [] one near = refl
picked_alike low all (i ∷ order) (m ∷ ns) one near =
    let here : m ≡ low = near m (has_here m (take (length order) ns)) in
    let rest = picked_alike low all order ns one (λ k h. near k (has_more m k (take (length order) ns) h)) in
    ap (λ x. x ∷ picked_elements all order ns) (got all i one here) ∙ ap (λ xs. m ∷ xs) rest
  where
    got : (ks : List ℕ) (j : ℕ) → ((k : ℕ) → Has ks k → k ≡ low) → m ≡ low → unwrap_or (slice_get ks j) m ≡ m
    got [] j alike is = refl
    got (k ∷ ks) zero alike is = alike k (has_here k ks) ∙ sym is
    got (k ∷ ks) (suc j) alike is = got ks j (λ l h. alike l (has_more k l ks h)) is

merged_alike : (range : List ℕ) (k : ℕ) → Has (map (merged_number range) range) k → k ≡ least_number range
merged_alike range k h = let source = has_map (merged_number range) k range h in sym source.2 ∙ merged_in range source.0 source.1

-- what one merge made one stays as it is in whatever order
moved_alike : (from : ℕ) (order ns : List ℕ) → with_range_arranged from order (merged_numbers (range_of from (from + length order) ns) ns) ≡ merged_numbers (range_of from (from + length order) ns) ns
moved_alike from order ns =
    let range = range_of from (from + length order) ns in
    let ms = merged_numbers range ns in
    let n : from + length order - from ≡ length order = omega arith in
    let near : take (length order) (drop from ms) ≡ map (merged_number range) range =
    ap (take (length order)) (drop-map (merged_number range) from ns) ∙ take-map (merged_number range) (length order) (drop from ns) ∙ ap (λ k. map (merged_number range) (take k (drop from ns))) (sym n) in
    let one : (k : ℕ) → Has (take (length order) (drop from ms)) k → k ≡ least_number range = λ k h. merged_alike range k (subst (λ (ks : List ℕ). Has ks k) near h) in
    ap (λ ks. take from ms ++ ks) (picked_alike (least_number range) (take (length order) (drop from ms)) order (drop from ms) one one) ∙ take-append-drop from ms

-- at a monotone level every merge of a range unites
pub moves_unite : (how : Merging) (level : BufferClusterLevel) → IsMonotone level → IsUniting (manner how level)
moves_unite InList level mono = mono
moves_unite InOutput MonotoneGraphemes mono = tt
moves_unite InOutput MonotoneCharacters mono = tt
moves_unite InOutput Characters mono = absurd mono
moves_unite InOutput Graphemes mono = absurd mono

moved_parts : (how : Merging) (level : BufferClusterLevel) (from : ℕ) (order : List ℕ) (os : List Origin) → IsMonotone level → IsOrdered (numbers os)
    → numbers (with_range_arranged from order (origins_merged_as (manner how level) from (from + length order) os)) ≡ after_part_events (joins_of (manner how level) from (from + length order)) (numbers os)
moved_parts how level from order os mono o =
    numbers_arranged from order (origins_merged_as (manner how level) from (from + length order) os) ∙ by_manner (manner how level) (moves_unite how level mono) ∙ merged_parts (manner how level) from (from + length order) os o
  where
    by_manner : (m : Manner) → IsUniting m → with_range_arranged from order (numbers (origins_merged_as m from (from + length order) os)) ≡ numbers (origins_merged_as m from (from + length order) os)
    by_manner Unites u = rw (numbers_merged (range_of from (from + length order) (numbers os)) os) (moved_alike from order (numbers os))
    by_manner Marks u = absurd u
    by_manner Keeps u = absurd u

numbers_spans : (at : ℕ) (ss : List Span) (os : List Origin) → numbers (spans_merged Unites at ss os) ≡ spans_united at ss (numbers os)
numbers_spans at [] os = refl
numbers_spans at (s ∷ ss) os = numbers_spans at ss (origins_merged_as Unites (at + s.from) (at + s.to) os) ∙ ap (spans_united at ss) (numbers_merged (range_of (at + s.from) (at + s.to) (numbers os)) os)

spans_parts : (at : ℕ) (ss : List Span) (ns : List ℕ) → IsOrdered ns → spans_united at ss ns ≡ after_part_events (span_joins Unites at ss) ns
spans_parts at [] ns o = refl
spans_parts at (s ∷ ss) ns o =
    let first : merged_numbers (range_of (at + s.from) (at + s.to) ns) ns ≡ after_part_event ns (JoinParts (at + s.from) (at + s.to)) = unites_joins (at + s.from) (at + s.to) ns o in
    let ordered = stays_ordered (JoinParts (at + s.from) (at + s.to) ∷ []) ns o in
    ap (spans_united at ss) first ∙ spans_parts at ss (after_part_event ns (JoinParts (at + s.from) (at + s.to))) ordered

sorted_parts : (level : BufferClusterLevel) (from : ℕ) (order : List ℕ) (os : List Origin) → IsMonotone level → StaysInSpans order → IsOrdered (numbers os)
    → numbers (with_range_arranged from order (spans_merged (manner InList level) from (spans order) os)) ≡ after_part_events (span_joins (manner InList level) from (spans order)) (numbers os)
sorted_parts level from order os mono s o = by_manner (manner InList level) mono
  where
    by_manner : (m : Manner) → IsUniting m → numbers (with_range_arranged from order (spans_merged m from (spans order) os)) ≡ after_part_events (span_joins m from (spans order)) (numbers os)
    by_manner Unites u =
        numbers_arranged from order (spans_merged Unites from (spans order) os) ∙ ap (with_range_arranged from order) (numbers_spans from (spans order) os) ∙ sorted_alike from order (numbers os) s ∙ spans_parts from (spans order) (numbers os) o
    by_manner Marks u = absurd u
    by_manner Keeps u = absurd u

event_parts : (asks : Asks) (level : BufferClusterLevel) (os : List Origin) (e : Event) (es : List Event) → IsMonotone level → IsPlain (e ∷ es) → IsOrdered (numbers os) → numbers (origins_after_event asks level os e) ≡ after_part_events (parts_of_event level e) (numbers os)
event_parts asks level os (Merge how from to) es mono plain o = merged_parts (manner how level) from to os o
event_parts asks level os (MergeGrapheme from to) es mono plain o = merged_parts (grapheme_manner level) from to os o
event_parts asks level os (Replace at taken given) es mono plain o =
    let mid = origins_merged_as (manner InList level) at (at + taken) os in
    numbers_handed_if asks.breaks (take taken (drop at mid)) (at + given) (elements_replaced at taken given mid) ∙ replaced_parts level at taken given os mono o
event_parts asks level os (Circle after beside like) es mono plain o = numbers_with_circle after beside like os
event_parts asks level os (Delete at) es mono plain o = numbers_handed_if asks.breaks (take 1 (drop at os)) at (origins_deleted level at os) ∙ first_parts level at os (drop at os) mono o refl
event_parts asks level os (Move how from order) es mono plain o = moved_parts how level from order os mono o
event_parts asks level os (Arrange from order) es mono plain o = absurd plain
event_parts asks level os (Sort from order) es mono plain o = sorted_parts level from order os mono plain.0 o
event_parts asks level os Reverse es mono plain o = map-reverse (λ (q : Origin). q.cluster) os
event_parts asks level os (Break from to) es mono plain o = numbers_marked 3 from to os
event_parts asks level os (Concat from to) es mono plain o = numbers_concat asks.concat from to os
event_parts asks level os (Tatweel from to) es mono plain o = numbers_tatweel asks.tatweel from to os
event_parts asks level os (StrictBreak from to) es mono plain o = numbers_strict asks.breaks from to os
event_parts asks level os Spread es mono plain o = numbers_spread asks None os
event_parts asks level os Reset es mono plain o = numbers_reset os

plain_rest : (e : Event) (es : List Event) → IsPlain (e ∷ es) → IsPlain es
plain_rest (Merge how from to) es p = p
plain_rest (MergeGrapheme from to) es p = p
plain_rest (Replace at taken given) es p = p
plain_rest (Circle after beside like) es p = p
plain_rest (Delete at) es p = p
plain_rest (Move how from order) es p = p
plain_rest (Arrange from order) es p = absurd p
plain_rest (Sort from order) es p = p.1
plain_rest Reverse es p = p
plain_rest (Break from to) es p = p
plain_rest (Concat from to) es p = p
plain_rest (Tatweel from to) es p = p
plain_rest (StrictBreak from to) es p = p
plain_rest Spread es p = p
plain_rest Reset es p = p

pub origins_are_parts : (asks : Asks) (level : BufferClusterLevel) (es : List Event) (os : List Origin) → IsMonotone level → IsPlain es → IsOrdered (numbers os)
    → numbers (origins_after asks level es os) ≡ after_part_events (parts_of level es) (numbers os)
origins_are_parts asks level [] os mono plain o = refl
origins_are_parts asks level (e ∷ es) os mono plain o =
    let mid = origins_after_event asks level os e in
    let first : numbers mid ≡ after_part_events (parts_of_event level e) (numbers os) = event_parts asks level os e es mono plain o in
    let ordered : IsOrdered (numbers mid) = subst IsOrdered (sym first) (stays_ordered (parts_of_event level e) (numbers os) o) in
    origins_are_parts asks level es mid mono (plain_rest e es plain) ordered ∙ ap (after_part_events (parts_of level es)) first ∙ sym (fold-append after_part_event (numbers os) (parts_of_event level e) (parts_of level es))

-- ---- flags that were spread

even_after : (asks : Asks) (p : Origin) (os : List Origin) → IsEven p (origins_spread_after asks (Some p) os)
even_after asks p [] = tt
even_after asks p (o ∷ os) = (
  λ e. same e,
  even_after asks (record { cluster = o.cluster; flags = spread_flags (Some p) o.cluster (settled_flags asks (run_flags o.cluster (o ∷ os))) }) os,
)
  where
    same : p.cluster ≡ o.cluster → p.flags ≡ spread_flags (Some p) o.cluster (settled_flags asks (run_flags o.cluster (o ∷ os)))
    same e = let yes : (p.cluster == o.cluster) ≡ true = grind (arith, common_steps, e) in rw yes refl

pub spread_is_even : (asks : Asks) (os : List Origin) → AreEvenRuns (origins_spread asks os)
spread_is_even asks [] = tt
spread_is_even asks (o ∷ os) = even_after asks (record { cluster = o.cluster; flags = settled_flags asks (run_flags o.cluster (o ∷ os)) }) os

no_concat : (m : ℕ) → bit_and (bit_and m 5) 2 ≡ 0
no_concat m = and_assoc 2 m 5 ∙ and_zero_r m

abbrev MayConcat : Option Origin → Type 0
MayConcat None = Unit {0}
MayConcat (Some p) = bit_and p.flags 2 ≡ 0

none_after : (tatweel breaks : Bool) (before : Option Origin) (os : List Origin) → MayConcat before → HaveNoConcat (origins_spread_after (record { concat = false; tatweel = tatweel; breaks = breaks }) before os)
none_after tatweel breaks before [] h = tt
none_after tatweel breaks before (o ∷ os) h =
    let flags = settled_flags (record { concat = false; tatweel = tatweel; breaks = breaks }) (run_flags o.cluster (o ∷ os)) in
    let here : bit_and (spread_flags before o.cluster flags) 2 ≡ 0 = by_before before h in
    (here, none_after tatweel breaks (Some (record { cluster = o.cluster; flags = spread_flags before o.cluster flags })) os here)
  where
    by_before : (b : Option Origin) → MayConcat b → bit_and (spread_flags b o.cluster (settled_flags (record { concat = false; tatweel = tatweel; breaks = breaks }) (run_flags o.cluster (o ∷ os)))) 2 ≡ 0
    by_before None k = no_concat (tatweel_settled tatweel (run_flags o.cluster (o ∷ os)))
    by_before (Some p) k = elim (p.cluster == o.cluster) as (λ t. bit_and (if t then p.flags else settled_flags (record { concat = false; tatweel = tatweel; breaks = breaks }) (run_flags o.cluster (o ∷ os))) 2 ≡ 0)
        [ true ↦ k | false ↦ no_concat (tatweel_settled tatweel (run_flags o.cluster (o ∷ os))) ]

pub spread_has_no_concat : (tatweel breaks : Bool) (os : List Origin) → HaveNoConcat (origins_spread (record { concat = false; tatweel = tatweel; breaks = breaks }) os)
spread_has_no_concat tatweel breaks os = none_after tatweel breaks None os tt
