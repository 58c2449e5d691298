-- Events within the first of two lists that have no cluster in common leave the second as it is.
use Rattle.std.proofs.Common.{ℕ, zero, suc, ◌≡◌, ◌≤◌, ◌<◌, ◌+◌, ◌-◌, ◌||◌, nat_lt, max, Bool, true, false, if◌then◌else◌, List, [], ◌∷◌, ◌++◌, Option, Some, None, length, map, take, drop, slice_get, arith, refl, ap, sym, subst, ◌∙◌, append_assoc}
use Rattle.std.specs.Prelude.{slice_range, unwrap_or}
use Rattle.std.proofs.lemmas.List.{map-append, length-append, length-drop, length-replicate, length-take, take-append-le, drop-append-le, drop-map}
use Rattle.buffer_glyphs.specs.declared.level.BufferClusterLevel.{BufferClusterLevel}
use Rattle.buffer_glyphs.specs.Levels.{grapheme_manner}
use Rattle.buffer_glyphs.specs.Parts.{range_of, first_of, last_of, is_number, or, copies, elements_replaced}
use Rattle.buffer_glyphs.specs.Merges.{least_number, merged_number}
use Rattle.buffer_glyphs.specs.Origins.{Origin, Asks, numbers, cast, origins_merged, flags_added, added_outside, with_range_changed, origins_marked, Manner, Unites, Marks, Keeps, InList, manner, origins_merged_as, end_cast, alone_deleted, one_deleted, first_deleted, origins_deleted, picked_elements, with_range_arranged, is_seam, Span, spans_from, spans, spans_merged, flags_at, first_circled, origins_circled, origins_handed_if}
use Rattle.buffer_glyphs.specs.Events.{Event, Merge, MergeGrapheme, Replace, Circle, Delete, Move, Arrange, Sort, Reverse, Break, Concat, Tatweel, StrictBreak, Spread, Reset, concat_marked, tatweel_marked, strictly_marked, origins_replaced, origins_after_event}
use Rattle.buffer_glyphs.specs.Lemmas.Numbers.{Has, MayHave, has_here, has_last, has_drop}
use Rattle.buffer_parts.specs.Lemmas.Counts.{counts_follow}
use Rattle.buffer_parts.specs.Breaks.Sides.{IsBounded}
use Rattle.buffer_parts.proofs.BreakLemmas.Merged.{length_spans}
use Rattle.buffer_parts.proofs.BreakLemmas.Apart.{Lacks, AreApart, unmerged, differs, handing_first, slice_first, range_first, taken_apart, last_there}
use Rattle.buffer_glyphs.specs.Lemmas.EventParts.{merged_brings}
use Rattle.buffer_stages.specs.Lemmas.Nested.{merged_length as length_merged}
use Rattle.buffer_glyphs.specs.Lemmas.Merges.{has_in_range as range_has}

-- ---- ranges

changed_first : (f : Origin → Origin) (from to : ℕ) (os qs : List Origin) → from ≤ length os → to ≤ length os → with_range_changed f from to (os ++ qs) ≡ with_range_changed f from to os ++ qs
changed_first f from to os qs l m =
    let most : max from to ≤ length os = omega (arith, l, m) in
    let new = take from os ++ map f (slice_range os from to) in
    ap (λ (xs : List Origin). xs ++ map f (slice_range (os ++ qs) from to) ++ drop (max from to) (os ++ qs)) (take-append-le from os qs l)
    ∙ ap (λ (xs : List Origin). take from os ++ map f xs ++ drop (max from to) (os ++ qs)) (slice_first from to os qs l m)
    ∙ ap (λ (xs : List Origin). new ++ xs) (drop-append-le (max from to) os qs most)
    ∙ sym (append_assoc new (drop (max from to) os) qs)

marked_first : (bits from to : ℕ) (os qs : List Origin) → from ≤ length os → to ≤ length os → origins_marked bits from to (os ++ qs) ≡ origins_marked bits from to os ++ qs
marked_first bits from to os qs l m =
    ap (λ (ns : List ℕ). with_range_changed (added_outside bits (least_number ns)) from to (os ++ qs)) (range_first from to os qs l m)
    ∙ changed_first (added_outside bits (least_number (range_of from to (numbers os)))) from to os qs l m

pub merged_first : (m : Manner) (from to : ℕ) (os qs : List Origin) → AreApart os qs → from ≤ length os → to ≤ length os → origins_merged_as m from to (os ++ qs) ≡ origins_merged_as m from to os ++ qs
merged_first Keeps from to os qs apart l k = refl
merged_first Marks from to os qs apart l k = marked_first 3 from to os qs l k
merged_first Unites from to os qs apart l k =
    let range = range_of from to (numbers os) in
    ap (λ (ns : List ℕ). origins_merged ns (os ++ qs)) (range_first from to os qs l k)
    ∙ map-append (λ (o : Origin). cast (merged_number range o.cluster) 0 o) os qs
    ∙ ap (λ (xs : List Origin). origins_merged range os ++ xs) (unmerged range qs (λ n h. apart n (range_has from to n (numbers os) h)))

-- ---- orders

picked_first : (all : List Origin) (order : List ℕ) (os qs : List Origin) → length order ≤ length os → picked_elements all order (os ++ qs) ≡ picked_elements all order os ++ qs
picked_first all [] os qs l = refl
picked_first all (i ∷ order) [] qs l = absurd (omega (arith, l))
picked_first all (i ∷ order) (o ∷ os) qs l = ap (λ (xs : List Origin). unwrap_or (slice_get all i) o ∷ xs) (picked_first all order os qs (omega (arith, l)))

arranged_first : (from : ℕ) (order : List ℕ) (os qs : List Origin) → from + length order ≤ length os → with_range_arranged from order (os ++ qs) ≡ with_range_arranged from order os ++ qs
arranged_first from order os qs l =
    let rest = drop from os in
    let long : length order ≤ length rest = let count = length-drop from os in omega (arith, count, l) in
    let all = take (length order) rest in
    ap (λ (xs : List Origin). xs ++ picked_elements (take (length order) (drop from (os ++ qs))) order (drop from (os ++ qs))) (take-append-le from os qs (omega (arith, l)))
    ∙ ap (λ (xs : List Origin). take from os ++ picked_elements (take (length order) xs) order xs) (drop-append-le from os qs (omega (arith, l)))
    ∙ ap (λ (xs : List Origin). take from os ++ picked_elements xs order (rest ++ qs)) (take-append-le (length order) rest qs long)
    ∙ ap (λ (xs : List Origin). take from os ++ xs) (picked_first all order rest qs long)
    ∙ sym (append_assoc (take from os) (picked_elements all order rest) qs)

-- spans end by an index
abbrev AllUpTo : List Span → ℕ → Type 0
AllUpTo [] n = Unit {0}
AllUpTo (s ∷ ss) n = (s.from ≤ n) × (s.to ≤ n) × AllUpTo ss n

spans_up_to : (order : List ℕ) (begin index left n : ℕ) → begin ≤ index → index + left ≤ n → AllUpTo (spans_from order begin index left) n
spans_up_to order begin index zero n le fits = tt
spans_up_to order begin index (suc left) n le fits =
    elim (is_seam order (index + 1)) as (λ t. AllUpTo (if t then record { from = begin; to = index + 1 } ∷ spans_from order (index + 1) (index + 1) left else spans_from order begin (index + 1) left) n)
    [ true ↦ (omega (arith, le, fits), omega (arith, fits), spans_up_to order (index + 1) (index + 1) left n (omega arith) (omega (arith, fits))) | false ↦ spans_up_to order begin (index + 1) left n (omega (arith, le)) (omega (arith, fits)) ]

spans_first : (m : Manner) (at : ℕ) (ss : List Span) (n : ℕ) (os qs : List Origin) → AllUpTo ss n → at + n ≤ length os → AreApart os qs → spans_merged m at ss (os ++ qs) ≡ spans_merged m at ss os ++ qs
spans_first m at [] n os qs up l apart = refl
spans_first m at (s ∷ ss) n os qs up l apart =
    let mid = origins_merged_as m (at + s.from) (at + s.to) os in
    let count = length_merged m (at + s.from) (at + s.to) os in
    ap (λ (xs : List Origin). spans_merged m at ss xs) (merged_first m (at + s.from) (at + s.to) os qs apart (omega (arith, up.0, l)) (omega (arith, up.1, l)))
    ∙ spans_first m at ss n mid qs up.2 (omega (arith, count, l)) (λ k h. apart k (merged_brings m (at + s.from) (at + s.to) os k h))

-- ---- replacements

some_first : (rest qs : List Origin) (a b : Option Origin) → 0 < length rest → or (first_of (rest ++ qs)) a ≡ or (first_of rest) b
some_first [] qs a b l = absurd (omega (arith, l))
some_first (o ∷ rest) qs a b l = refl

replaced_first : (at taken given : ℕ) (os qs : List Origin) → at < length os → at + taken ≤ length os → elements_replaced at taken given (os ++ qs) ≡ elements_replaced at taken given os ++ qs
replaced_first at taken given os qs l m =
    let some : 0 < length (drop at os) = let count = length-drop at os in omega (arith, count, l) in
    let model : or (first_of (drop at (os ++ qs))) (last_of (take at (os ++ qs))) ≡ or (first_of (drop at os)) (last_of (take at os)) =
    ap (λ (xs : List Origin). or (first_of xs) (last_of (take at (os ++ qs)))) (drop-append-le at os qs (omega (arith, l))) ∙ some_first (drop at os) qs (last_of (take at (os ++ qs))) (last_of (take at os)) some in
    let new = take at os ++ copies given (or (first_of (drop at os)) (last_of (take at os))) in
    ap (λ (xs : List Origin). xs ++ copies given (or (first_of (drop at (os ++ qs))) (last_of (take at (os ++ qs)))) ++ drop (at + taken) (os ++ qs)) (take-append-le at os qs (omega (arith, l)))
    ∙ ap (λ (x : Option Origin). take at os ++ copies given x ++ drop (at + taken) (os ++ qs)) model
    ∙ ap (λ (xs : List Origin). new ++ xs) (drop-append-le (at + taken) os qs m)
    ∙ sym (append_assoc new (drop (at + taken) os) qs)

some_copies : (given : ℕ) (rest : List Origin) (o : Option Origin) → 0 < length rest → length (copies given (or (first_of rest) o)) ≡ given
some_copies given [] o l = absurd (omega (arith, l))
some_copies given (x ∷ rest) o l = length-replicate given x

-- the end of the copies is in the list
replaced_seam : (at taken given : ℕ) (os : List Origin) → at < length os → at + given ≤ length (elements_replaced at taken given os)
replaced_seam at taken given os l =
    let model = or (first_of (drop at os)) (last_of (take at os)) in
    let count = length-drop at os in
    let first = length-take at os in
    let new = some_copies given (drop at os) (last_of (take at os)) (omega (arith, count, l)) in
    let near = length-append (take at os) (copies given model) in
    let all = length-append (take at os ++ copies given model) (drop (at + taken) os) in
    omega (arith, l, first, new, near, all)

replacing_first : (asked : Bool) (at taken given : ℕ) (os qs : List Origin) → AreApart os qs → at < length os → at + taken ≤ length os → origins_replaced asked at taken given (os ++ qs) ≡ origins_replaced asked at taken given os ++ qs
replacing_first asked at taken given os qs apart l m =
    let gone = take taken (drop at os) in
    let seam = at + given in
    let left : take taken (drop at (os ++ qs)) ≡ gone = ap (take taken) (drop-append-le at os qs (omega (arith, l))) ∙ take-append-le taken (drop at os) qs (let count = length-drop at os in omega (arith, count, m)) in
    ap (λ (xs : List Origin). origins_handed_if asked xs seam (elements_replaced at taken given (os ++ qs))) left
    ∙ ap (λ (xs : List Origin). origins_handed_if asked gone seam xs) (replaced_first at taken given os qs l m)
    ∙ handing_first asked gone seam (elements_replaced at taken given os) qs (taken_apart taken at os qs apart) (replaced_seam at taken given os l)

-- ---- deletions

other_first : (n : ℕ) (back qs : List Origin) → Lacks n qs → is_number (first_of (numbers (back ++ qs))) n ≡ is_number (first_of (numbers back)) n
other_first n (o ∷ back) qs none = refl
other_first n [] [] none = refl
other_first n [] (q ∷ qs) none = differs q.cluster n (λ e. none (subst (λ k. Has (q.cluster ∷ numbers qs) k) e (has_here q.cluster (numbers qs))))

-- a glyph has a neighbour among those of its list
abbrev pub HasNeighbour : List Origin → List Origin → Type 0
HasNeighbour [] [] = ⊥
HasNeighbour [] (o ∷ back) = Unit {0}
HasNeighbour (o ∷ front) back = Unit {0}

deleted_alone_first : (level : BufferClusterLevel) (front : List Origin) (x : Origin) (back qs : List Origin) → HasNeighbour front back → AreApart (x ∷ back) qs
    → alone_deleted level (last_of (numbers front)) front x (back ++ qs) ≡ alone_deleted level (last_of (numbers front)) front x back ++ qs
deleted_alone_first level [] x [] qs some apart = absurd some
deleted_alone_first level [] x (b ∷ back) qs some apart =
    let m = manner InList level in
    let all : List Origin = x ∷ (b ∷ back) in
    let mid = origins_merged_as m 0 2 all in
    let count = length_merged m 0 2 all in
    ap (drop 1) (merged_first m 0 2 all qs apart (omega arith) (omega arith)) ∙ drop-append-le 1 mid qs (omega (arith, count))
deleted_alone_first level (f ∷ front) x back qs some apart = by_last (last_of (numbers (f ∷ front))) (has_last (f.cluster ∷ numbers front)) (λ e. last_there f.cluster (numbers front) e)
  where
    by_last : (p : Option ℕ) → MayHave (f.cluster ∷ numbers front) p → (p ≡ None → ⊥) → alone_deleted level p (f ∷ front) x (back ++ qs) ≡ alone_deleted level p (f ∷ front) x back ++ qs
    by_last None h there = absurd (there refl)
    by_last (Some p) h there = sym (append_assoc (if nat_lt x.cluster p then end_cast p x (f ∷ front) else f ∷ front) back qs)

one_first : (level : BufferClusterLevel) (front : List Origin) (x : Origin) (back qs : List Origin) → HasNeighbour front back → AreApart (x ∷ back) qs → one_deleted level front x (back ++ qs) ≡ one_deleted level front x back ++ qs
one_first level front x back qs some apart =
    ap (λ (b : Bool). if is_number (last_of (numbers front)) x.cluster || b then front ++ (back ++ qs) else alone_deleted level (last_of (numbers front)) front x (back ++ qs)) (other_first x.cluster back qs (apart x.cluster (has_here x.cluster (numbers back))))
    ∙ by_test (is_number (last_of (numbers front)) x.cluster || is_number (first_of (numbers back)) x.cluster) (deleted_alone_first level front x back qs some apart)
  where
    by_test : (t : Bool) → alone_deleted level (last_of (numbers front)) front x (back ++ qs) ≡ alone_deleted level (last_of (numbers front)) front x back ++ qs
        → (if t then front ++ (back ++ qs) else alone_deleted level (last_of (numbers front)) front x (back ++ qs)) ≡ (if t then front ++ back else alone_deleted level (last_of (numbers front)) front x back) ++ qs
    by_test true e = sym (append_assoc front back qs)
    by_test false e = e

-- as the first of some is deleted
abbrev pub DeletesBeside : List Origin → List Origin → Type 0
DeletesBeside front [] = ⊥
DeletesBeside front (x ∷ back) = HasNeighbour front back

first_first : (level : BufferClusterLevel) (front rest qs : List Origin) → DeletesBeside front rest → AreApart rest qs → first_deleted level front (rest ++ qs) ≡ first_deleted level front rest ++ qs
first_first level front [] qs some apart = absurd some
first_first level front (x ∷ back) qs some apart = one_first level front x back qs some apart

-- the index of a deleted glyph is in the list that is left, or at its end
deleted_seam : (level : BufferClusterLevel) (at : ℕ) (os : List Origin) → at < length os → at ≤ length (origins_deleted level at os)
deleted_seam level at os l = by_test (nat_lt at (length os)) (counts_follow (record { concat = false; tatweel = false; breaks = false }) level (Delete at ∷ []) os)
  where
    by_test : (t : Bool) → length (origins_deleted level at os) ≡ (if t then length os - 1 else length os) → at ≤ length (origins_deleted level at os)
    by_test true count = omega (arith, count, l)
    by_test false count = omega (arith, count, l)

pub deleting_first : (asked : Bool) (level : BufferClusterLevel) (at : ℕ) (os qs : List Origin) → AreApart os qs → at < length os → DeletesBeside (take at os) (drop at os)
    → origins_handed_if asked (take 1 (drop at (os ++ qs))) at (origins_deleted level at (os ++ qs)) ≡ origins_handed_if asked (take 1 (drop at os)) at (origins_deleted level at os) ++ qs
deleting_first asked level at os qs apart l some =
    let rest = drop at os in
    let count = length-drop at os in
    let cut : drop at (os ++ qs) ≡ rest ++ qs = drop-append-le at os qs (omega (arith, l)) in
    let rest_apart : AreApart rest qs = λ n h. apart n (has_drop n at (numbers os) (subst (λ (ns : List ℕ). Has ns n) (sym (drop-map (λ (o : Origin). o.cluster) at os)) h)) in
    ap (λ (xs : List Origin). origins_handed_if asked (take 1 xs) at (origins_deleted level at (os ++ qs))) cut
    ∙ ap (λ (xs : List Origin). origins_handed_if asked xs at (origins_deleted level at (os ++ qs))) (take-append-le 1 rest qs (omega (arith, count, l)))
    ∙ ap (λ (xs : List Origin). origins_handed_if asked (take 1 rest) at (first_deleted level xs (drop at (os ++ qs)))) (take-append-le at os qs (omega (arith, l)))
    ∙ ap (λ (xs : List Origin). origins_handed_if asked (take 1 rest) at (first_deleted level (take at os) xs)) cut
    ∙ ap (λ (xs : List Origin). origins_handed_if asked (take 1 rest) at xs) (first_first level (take at os) rest qs some rest_apart)
    ∙ handing_first asked (take 1 rest) at (origins_deleted level at os) qs (taken_apart 1 at os qs apart) (deleted_seam level at os l)

-- ---- circles

flags_first : (like : ℕ) (os qs : List Origin) → like < length os → flags_at like (os ++ qs) ≡ flags_at like os
flags_first like [] qs l = absurd (omega (arith, l))
flags_first zero (o ∷ os) qs l = refl
flags_first (suc like) (o ∷ os) qs l = flags_first like os qs (omega (arith, l))

circled_first : (after : Bool) (flags : ℕ) (os qs : List Origin) → 0 < length os → first_circled after flags (os ++ qs) ≡ first_circled after flags os ++ qs
circled_first after flags [] qs l = absurd (omega (arith, l))
circled_first true flags (o ∷ os) qs l = refl
circled_first false flags (o ∷ os) qs l = refl

circle_first : (after : Bool) (beside like : ℕ) (os qs : List Origin) → beside < length os → like < length os → origins_circled after beside like (os ++ qs) ≡ origins_circled after beside like os ++ qs
circle_first after beside like os qs l m =
    let rest = drop beside os in
    let flags = flags_at like os in
    ap (λ (xs : List Origin). xs ++ first_circled after (flags_at like (os ++ qs)) (drop beside (os ++ qs))) (take-append-le beside os qs (omega (arith, l)))
    ∙ ap (λ (n : ℕ). take beside os ++ first_circled after n (drop beside (os ++ qs))) (flags_first like os qs m)
    ∙ ap (λ (xs : List Origin). take beside os ++ first_circled after flags xs) (drop-append-le beside os qs (omega (arith, l)))
    ∙ ap (λ (xs : List Origin). take beside os ++ xs) (circled_first after flags rest qs (let count = length-drop beside os in omega (arith, count, l)))
    ∙ sym (append_assoc (take beside os) (first_circled after flags rest) qs)

-- ---- events

-- an event that deletes leaves a neighbour of the deleted glyph
abbrev pub LeavesNeighbour : Event → List Origin → Type 0
LeavesNeighbour (Delete at) os = DeletesBeside (take at os) (drop at os)
LeavesNeighbour (Merge how from to) os = Unit {0}
LeavesNeighbour (MergeGrapheme from to) os = Unit {0}
LeavesNeighbour (Replace at taken given) os = Unit {0}
LeavesNeighbour (Circle after beside like) os = Unit {0}
LeavesNeighbour (Move how from order) os = Unit {0}
LeavesNeighbour (Arrange from order) os = Unit {0}
LeavesNeighbour (Sort from order) os = Unit {0}
LeavesNeighbour Reverse os = Unit {0}
LeavesNeighbour (Break from to) os = Unit {0}
LeavesNeighbour (Concat from to) os = Unit {0}
LeavesNeighbour (Tatweel from to) os = Unit {0}
LeavesNeighbour (StrictBreak from to) os = Unit {0}
LeavesNeighbour Spread os = Unit {0}
LeavesNeighbour Reset os = Unit {0}

concat_first : (asked : Bool) (from to : ℕ) (os qs : List Origin) → from ≤ length os → to ≤ length os → concat_marked asked from to (os ++ qs) ≡ concat_marked asked from to os ++ qs
concat_first true from to os qs l m = changed_first (flags_added 2) from to os qs l m
concat_first false from to os qs l m = refl

tatweel_first : (asked : Bool) (from to : ℕ) (os qs : List Origin) → from ≤ length os → to ≤ length os → tatweel_marked asked from to (os ++ qs) ≡ tatweel_marked asked from to os ++ qs
tatweel_first true from to os qs l m = marked_first 4 from to os qs l m
tatweel_first false from to os qs l m = marked_first 3 from to os qs l m

strictly_first : (asked : Bool) (from to : ℕ) (os qs : List Origin) → from ≤ length os → to ≤ length os → strictly_marked asked from to (os ++ qs) ≡ strictly_marked asked from to os ++ qs
strictly_first true from to os qs l m = marked_first 3 from to os qs l m
strictly_first false from to os qs l m = refl

pub event_first : (asks : Asks) (level : BufferClusterLevel) (e : Event) (os qs : List Origin) → AreApart os qs → IsBounded e (length os) → LeavesNeighbour e os → origins_after_event asks level (os ++ qs) e ≡ origins_after_event asks level os e ++ qs
event_first asks level (Merge how from to) os qs apart w n = merged_first (manner how level) from to os qs apart w.0 w.1
event_first asks level (MergeGrapheme from to) os qs apart w n = merged_first (grapheme_manner level) from to os qs apart w.0 w.1
event_first asks level (Replace at taken given) os qs apart w n =
    let m = manner InList level in
    let mid = origins_merged_as m at (at + taken) os in
    let count = length_merged m at (at + taken) os in
    ap (λ (xs : List Origin). origins_replaced asks.breaks at taken given xs) (merged_first m at (at + taken) os qs apart (omega (arith, w.0)) w.1)
    ∙ replacing_first asks.breaks at taken given mid qs (λ k h. apart k (merged_brings m at (at + taken) os k h)) (omega (arith, count, w.0)) (omega (arith, count, w.1))
event_first asks level (Circle after beside like) os qs apart w n = circle_first after beside like os qs w.0 w.1
event_first asks level (Delete at) os qs apart w n = deleting_first asks.breaks level at os qs apart w n
event_first asks level (Move how from order) os qs apart w n =
    let m = manner how level in
    let mid = origins_merged_as m from (from + length order) os in
    let count = length_merged m from (from + length order) os in
    ap (λ (xs : List Origin). with_range_arranged from order xs) (merged_first m from (from + length order) os qs apart (omega (arith, w)) w) ∙ arranged_first from order mid qs (omega (arith, count, w))
event_first asks level (Arrange from order) os qs apart w n = arranged_first from order os qs w
event_first asks level (Sort from order) os qs apart w n =
    let m = manner InList level in
    let mid = spans_merged m from (spans order) os in
    let count = length_spans m from (spans order) os in
    ap (λ (xs : List Origin). with_range_arranged from order xs) (spans_first m from (spans order) (length order) os qs (spans_up_to order 0 0 (length order) (length order) (omega arith) (omega arith)) w apart) ∙ arranged_first from order mid qs (omega (arith, count, w))
event_first asks level Reverse os qs apart w n = absurd w
event_first asks level (Break from to) os qs apart w n = marked_first 3 from to os qs w.0 w.1
event_first asks level (Concat from to) os qs apart w n = concat_first asks.concat from to os qs w.0 w.1
event_first asks level (Tatweel from to) os qs apart w n = tatweel_first asks.tatweel from to os qs w.0 w.1
event_first asks level (StrictBreak from to) os qs apart w n = strictly_first asks.breaks from to os qs w.0 w.1
event_first asks level Spread os qs apart w n = absurd w
event_first asks level Reset os qs apart w n = absurd w
