-- Events within the second of two lists that have no cluster in common leave the first as it is.
use Rattle.std.proofs.Common.{ℕ, suc, ◌≡◌, ◌<◌, ◌+◌, ◌==◌, ◌&&◌, ◌||◌, nat_lt, max, Bool, true, false, if◌then◌else◌, List, [], ◌∷◌, ◌++◌, Option, Some, None, length, map, take, drop, arith, refl, ap, sym, subst, ◌∙◌, append_assoc}
use Rattle.std.specs.Prelude.{slice_range}
use Rattle.std.specs.List.{list_all}
use Rattle.std.proofs.lemmas.List.{map-append, length-drop, take-append-drop}
use Rattle.std.proofs.Math.Seq.{take-append-add, drop-append-add}
use Rattle.buffer_glyphs.specs.declared.level.BufferClusterLevel.{BufferClusterLevel}
use Rattle.buffer_glyphs.specs.Levels.{grapheme_manner}
use Rattle.buffer_glyphs.specs.Parts.{range_of, first_of, last_of, is_number, or, copies, elements_replaced}
use Rattle.buffer_glyphs.specs.Merges.{least_number, merged_number}
use Rattle.buffer_glyphs.specs.Origins.{Origin, Asks, numbers, cast, origins_merged, flags_added, added_outside, with_range_changed, origins_marked, Manner, Unites, Marks, Keeps, InList, manner, origins_merged_as, end_cast, alone_deleted, one_deleted, first_deleted, origins_deleted, picked_elements, with_range_arranged, Span, spans, spans_merged, flags_at, first_circled, origins_circled, origins_handed_if}
use Rattle.buffer_glyphs.specs.Events.{Event, Merge, MergeGrapheme, Replace, Circle, Delete, Move, Arrange, Sort, Reverse, Break, Concat, Tatweel, StrictBreak, Spread, Reset, concat_marked, tatweel_marked, strictly_marked, origins_replaced, origins_after_event}
use Rattle.buffer_glyphs.specs.Rewriting.{shifted_event}
use Rattle.buffer_glyphs.specs.Lemmas.Numbers.{Has, has_here, has_more}
use Rattle.buffer_glyphs.specs.Lemmas.Glyphs.{slice_beyond}
use Rattle.buffer_parts.specs.Breaks.Sides.{IsBounded}
use Rattle.buffer_parts.proofs.BreakLemmas.Apart.{Lacks, AreApart, unmerged, differs, handing_last, last_there, same_last, taken_apart, MayLack, may_lack}
use Rattle.buffer_glyphs.specs.Lemmas.EventParts.{merged_brings}
use Rattle.buffer_stages.specs.Lemmas.Nested.{merged_length as length_merged, numbers_both}
use Rattle.buffer_parts.specs.Lemmas.Counts.{counted_numbers as count_numbers}
use Rattle.buffer_glyphs.specs.Lemmas.Merges.{has_in_range as range_has}
use Rattle.buffer_facts.proofs.Truth.{or_true}

-- ---- ranges

range_last : (from to : ℕ) (os qs : List Origin) → range_of (length os + from) (length os + to) (numbers (os ++ qs)) ≡ range_of from to (numbers qs)
range_last from to os qs =
    let count : length os ≡ length (numbers os) = sym (count_numbers os) in
    ap (range_of (length os + from) (length os + to)) (numbers_both os qs)
    ∙ ap (λ n. range_of (n + from) (n + to) (numbers os ++ numbers qs)) count
    ∙ slice_beyond (numbers os) (numbers qs) from to

most_last : (n i j : ℕ) → max (n + i) (n + j) ≡ n + max i j
most_last n i j = omega arith

changed_last : (f : Origin → Origin) (from to : ℕ) (os qs : List Origin) → with_range_changed f (length os + from) (length os + to) (os ++ qs) ≡ os ++ with_range_changed f from to qs
changed_last f from to os qs =
    let range = map f (slice_range qs from to) in
    let rest = drop (max from to) qs in
    ap (λ (xs : List Origin). xs ++ map f (slice_range (os ++ qs) (length os + from) (length os + to)) ++ drop (max (length os + from) (length os + to)) (os ++ qs)) (take-append-add os qs from)
    ∙ ap (λ (xs : List Origin). (os ++ take from qs) ++ map f xs ++ drop (max (length os + from) (length os + to)) (os ++ qs)) (slice_beyond os qs from to)
    ∙ ap (λ (n : ℕ). (os ++ take from qs) ++ range ++ drop n (os ++ qs)) (most_last (length os) from to)
    ∙ ap (λ (xs : List Origin). (os ++ take from qs) ++ range ++ xs) (drop-append-add os qs (max from to))
    ∙ ap (λ (xs : List Origin). xs ++ rest) (append_assoc os (take from qs) range)
    ∙ append_assoc os (take from qs ++ range) rest

marked_last : (bits from to : ℕ) (os qs : List Origin) → origins_marked bits (length os + from) (length os + to) (os ++ qs) ≡ os ++ origins_marked bits from to qs
marked_last bits from to os qs =
    ap (λ (ns : List ℕ). with_range_changed (added_outside bits (least_number ns)) (length os + from) (length os + to) (os ++ qs)) (range_last from to os qs)
    ∙ changed_last (added_outside bits (least_number (range_of from to (numbers qs)))) from to os qs

pub merged_last : (m : Manner) (from to : ℕ) (os qs : List Origin) → AreApart os qs → origins_merged_as m (length os + from) (length os + to) (os ++ qs) ≡ os ++ origins_merged_as m from to qs
merged_last Keeps from to os qs apart = refl
merged_last Marks from to os qs apart = marked_last 3 from to os qs
merged_last Unites from to os qs apart =
    let range = range_of from to (numbers qs) in
    ap (λ (ns : List ℕ). origins_merged ns (os ++ qs)) (range_last from to os qs)
    ∙ map-append (λ (o : Origin). cast (merged_number range o.cluster) 0 o) os qs
    ∙ ap (λ (xs : List Origin). xs ++ origins_merged range qs) (unmerged range os (λ n h k. apart n k (range_has from to n (numbers qs) h)))

sum_moved : (n at i : ℕ) → n + at + i ≡ n + (at + i)
sum_moved n at i = omega arith

-- a merge whose indices count from an index of the second list
merged_from : (m : Manner) (at i j : ℕ) (os qs : List Origin) → AreApart os qs → origins_merged_as m (length os + at + i) (length os + at + j) (os ++ qs) ≡ os ++ origins_merged_as m (at + i) (at + j) qs
merged_from m at i j os qs apart =
    ap (λ (n : ℕ). origins_merged_as m n (length os + at + j) (os ++ qs)) (sum_moved (length os) at i)
    ∙ ap (λ (n : ℕ). origins_merged_as m (length os + (at + i)) n (os ++ qs)) (sum_moved (length os) at j)
    ∙ merged_last m (at + i) (at + j) os qs apart

-- ---- orders

arranged_last : (from : ℕ) (order : List ℕ) (os qs : List Origin) → with_range_arranged (length os + from) order (os ++ qs) ≡ os ++ with_range_arranged from order qs
arranged_last from order os qs =
    ap (λ (xs : List Origin). xs ++ picked_elements (take (length order) (drop (length os + from) (os ++ qs))) order (drop (length os + from) (os ++ qs))) (take-append-add os qs from)
    ∙ ap (λ (xs : List Origin). (os ++ take from qs) ++ picked_elements (take (length order) xs) order xs) (drop-append-add os qs from)
    ∙ append_assoc os (take from qs) (picked_elements (take (length order) (drop from qs)) order (drop from qs))

spans_last : (m : Manner) (at : ℕ) (ss : List Span) (os qs : List Origin) → AreApart os qs → spans_merged m (length os + at) ss (os ++ qs) ≡ os ++ spans_merged m at ss qs
spans_last m at [] os qs apart = refl
spans_last m at (s ∷ ss) os qs apart =
    let mid = origins_merged_as m (at + s.from) (at + s.to) qs in
    ap (λ (xs : List Origin). spans_merged m (length os + at) ss xs) (merged_from m at s.from s.to os qs apart)
    ∙ spans_last m at ss os mid (λ k h g. apart k h (merged_brings m (at + s.from) (at + s.to) qs k g))

-- ---- replacements

some_alike : (rest : List Origin) (a b : Option Origin) → 0 < length rest → or (first_of rest) a ≡ or (first_of rest) b
some_alike [] a b l = absurd (omega (arith, l))
some_alike (o ∷ rest) a b l = refl

replaced_last : (at taken given : ℕ) (os qs : List Origin) → at < length qs → elements_replaced (length os + at) taken given (os ++ qs) ≡ os ++ elements_replaced at taken given qs
replaced_last at taken given os qs l =
    let some : 0 < length (drop at qs) = let count = length-drop at qs in omega (arith, count, l) in
    let model = or (first_of (drop at qs)) (last_of (take at qs)) in
    let same : or (first_of (drop (length os + at) (os ++ qs))) (last_of (take (length os + at) (os ++ qs))) ≡ model =
    ap (λ (xs : List Origin). or (first_of xs) (last_of (take (length os + at) (os ++ qs)))) (drop-append-add os qs at) ∙ some_alike (drop at qs) (last_of (take (length os + at) (os ++ qs))) (last_of (take at qs)) some in
    ap (λ (xs : List Origin). xs ++ copies given (or (first_of (drop (length os + at) (os ++ qs))) (last_of (take (length os + at) (os ++ qs)))) ++ drop (length os + at + taken) (os ++ qs)) (take-append-add os qs at)
    ∙ ap (λ (x : Option Origin). (os ++ take at qs) ++ copies given x ++ drop (length os + at + taken) (os ++ qs)) same
    ∙ ap (λ (n : ℕ). (os ++ take at qs) ++ copies given model ++ drop n (os ++ qs)) (sum_moved (length os) at taken)
    ∙ ap (λ (xs : List Origin). (os ++ take at qs) ++ copies given model ++ xs) (drop-append-add os qs (at + taken))
    ∙ ap (λ (xs : List Origin). xs ++ drop (at + taken) qs) (append_assoc os (take at qs) (copies given model))
    ∙ append_assoc os (take at qs ++ copies given model) (drop (at + taken) qs)

turned_apart : (os qs : List Origin) → AreApart os qs → AreApart qs os
turned_apart os qs apart = λ n h k. apart n k h

replacing_last : (asked : Bool) (at taken given : ℕ) (os qs : List Origin) → AreApart os qs → at < length qs → origins_replaced asked (length os + at) taken given (os ++ qs) ≡ os ++ origins_replaced asked at taken given qs
replacing_last asked at taken given os qs apart l =
    let gone = take taken (drop at qs) in
    ap (λ (xs : List Origin). origins_handed_if asked (take taken xs) (length os + at + given) (elements_replaced (length os + at) taken given (os ++ qs))) (drop-append-add os qs at)
    ∙ ap (λ (n : ℕ). origins_handed_if asked gone n (elements_replaced (length os + at) taken given (os ++ qs))) (sum_moved (length os) at given)
    ∙ ap (λ (xs : List Origin). origins_handed_if asked gone (length os + (at + given)) xs) (replaced_last at taken given os qs l)
    ∙ handing_last asked gone (at + given) os (elements_replaced at taken given qs) (taken_apart taken at qs os (turned_apart os qs apart))

-- ---- deletions

end_last : (p : ℕ) (x : Origin) (os qs : List Origin) → Lacks p os → end_cast p x (os ++ qs) ≡ os ++ end_cast p x qs
end_last p x [] qs none = refl
end_last p x (o ∷ os) qs none =
    let other : (o.cluster == p) ≡ false = differs o.cluster p (λ e. none (subst (λ k. Has (o.cluster ∷ numbers os) k) e (has_here o.cluster (numbers os)))) in
    ap (λ (b : Bool). if b && list_all (λ (k : Origin). k.cluster == p) (os ++ qs) then map (cast x.cluster x.flags) (o ∷ (os ++ qs)) else o ∷ end_cast p x (os ++ qs)) other
    ∙ ap (λ (xs : List Origin). o ∷ xs) (end_last p x os qs (λ h. none (has_more o.cluster p (numbers os) h)))

-- the glyph before a deleted one is of its list, or there is none, or the next one is of its cluster
abbrev pub IsCovered : List Origin → List Origin → Origin → List Origin → Type 0
IsCovered [] front x back = Unit {0}
IsCovered (o ∷ os) (f ∷ front) x back = Unit {0}
IsCovered (o ∷ os) [] x back = is_number (first_of (numbers back)) x.cluster ≡ true

alone_last : (level : BufferClusterLevel) (p : Option ℕ) (os : List Origin) (f : Origin) (front : List Origin) (x : Origin) (back : List Origin) → (p ≡ None → ⊥) → MayLack p os
    → alone_deleted level p (os ++ f ∷ front) x back ≡ os ++ alone_deleted level p (f ∷ front) x back
alone_last level None os f front x back there none = absurd (there refl)
alone_last level (Some p) os f front x back there none =
    by_test (nat_lt x.cluster p)
    ∙ append_assoc os (if nat_lt x.cluster p then end_cast p x (f ∷ front) else f ∷ front) back
  where
    by_test : (t : Bool) → (if t then end_cast p x (os ++ f ∷ front) else os ++ f ∷ front) ++ back ≡ (os ++ (if t then end_cast p x (f ∷ front) else f ∷ front)) ++ back
    by_test true = ap (λ (xs : List Origin). xs ++ back) (end_last p x os (f ∷ front) none)
    by_test false = refl

one_last : (level : BufferClusterLevel) (os front : List Origin) (x : Origin) (back : List Origin) → AreApart os (front ++ x ∷ back) → IsCovered os front x back → one_deleted level (os ++ front) x back ≡ os ++ one_deleted level front x back
one_last level [] front x back apart some = refl
one_last level (o ∷ os) [] x back apart some =
    let whole : one_deleted level ((o ∷ os) ++ []) x back ≡ ((o ∷ os) ++ []) ++ back =
    ap (λ (b : Bool). if is_number (last_of (numbers ((o ∷ os) ++ []))) x.cluster || b then ((o ∷ os) ++ []) ++ back else alone_deleted level (last_of (numbers ((o ∷ os) ++ []))) ((o ∷ os) ++ []) x back) some
    ∙ ap (λ (b : Bool). if b then ((o ∷ os) ++ []) ++ back else alone_deleted level (last_of (numbers ((o ∷ os) ++ []))) ((o ∷ os) ++ []) x back) (or_true (is_number (last_of (numbers ((o ∷ os) ++ []))) x.cluster)) in
    let alone : one_deleted level [] x back ≡ back = ap (λ (b : Bool). if b then [] ++ back else alone_deleted level None [] x back) some in
    whole ∙ append_assoc (o ∷ os) [] back ∙ ap (λ (xs : List Origin). (o ∷ os) ++ xs) (sym alone)
one_last level (o ∷ os) (f ∷ front) x back apart some =
    let all : List Origin = o ∷ os in
    let p = last_of (numbers (f ∷ front)) in
    ap (λ (q : Option ℕ). if is_number q x.cluster || is_number (first_of (numbers back)) x.cluster then (all ++ f ∷ front) ++ back else alone_deleted level q (all ++ f ∷ front) x back) (same_last all f front)
    ∙ by_test (is_number p x.cluster || is_number (first_of (numbers back)) x.cluster) (alone_last level p all f front x back (λ e. last_there f.cluster (numbers front) e) (may_lack all (f ∷ front) (x ∷ back) apart))
  where
    by_test : (t : Bool) → alone_deleted level (last_of (numbers (f ∷ front))) ((o ∷ os) ++ f ∷ front) x back ≡ (o ∷ os) ++ alone_deleted level (last_of (numbers (f ∷ front))) (f ∷ front) x back
        → (if t then ((o ∷ os) ++ f ∷ front) ++ back else alone_deleted level (last_of (numbers (f ∷ front))) ((o ∷ os) ++ f ∷ front) x back)
        ≡ (o ∷ os) ++ (if t then (f ∷ front) ++ back else alone_deleted level (last_of (numbers (f ∷ front))) (f ∷ front) x back)
    by_test true e = append_assoc (o ∷ os) (f ∷ front) back
    by_test false e = e

abbrev pub CoversFirst : List Origin → List Origin → List Origin → Type 0
CoversFirst os front [] = Unit {0}
CoversFirst os front (x ∷ back) = IsCovered os front x back

first_last : (level : BufferClusterLevel) (os front rest : List Origin) → AreApart os (front ++ rest) → CoversFirst os front rest → first_deleted level (os ++ front) rest ≡ os ++ first_deleted level front rest
first_last level os front [] apart some = refl
first_last level os front (x ∷ back) apart some = one_last level os front x back apart some

pub deleting_last : (asked : Bool) (level : BufferClusterLevel) (at : ℕ) (os qs : List Origin) → AreApart os qs → CoversFirst os (take at qs) (drop at qs)
    → origins_handed_if asked (take 1 (drop (length os + at) (os ++ qs))) (length os + at) (origins_deleted level (length os + at) (os ++ qs)) ≡ os ++ origins_handed_if asked (take 1 (drop at qs)) at (origins_deleted level at qs)
deleting_last asked level at os qs apart some =
    let rest = drop at qs in
    let whole_apart : AreApart os (take at qs ++ rest) = subst (AreApart os) (sym (take-append-drop at qs)) apart in
    ap (λ (xs : List Origin). origins_handed_if asked (take 1 xs) (length os + at) (first_deleted level (take (length os + at) (os ++ qs)) xs)) (drop-append-add os qs at)
    ∙ ap (λ (xs : List Origin). origins_handed_if asked (take 1 rest) (length os + at) (first_deleted level xs rest)) (take-append-add os qs at)
    ∙ ap (λ (xs : List Origin). origins_handed_if asked (take 1 rest) (length os + at) xs) (first_last level os (take at qs) rest whole_apart some)
    ∙ handing_last asked (take 1 rest) at os (origins_deleted level at qs) (taken_apart 1 at qs os (turned_apart os qs apart))

-- ---- circles

flags_last : (like : ℕ) (os qs : List Origin) → flags_at (length os + like) (os ++ qs) ≡ flags_at like qs
flags_last like [] qs = ap (λ n. flags_at n qs) (none_more like)
  where
    none_more : (n : ℕ) → 0 + n ≡ n
    none_more n = omega arith
flags_last like (o ∷ os) qs =
    let next : length (o ∷ os) + like ≡ suc (length os + like) = omega arith in
    ap (λ n. flags_at n (o ∷ (os ++ qs))) next ∙ flags_last like os qs

circle_last : (after : Bool) (beside like : ℕ) (os qs : List Origin) → origins_circled after (length os + beside) (length os + like) (os ++ qs) ≡ os ++ origins_circled after beside like qs
circle_last after beside like os qs =
    ap (λ (xs : List Origin). xs ++ first_circled after (flags_at (length os + like) (os ++ qs)) (drop (length os + beside) (os ++ qs))) (take-append-add os qs beside)
    ∙ ap (λ (n : ℕ). (os ++ take beside qs) ++ first_circled after n (drop (length os + beside) (os ++ qs))) (flags_last like os qs)
    ∙ ap (λ (xs : List Origin). (os ++ take beside qs) ++ first_circled after (flags_at like qs) xs) (drop-append-add os qs beside)
    ∙ append_assoc os (take beside qs) (first_circled after (flags_at like qs) (drop beside qs))

-- ---- events

-- an event that deletes leaves a glyph beside the deleted one in the second list, or one of its cluster
abbrev pub LeavesCover : Event → List Origin → List Origin → Type 0
LeavesCover (Delete at) os qs = CoversFirst os (take at qs) (drop at qs)
LeavesCover (Merge how from to) os qs = Unit {0}
LeavesCover (MergeGrapheme from to) os qs = Unit {0}
LeavesCover (Replace at taken given) os qs = Unit {0}
LeavesCover (Circle after beside like) os qs = Unit {0}
LeavesCover (Move how from order) os qs = Unit {0}
LeavesCover (Arrange from order) os qs = Unit {0}
LeavesCover (Sort from order) os qs = Unit {0}
LeavesCover Reverse os qs = Unit {0}
LeavesCover (Break from to) os qs = Unit {0}
LeavesCover (Concat from to) os qs = Unit {0}
LeavesCover (Tatweel from to) os qs = Unit {0}
LeavesCover (StrictBreak from to) os qs = Unit {0}
LeavesCover Spread os qs = Unit {0}
LeavesCover Reset os qs = Unit {0}

concat_last : (asked : Bool) (from to : ℕ) (os qs : List Origin) → concat_marked asked (length os + from) (length os + to) (os ++ qs) ≡ os ++ concat_marked asked from to qs
concat_last true from to os qs = changed_last (flags_added 2) from to os qs
concat_last false from to os qs = refl

tatweel_last : (asked : Bool) (from to : ℕ) (os qs : List Origin) → tatweel_marked asked (length os + from) (length os + to) (os ++ qs) ≡ os ++ tatweel_marked asked from to qs
tatweel_last true from to os qs = marked_last 4 from to os qs
tatweel_last false from to os qs = marked_last 3 from to os qs

strictly_last : (asked : Bool) (from to : ℕ) (os qs : List Origin) → strictly_marked asked (length os + from) (length os + to) (os ++ qs) ≡ os ++ strictly_marked asked from to qs
strictly_last true from to os qs = marked_last 3 from to os qs
strictly_last false from to os qs = refl

pub event_last : (asks : Asks) (level : BufferClusterLevel) (e : Event) (os qs : List Origin) → AreApart os qs → IsBounded e (length qs) → LeavesCover e os qs
    → origins_after_event asks level (os ++ qs) (shifted_event (length os) e) ≡ os ++ origins_after_event asks level qs e
event_last asks level (Merge how from to) os qs apart w n = merged_last (manner how level) from to os qs apart
event_last asks level (MergeGrapheme from to) os qs apart w n = merged_last (grapheme_manner level) from to os qs apart
event_last asks level (Replace at taken given) os qs apart w n =
    let m = manner InList level in
    let mid = origins_merged_as m at (at + taken) qs in
    let count = length_merged m at (at + taken) qs in
    ap (λ (k : ℕ). origins_replaced asks.breaks (length os + at) taken given (origins_merged_as m (length os + at) k (os ++ qs))) (sum_moved (length os) at taken)
    ∙ ap (λ (xs : List Origin). origins_replaced asks.breaks (length os + at) taken given xs) (merged_last m at (at + taken) os qs apart)
    ∙ replacing_last asks.breaks at taken given os mid (λ k h g. apart k h (merged_brings m at (at + taken) qs k g)) (omega (arith, count, w.0))
event_last asks level (Circle after beside like) os qs apart w n = circle_last after beside like os qs
event_last asks level (Delete at) os qs apart w n = deleting_last asks.breaks level at os qs apart n
event_last asks level (Move how from order) os qs apart w n =
    let m = manner how level in
    let mid = origins_merged_as m from (from + length order) qs in
    ap (λ (k : ℕ). with_range_arranged (length os + from) order (origins_merged_as m (length os + from) k (os ++ qs))) (sum_moved (length os) from (length order))
    ∙ ap (λ (xs : List Origin). with_range_arranged (length os + from) order xs) (merged_last m from (from + length order) os qs apart) ∙ arranged_last from order os mid
event_last asks level (Arrange from order) os qs apart w n = arranged_last from order os qs
event_last asks level (Sort from order) os qs apart w n =
    let m = manner InList level in
    let mid = spans_merged m from (spans order) qs in
    ap (λ (xs : List Origin). with_range_arranged (length os + from) order xs) (spans_last m from (spans order) os qs apart) ∙ arranged_last from order os mid
event_last asks level Reverse os qs apart w n = absurd w
event_last asks level (Break from to) os qs apart w n = marked_last 3 from to os qs
event_last asks level (Concat from to) os qs apart w n = concat_last asks.concat from to os qs
event_last asks level (Tatweel from to) os qs apart w n = tatweel_last asks.tatweel from to os qs
event_last asks level (StrictBreak from to) os qs apart w n = strictly_last asks.breaks from to os qs
event_last asks level Spread os qs apart w n = absurd w
event_last asks level Reset os qs apart w n = absurd w
