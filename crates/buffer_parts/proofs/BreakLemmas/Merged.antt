-- Merges, flagged ranges, circles and replacements leave what is unsafe to break.
use Rattle.std.proofs.Common.{ℕ, ◌≡◌, ◌≤◌, ◌+◌, ◌⊎◌, inl, inr, Bool, true, false, List, [], ◌∷◌, ◌++◌, length, take, drop, refl, ap, sym, subst, ◌∙◌}
use Rattle.std.specs.List.{list_any}
use Rattle.std.proofs.lemmas.List.{length-map, drop-drop}
use Rattle.buffer_glyphs.specs.Parts.{range_of, first_of, last_of, or, copies, elements_replaced, JoinParts}
use Rattle.buffer_glyphs.specs.Order.{IsOrdered, BringsNone}
use Rattle.buffer_glyphs.specs.Merges.{least_number, merged_number, merged_numbers, numbers_merged_as}
use Rattle.buffer_glyphs.specs.Origins.{Origin, numbers, cast, origins_merged, flags_added, added_outside, origins_marked, origins_flagged, Manner, Unites, Marks, Keeps, origins_merged_as, Span, spans_merged, flags_at, first_circled, origins_circled}
use Rattle.buffer_glyphs.specs.Events.{concat_marked, tatweel_marked, strictly_marked, origins_replaced}
use Rattle.buffer_glyphs.specs.Lemmas.Numbers.{Has, has_map, drawn_brings}
use Rattle.buffer_glyphs.specs.Lemmas.Drawn.{drawn_replaced}
use Rattle.buffer_glyphs.specs.Lemmas.Replacements.{among_seen}
use Rattle.buffer_glyphs.specs.Lemmas.Origins.{numbers_merged, numbers_marked, numbers_merged_by}
use Rattle.buffer_glyphs.specs.Lemmas.Merges.{merge_unites, merge_joins_ordered, numbers_brought}
use Rattle.buffer_glyphs.specs.Lemmas.Parts.{stays_ordered}
use Rattle.buffer_parts.specs.Breaks.Unsafe.{is_unsafe_of, has_unsafe_of}
use Rattle.buffer_parts.proofs.BreakLemmas.Any.{any_cases, any_here, any_more, any_left, any_right, any_halves, any_mapped, any_changed}
use Rattle.buffer_parts.proofs.BreakLemmas.Flags.{unsafe_of, added_stays, outside_stays}
use Rattle.buffer_parts.proofs.BreakLemmas.Handed.{handing_stays, handing_gives, unsafe_has, replaced_beside}
use Rattle.buffer_glyphs.specs.Lemmas.EventParts.{spans_bring, merged_brings}
use Rattle.buffer_stages.specs.Lemmas.Nested.{merged_length as length_merged}
use Rattle.buffer_facts.proofs.Numbers.{test_of_same as test_equal}

-- ---- flagged ranges

pub marked_stays : (c bits from to : ℕ) (os : List Origin) → has_unsafe_of c os ≡ true → has_unsafe_of c (origins_marked bits from to os) ≡ true
marked_stays c bits from to os h =
    let low = least_number (range_of from to (numbers os)) in
    any_changed (is_unsafe_of c) (added_outside bits low) from to os (λ o g. outside_stays c bits low o g) h

flagged_stays : (c bits from to : ℕ) (os : List Origin) → has_unsafe_of c os ≡ true → has_unsafe_of c (origins_flagged bits from to os) ≡ true
flagged_stays c bits from to os h = any_changed (is_unsafe_of c) (flags_added bits) from to os (λ o g. added_stays c bits o g) h

pub concat_stays : (asked : Bool) (c from to : ℕ) (os : List Origin) → has_unsafe_of c os ≡ true → has_unsafe_of c (concat_marked asked from to os) ≡ true
concat_stays true c from to os h = flagged_stays c 2 from to os h
concat_stays false c from to os h = h

pub tatweel_stays : (asked : Bool) (c from to : ℕ) (os : List Origin) → has_unsafe_of c os ≡ true → has_unsafe_of c (tatweel_marked asked from to os) ≡ true
tatweel_stays true c from to os h = marked_stays c 4 from to os h
tatweel_stays false c from to os h = marked_stays c 3 from to os h

pub strictly_stays : (asked : Bool) (c from to : ℕ) (os : List Origin) → has_unsafe_of c os ≡ true → has_unsafe_of c (strictly_marked asked from to os) ≡ true
strictly_stays true c from to os h = marked_stays c 3 from to os h
strictly_stays false c from to os h = h

-- ---- merges

-- a number that is there after a merge is the merge of itself
pub merged_again : (range : List ℕ) (c : ℕ) (ns : List ℕ) → Has (merged_numbers range ns) c → merged_number range c ≡ c
merged_again range c ns h =
    let from = has_map (merged_number range) c ns h in
    let coarse = merge_unites range in
    let twice : merged_number range (merged_number range from.0) ≡ merged_number range from.0 = coarse.least (merged_number range) coarse.unites from.0 in
    ap (merged_number range) (sym from.2) ∙ twice ∙ from.2

cast_stays : (c : ℕ) (o : Origin) → is_unsafe_of c o ≡ true → is_unsafe_of c (cast c 0 o) ≡ true
cast_stays c o h =
    let same = test_equal o.cluster c (unsafe_of c o h).0 in
    rw same h

pub united_stays : (range : List ℕ) (c : ℕ) (os : List Origin) → Has (numbers (origins_merged range os)) c → has_unsafe_of c os ≡ true → has_unsafe_of c (origins_merged range os) ≡ true
united_stays range c os there h =
    let again = merged_again range c (numbers os) (subst (λ (ns : List ℕ). Has ns c) (numbers_merged range os) there) in
    any_mapped (is_unsafe_of c) (λ (o : Origin). cast (merged_number range o.cluster) 0 o) os
    (λ o g.
    let is : merged_number range o.cluster ≡ c = ap (merged_number range) (unsafe_of c o g).0 ∙ again in
    ap (λ n. is_unsafe_of c (cast n 0 o)) is ∙ cast_stays c o g)
    h

-- a merge in each manner
pub merge_stays : (m : Manner) (c from to : ℕ) (os : List Origin) → Has (numbers (origins_merged_as m from to os)) c → has_unsafe_of c os ≡ true → has_unsafe_of c (origins_merged_as m from to os) ≡ true
merge_stays Unites c from to os there h = united_stays (range_of from to (numbers os)) c os there h
merge_stays Marks c from to os there h = marked_stays c 3 from to os h
merge_stays Keeps c from to os there h = h

-- a merge keeps numbers in order
pub united_ordered : (m : Manner) (from to : ℕ) (ns : List ℕ) → from ≤ to → IsOrdered ns → IsOrdered (numbers_merged_as m from to ns)
united_ordered Unites from to ns le o = subst IsOrdered (sym (merge_joins_ordered from to ns le o)) (stays_ordered (JoinParts from to ∷ []) ns o)
united_ordered Marks from to ns le o = o
united_ordered Keeps from to ns le o = o

pub merged_ordered : (m : Manner) (from to : ℕ) (os : List Origin) → from ≤ to → IsOrdered (numbers os) → IsOrdered (numbers (origins_merged_as m from to os))
merged_ordered m from to os le o = subst IsOrdered (sym (numbers_merged_by m from to os)) (united_ordered m from to (numbers os) le o)

pub spans_stay : (m : Manner) (c at : ℕ) (ss : List Span) (os : List Origin) → Has (numbers (spans_merged m at ss os)) c → has_unsafe_of c os ≡ true → has_unsafe_of c (spans_merged m at ss os) ≡ true
spans_stay m c at [] os there h = h
spans_stay m c at (s ∷ ss) os there h =
    let mid = origins_merged_as m (at + s.from) (at + s.to) os in
    spans_stay m c at ss mid there (merge_stays m c (at + s.from) (at + s.to) os (spans_bring m at ss mid c there) h)

pub length_spans : (m : Manner) (at : ℕ) (ss : List Span) (os : List Origin) → length (spans_merged m at ss os) ≡ length os
length_spans m at [] os = refl
length_spans m at (s ∷ ss) os = length_spans m at ss (origins_merged_as m (at + s.from) (at + s.to) os) ∙ length_merged m (at + s.from) (at + s.to) os

-- ---- circles

first_stays : (after : Bool) (c flags : ℕ) (os : List Origin) → has_unsafe_of c os ≡ true → has_unsafe_of c (first_circled after flags os) ≡ true
first_stays after c flags [] h = h
first_stays true c flags (o ∷ os) h =
    let p = is_unsafe_of c in
    let new : Origin = record { cluster = o.cluster; flags = flags } in
    elim (any_cases p o os h) [ inl here ↦ any_here p o (new ∷ os) here | inr later ↦ any_more p o (new ∷ os) (any_more p new os later) ]
first_stays false c flags (o ∷ os) h =
    let new : Origin = record { cluster = o.cluster; flags = flags } in
    any_more (is_unsafe_of c) new (o ∷ os) h

pub circle_stays : (after : Bool) (c beside like : ℕ) (os : List Origin) → has_unsafe_of c os ≡ true → has_unsafe_of c (origins_circled after beside like os) ≡ true
circle_stays after c beside like os h =
    let p = is_unsafe_of c in
    let new = first_circled after (flags_at like os) (drop beside os) in
    elim (any_halves p beside os h) [
      | inl before ↦ any_left p (take beside os) new before
      | inr later ↦ any_right p (take beside os) new (first_stays after c (flags_at like os) (drop beside os) later)
    ]

-- ---- replacements

-- an element of a list is before a range, in it, or after it
any_thirds : {X : Type 0} (p : X → Bool) (at taken : ℕ) (xs : List X) → list_any p xs ≡ true
    → (list_any p (take at xs) ≡ true) ⊎ ((list_any p (take taken (drop at xs)) ≡ true) ⊎ (list_any p (drop (at + taken) xs) ≡ true))
any_thirds p at taken xs h = elim (any_halves p at xs h) [
  | inl before ↦ inl before
  | inr later ↦ elim (any_halves p taken (drop at xs) later) [
    | inl among ↦ inr (inl among)
    | inr beyond ↦ inr (inr (ap (list_any p) (sym (drop-drop taken at xs)) ∙ beyond))
  ]
]

pub replaced_brings : (at taken given : ℕ) (os : List Origin) → BringsNone (numbers os) (numbers (elements_replaced at taken given os))
replaced_brings at taken given os = λ n h. drawn_brings (drawn_replaced at taken given (numbers os)) n (subst (λ (ns : List ℕ). Has ns n) (among_seen (λ (o : Origin). o.cluster) at taken given os) h)

pub replacing_stays : (asked : Bool) (c at taken given : ℕ) (os : List Origin) → asked ≡ true → IsOrdered (numbers os) → Has (numbers (elements_replaced at taken given os)) c → has_unsafe_of c os ≡ true → has_unsafe_of c (origins_replaced asked at taken given os) ≡ true
replacing_stays asked c at taken given os e o there h =
    let p = is_unsafe_of c in
    let front = take at os in
    let gone = take taken (drop at os) in
    let new = copies given (or (first_of (drop at os)) (last_of (take at os))) in
    let rest = drop (at + taken) os in
    elim (any_thirds p at taken os h) [
      | inl before ↦ handing_stays asked c gone (at + given) (front ++ new ++ rest) (any_left p (front ++ new) rest (any_left p front new before))
      | inr (inl among) ↦ handing_gives asked c gone (at + given) (front ++ new ++ rest) e among (replaced_beside c at taken given os o (unsafe_has c gone among) there)
      | inr (inr beyond) ↦ handing_stays asked c gone (at + given) (front ++ new ++ rest) (any_right p (front ++ new) rest beyond)
    ]
