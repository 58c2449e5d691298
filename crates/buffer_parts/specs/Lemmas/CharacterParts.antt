-- What events do to the parts of characters.
use Rattle.std.proofs.Common.{ℕ, zero, suc, ◌≡◌, ◌≢◌, ◌≤◌, ◌<◌, ◌+◌, ◌-◌, ◌||◌, ◌⊎◌, inl, inr, Bool, true, false, min, max, if◌then◌else◌, List, [], ◌∷◌, ◌++◌, Option, Some, None, map, take, drop, replicate, arith, refl, ap, subst, sym, ◌∙◌, append_assoc}
use Rattle.std.specs.Prelude.{IsTrue}
use Rattle.std.specs.List.{list_any}
use Rattle.std.proofs.lemmas.Bool.Decides.{nat_tests}
use Rattle.std.proofs.lemmas.Grind.{common_steps}
use Rattle.std.proofs.lemmas.List.{drop-drop, take-append-drop, take-map, drop-map, map-id, map-append, append-nil}
use Rattle.buffer_glyphs.specs.Parts.{PartEvent, JoinParts, ReplaceParts, DeletePart, CirclePart, ReverseParts, united_number, joined_numbers, range_of, last_from, first_of, last_of, or, copies, is_number, with_neighbour, numbers_united_without, numbers_without, numbers_replaced, after_part_event, after_part_events}
use Rattle.buffer_glyphs.specs.Order.{IsInOrder, BringsNone, IsKept, shares_part, has_number, falls_after}
use Rattle.buffer_glyphs.specs.Lemmas.Deletions.{no_first, no_last, without_map}
use Rattle.buffer_glyphs.specs.Lemmas.Drawn.{drawn_drop, drawn_take, drawn_replaced, drawn_without, drawn_doubled}
use Rattle.buffer_glyphs.specs.Lemmas.Numbers.{Has, MayHave, has_here, has_more, has_cases, has_left, has_right, has_either, has_reverse, has_map, map_has, has_first, has_last, drawn_brings}
use Rattle.buffer_glyphs.specs.Lemmas.Parts.{order_drawn, event_keeps_order, keeps_numbers, united_rises}
use Rattle.buffer_glyphs.specs.Lemmas.Ends.{joined_alike}
use Rattle.buffer_parts.specs.CharacterParts.{Union, ends_of, neighbour_union, deletion_union, union_of, part_after_union, part_after_event, part_after, items_left, AreUnited, AreUnitedByEvents}
use Rattle.buffer_parts.specs.Laws.{EventsAreUnions, NumbersAreParts, PartsRise, PartsAreNoGreater, PartsStay, PartsHaveGlyphs, SlicesAreParts, PartsAreUnited}
use Rattle.buffer_facts.proofs.Lists.{others_map}
use Rattle.buffer_glyphs.proofs.Least.{range_order, none_beside, no_numbers, may_left, may_right, is_number_has, no_copies, has_at, doubled_has, removal_is, has_copied, replaced_has_at, replaced_has, copies_have, united_ends, any_of, first_taken}

-- ---- what becomes one

united_down : (a b x : ℕ) → united_number (min a b) (max a b) x ≤ x
united_down a b x = grind (arith, nat_tests, common_steps)

united_twice : (a b x : ℕ) → united_number (min a b) (max a b) (united_number (min a b) (max a b) x) ≡ united_number (min a b) (max a b) x
united_twice a b x = grind (arith, nat_tests, common_steps)

by_rises : (u : Option Union) (m n : ℕ) → m ≤ n → part_after_union u m ≤ part_after_union u n
by_rises None m n h = h
by_rises (Some u) m n h = united_rises u.one u.other m n h

by_down : (u : Option Union) (n : ℕ) → part_after_union u n ≤ n
by_down None n = omega arith
by_down (Some u) n = united_down u.one u.other n

by_twice : (u : Option Union) (n : ℕ) → part_after_union u (part_after_union u n) ≡ part_after_union u n
by_twice None n = refl
by_twice (Some u) n = united_twice u.one u.other n

-- ---- an event changes the parts, and then which items there are

joined_is : (s ns : List ℕ) → joined_numbers s ns ≡ map (part_after_union (ends_of s)) ns
joined_is [] ns = sym (map-id ns)
joined_is (x ∷ xs) ns = refl

with_is : (before after : Option ℕ) (n : ℕ) (ns : List ℕ) → with_neighbour before after n ns ≡ map (part_after_union (neighbour_union before after n)) ns
with_is (Some p) after n ns = refl
with_is None (Some q) n ns = refl
with_is None None n ns = sym (map-id ns)

left_is : (before at after : Option ℕ) (ns : List ℕ) → numbers_united_without before at after ns ≡ map (part_after_union (deletion_union before at after)) ns
left_is before None after ns = sym (map-id ns)
left_is before (Some n) after ns =
    elim (is_number before n || is_number after n) as (λ t. (if t then ns else with_neighbour before after n ns) ≡ map (part_after_union (if t then None else neighbour_union before after n)) ns)
    [ true ↦ sym (map-id ns) | false ↦ with_is before after n ns ]

pub events_are_unions : EventsAreUnions
events_are_unions (JoinParts from to) ns = joined_is (range_of from to ns) ns
events_are_unions (ReplaceParts at taken given) ns = ap (numbers_replaced at taken given) (joined_is (range_of at (at + taken) ns) ns)
events_are_unions (DeletePart at) ns = ap (numbers_without at) (left_is (last_of (take at ns)) (first_of (drop at ns)) (first_of (drop (at + 1) ns)) ns)
events_are_unions (CirclePart at) ns = ap (items_left (CirclePart at)) (sym (map-id ns))
events_are_unions ReverseParts ns = ap (items_left ReverseParts) (sym (map-id ns))

left_brings : (e : PartEvent) (ns : List ℕ) → BringsNone ns (items_left e ns)
left_brings (JoinParts from to) ns = λ n h. h
left_brings (ReplaceParts at taken given) ns = drawn_brings (drawn_replaced at taken given ns)
left_brings (DeletePart at) ns = drawn_brings (drawn_without at ns)
left_brings (CirclePart at) ns = drawn_brings (drawn_doubled at ns)
left_brings ReverseParts ns = λ n h. sym (has_reverse n ns) ∙ h

-- a number after an event is the part of one that was there
event_numbers : (e : PartEvent) (ns : List ℕ) → BringsNone (map (part_after_event ns e) ns) (after_part_event ns e)
event_numbers e ns n h = left_brings e (map (part_after_event ns e) ns) n (subst (λ (ms : List ℕ). Has ms n) (events_are_unions e ns) h)

-- and is its own part
event_stays : (e : PartEvent) (ns : List ℕ) (n : ℕ) → Has (after_part_event ns e) n → part_after_event ns e n ≡ n
event_stays e ns n h =
    let source = has_map (part_after_event ns e) n ns (event_numbers e ns n h) in
    ap (part_after_event ns e) (sym source.2) ∙ by_twice (union_of ns e) source.0 ∙ source.2

-- ---- lists of events

pub numbers_are_parts : NumbersAreParts
numbers_are_parts [] ns n h = subst (λ (ms : List ℕ). Has ms n) (sym (map-id ns)) h
numbers_are_parts (e ∷ es) ns n h =
    let mid = after_part_event ns e in
    let late = has_map (part_after es mid) n mid (numbers_are_parts es mid n h) in
    let soon = has_map (part_after_event ns e) late.0 ns (event_numbers e ns late.0 late.1) in
    subst (Has (map (part_after (e ∷ es) ns) ns)) (ap (part_after es mid) soon.2 ∙ late.2) (map_has (part_after (e ∷ es) ns) soon.0 ns soon.1)

pub parts_rise : PartsRise
parts_rise [] ns m n h = h
parts_rise (e ∷ es) ns m n h = parts_rise es (after_part_event ns e) (part_after_event ns e m) (part_after_event ns e n) (by_rises (union_of ns e) m n h)

pub parts_are_no_greater : PartsAreNoGreater
parts_are_no_greater [] ns n = omega arith
parts_are_no_greater (e ∷ es) ns n =
    let here = by_down (union_of ns e) n in
    let later = parts_are_no_greater es (after_part_event ns e) (part_after_event ns e n) in
    omega (arith, here, later)

pub parts_stay : PartsStay
parts_stay [] ns n h = refl
parts_stay (e ∷ es) ns n h =
    let mid = after_part_event ns e in
    ap (part_after es mid) (event_stays e ns n (keeps_numbers es mid n h)) ∙ parts_stay es mid n h

-- ---- each part keeps an item

-- of a joined range all items are of the part of the first
range_alike : (falls : Bool) (at gone n : ℕ) (ns s : List ℕ) → take gone (drop at ns) ≡ s → IsInOrder falls s → Has (take gone (drop at (map (part_after_union (ends_of s)) ns))) n → first_of (drop at (map (part_after_union (ends_of s)) ns)) ≡ Some n
range_alike falls at gone n ns [] e o h =
    let whole : map (λ (k : ℕ). k) ns ≡ ns = map-id ns in
    let none : Has (take gone (drop at ns)) n = subst (λ (ms : List ℕ). Has (take gone (drop at ms)) n) whole h in
    let gone = rw e at none in
    cc
range_alike falls at gone n ns (x ∷ xs) e o h =
    let f = united_number (min x (last_from x xs)) (max x (last_from x xs)) in
    let P : List ℕ → Type 0 = λ ys. Has ys n in
    let there : Has (map f (x ∷ xs)) n = subst P (ap (take gone) (drop-map f at ns) ∙ take-map f gone (drop at ns) ∙ ap (map f) e) h in
    let from = has_map f n (x ∷ xs) there in
    let same : f x ≡ n = joined_alike falls x x xs o (has_here x xs) ∙ sym (joined_alike falls x from.0 xs o from.1) ∙ from.2 in
    ap first_of (drop-map f at ns) ∙ first_taken f gone x (drop at ns) xs e ∙ ap Some same

given_has : (falls : Bool) (at taken given n : ℕ) (ns : List ℕ) → 0 < given → IsInOrder falls ns → Has ns n → Has (items_left (ReplaceParts at taken given) (map (part_after_event ns (ReplaceParts at taken given)) ns)) (part_after_event ns (ReplaceParts at taken given) n)
given_has falls at taken given n ns lt o h =
    let wide : at + taken - at ≡ taken = omega arith in
    let s = range_of at (at + taken) ns in
    let f = part_after_event ns (ReplaceParts at taken given) in
    let cut : take taken (drop at ns) ≡ s = ap (λ k. take k (drop at ns)) (sym wide) in
    replaced_has at taken given (f n) (map f ns) lt
    (range_alike falls at taken (f n) ns s cut (subst (IsInOrder falls) cut (range_order falls at taken ns o)))
    (map_has f n ns h)

-- a joined range that shares a part with what stays leaves it an item
shared_has : (falls : Bool) (at taken n : ℕ) (ns s : List ℕ) → take taken (drop at ns) ≡ s → IsInOrder falls s → list_any (has_number (take at ns ++ drop (at + taken) ns)) s ≡ true → Has ns n
    → Has (map (part_after_union (ends_of s)) (take at ns ++ drop (at + taken) ns)) (part_after_union (ends_of s) n)
shared_has falls at taken n ns [] e o h there = cc
shared_has falls at taken n ns (x ∷ xs) e o h there =
    let f = part_after_union (ends_of (x ∷ xs)) in
    let others = take at ns ++ drop (at + taken) ns in
    let p = any_of (has_number others) (x ∷ xs) h in
    elim (has_at n at ns there) [
      | inl front ↦ map_has f n others (has_left n (take at ns) (drop (at + taken) ns) front)
      | inr rest ↦ elim (has_at n taken (drop at ns) rest) [
        | inl inside ↦
            let same : f p.0 ≡ f n = joined_alike falls x p.0 xs o p.1 ∙ sym (joined_alike falls x n xs o (subst (λ (ys : List ℕ). Has ys n) e inside)) in
            subst (Has (map f others)) same (map_has f p.0 others p.2)
        | inr back ↦ map_has f n others (has_right n (take at ns) (drop (at + taken) ns) (subst (λ (ys : List ℕ). Has ys n) (drop-drop taken at ns) back))
      ]
    ]

removed_has : (falls : Bool) (at taken n : ℕ) (ns : List ℕ) → shares_part at taken ns ≡ true → IsInOrder falls ns → Has ns n → Has (items_left (ReplaceParts at taken 0) (map (part_after_event ns (ReplaceParts at taken 0)) ns)) (part_after_event ns (ReplaceParts at taken 0) n)
removed_has falls at taken n ns h o there =
    let wide : at + taken - at ≡ taken = omega arith in
    let s = range_of at (at + taken) ns in
    let f = part_after_event ns (ReplaceParts at taken 0) in
    let cut : take taken (drop at ns) ≡ s = ap (λ k. take k (drop at ns)) (sym wide) in
    let order : IsInOrder falls s = subst (IsInOrder falls) cut (range_order falls at taken ns o) in
    subst (λ (ys : List ℕ). Has ys (f n)) (sym (removal_is at taken (map f ns) ∙ others_map f at taken ns)) (shared_has falls at taken n ns s cut order h there)

kept_has : (falls : Bool) (at taken given n : ℕ) (ns : List ℕ) → (0 < given) ⊎ IsTrue (shares_part at taken ns) → IsInOrder falls ns → Has ns n
    → Has (items_left (ReplaceParts at taken given) (map (part_after_event ns (ReplaceParts at taken given)) ns)) (part_after_event ns (ReplaceParts at taken given) n)
kept_has falls at taken zero n ns g o h = elim g [ inl some ↦ absurd (omega arith) | inr shares ↦ removed_has falls at taken n ns shares o h ]
kept_has falls at taken (suc given) n ns g o h = given_has falls at taken (suc given) n ns (omega arith) o h

-- as an item of part n is about to be deleted, no other is left, or some other is of the part that n becomes
abbrev HasPeer : Option Union → List ℕ → ℕ → Type 0
HasPeer u others n = (others ≡ []) ⊎ ((p : ℕ) × Has others p × (part_after_union u p ≡ part_after_union u n))

peer_beside : (before after : Option ℕ) (n : ℕ) (others : List ℕ) → MayHave others before → MayHave others after → (before ≡ None → after ≡ None → others ≡ []) → HasPeer (neighbour_union before after n) others n
peer_beside (Some p) after n others b a none = inr (p, b, united_ends p n)
peer_beside None (Some q) n others b a none = inr (q, a, sym (united_ends n q))
peer_beside None None n others b a none = inl (none refl refl)

peer_left : (before after : Option ℕ) (n : ℕ) (others : List ℕ) → MayHave others before → MayHave others after → (before ≡ None → after ≡ None → others ≡ []) → HasPeer (deletion_union before (Some n) after) others n
peer_left before after n others b a none = by_sides (is_number before n) (is_number after n) refl refl
  where
    by_sides : (s t : Bool) → is_number before n ≡ s → is_number after n ≡ t → HasPeer (if s || t then None else neighbour_union before after n) others n
    by_sides true t e d = inr (n, is_number_has before n others e b, refl)
    by_sides false true e d = inr (n, is_number_has after n others d a, refl)
    by_sides false false e d = peer_beside before after n others b a none

peer_at : (at n : ℕ) (ns rest : List ℕ) → drop at ns ≡ n ∷ rest → HasPeer (union_of ns (DeletePart at)) (numbers_without at ns) n
peer_at at n ns rest e =
    let before = last_of (take at ns) in
    let after = first_of (drop (at + 1) ns) in
    let here : first_of (drop at ns) ≡ Some n = ap first_of e in
    subst (λ (o : Option ℕ). HasPeer (deletion_union before o after) (numbers_without at ns) n) (sym here)
    (peer_left before after n (numbers_without at ns)
    (may_left before (take at ns) (drop (at + 1) ns) (has_last (take at ns)))
    (may_right after (take at ns) (drop (at + 1) ns) (has_first (drop (at + 1) ns)))
    (none_beside (take at ns) (drop (at + 1) ns)))

deleted_has : (at k : ℕ) (ns rest : List ℕ) → drop at ns ≡ rest → Has ns k → numbers_without at ns ≢ [] → Has (map (part_after_event ns (DeletePart at)) (numbers_without at ns)) (part_after_event ns (DeletePart at) k)
deleted_has at k ns [] e h some = elim (has_at k at ns h) [
  | inl front ↦ map_has (part_after_event ns (DeletePart at)) k (numbers_without at ns) (has_left k (take at ns) (drop (at + 1) ns) front)
  | inr beyond ↦ let none = rw e at beyond in cc
]
deleted_has at k ns (n ∷ rest) e h some =
    let f = part_after_event ns (DeletePart at) in
    let others = numbers_without at ns in
    elim (has_at k at ns h) [
      | inl front ↦ map_has f k others (has_left k (take at ns) (drop (at + 1) ns) front)
      | inr beyond ↦ elim (has_cases n k rest (rw e at beyond)) [
        | inl here ↦ elim (peer_at at n ns rest e) [
          | inl none ↦ absurd (some none)
          | inr peer ↦ subst (Has (map f others)) (peer.2 ∙ ap f here) (map_has f peer.0 others peer.1)
        ]
        | inr later ↦ map_has f k others (has_right k (take at ns) (drop (at + 1) ns) (let there : drop (at + 1) ns ≡ rest = sym (drop-drop 1 at ns) ∙ ap (drop 1) e in rw there later))
      ]
    ]

-- a part that has an item has one after an event that keeps it
left_has : (e : PartEvent) (falls : Bool) (ns : List ℕ) (n : ℕ) → IsKept e ns → IsInOrder falls ns → items_left e (map (part_after_event ns e) ns) ≢ [] → Has ns n → Has (items_left e (map (part_after_event ns e) ns)) (part_after_event ns e n)
left_has (JoinParts from to) falls ns n g o some h = map_has (part_after_event ns (JoinParts from to)) n ns h
left_has (ReplaceParts at taken given) falls ns n g o some h = kept_has falls at taken given n ns g o h
left_has (DeletePart at) falls ns n g o some h =
    let f = part_after_event ns (DeletePart at) in
    let after : numbers_without at (map f ns) ≡ map f (numbers_without at ns) = without_map f at ns in
    subst (λ (ms : List ℕ). Has ms (f n)) (sym after) (deleted_has at n ns (drop at ns) refl h (λ none. some (after ∙ ap (map f) none)))
left_has (CirclePart at) falls ns n g o some h =
    let f = part_after_event ns (CirclePart at) in
    doubled_has at (f n) (map f ns) (map_has f n ns h)
left_has ReverseParts falls ns n g o some h =
    let f = part_after_event ns ReverseParts in
    has_reverse (f n) (map f ns) ∙ map_has f n ns h

event_has_part : (e : PartEvent) (falls : Bool) (ns : List ℕ) (n : ℕ) → IsKept e ns → IsInOrder falls ns → after_part_event ns e ≢ [] → Has ns n → Has (after_part_event ns e) (part_after_event ns e n)
event_has_part e falls ns n g o some h =
    let same = events_are_unions e ns in
    subst (λ (ms : List ℕ). Has ms (part_after_event ns e n)) (sym same) (left_has e falls ns n g o (λ none. some (same ∙ none)) h)

pub parts_have_glyphs : PartsHaveGlyphs
parts_have_glyphs [] falls ns n o g some h = h
parts_have_glyphs (e ∷ es) falls ns n o g some h =
    let mid = after_part_event ns e in
    let left : mid ≢ [] = λ none. some (ap (after_part_events es) none ∙ no_numbers (after_part_events es []) (keeps_numbers es [])) in
    parts_have_glyphs es (falls_after falls (e ∷ [])) mid (part_after_event ns e n) (event_keeps_order e falls ns o) g.1 some (event_has_part e falls ns n g.0 o left h)

pub slices_are_parts : SlicesAreParts
slices_are_parts es falls ns n o g some h = record {
  among = parts_have_glyphs es falls ns n o g some h;
  low = parts_are_no_greater es ns n;
  high = λ j there le. let stays = parts_stay es ns j there in let rises = parts_rise es ns j n le in omega (arith, stays, rises);
}

-- ---- two numbers of one part

same_or_in : (a b m n : ℕ) → united_number (min a b) (max a b) m ≡ united_number (min a b) (max a b) n → (m ≡ n) ⊎ ((min a b ≤ m) × (m ≤ max a b) × (min a b ≤ n) × (n ≤ max a b))
same_or_in a b m n e = grind (arith, nat_tests, common_steps, e)

in_same : (a b m n : ℕ) → min a b ≤ m → m ≤ max a b → min a b ≤ n → n ≤ max a b → united_number (min a b) (max a b) m ≡ united_number (min a b) (max a b) n
in_same a b m n p q r s = grind (arith, nat_tests, common_steps, p, q, r, s)

alike_united : (u : Option Union) (m n : ℕ) → part_after_union u m ≡ part_after_union u n → (m ≡ n) ⊎ AreUnited u m n
alike_united None m n e = inl e
alike_united (Some u) m n e = same_or_in u.one u.other m n e

united_alike : (u : Option Union) (m n : ℕ) → AreUnited u m n → part_after_union u m ≡ part_after_union u n
united_alike None m n h = absurd h
united_alike (Some u) m n h = in_same u.one u.other m n h.0 h.1 h.2 h.3

one_part : (es : List PartEvent) (ns : List ℕ) (m n : ℕ) → part_after es ns m ≡ part_after es ns n → (m ≡ n) ⊎ AreUnitedByEvents es ns m n
one_part [] ns m n e = inl e
one_part (e ∷ es) ns m n same = elim (one_part es (after_part_event ns e) (part_after_event ns e m) (part_after_event ns e n) same) [
  | inl here ↦ elim (alike_united (union_of ns e) m n here) [ inl equal ↦ inl equal | inr united_number ↦ inr (inl united_number) ]
  | inr later ↦ inr (inr later)
]

united_part : (es : List PartEvent) (ns : List ℕ) (m n : ℕ) → AreUnitedByEvents es ns m n → part_after es ns m ≡ part_after es ns n
united_part [] ns m n h = absurd h
united_part (e ∷ es) ns m n h = elim h [
  | inl here ↦ ap (part_after es (after_part_event ns e)) (united_alike (union_of ns e) m n here)
  | inr later ↦ united_part es (after_part_event ns e) (part_after_event ns e m) (part_after_event ns e n) later
]

pub parts_are_united : PartsAreUnited
parts_are_united es ns m n = (one_part es ns m n, united_part es ns m n)
