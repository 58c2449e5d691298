-- The least number of parts in order stays.
use Rattle.std.proofs.Common.{ℕ, zero, suc, ◌≡◌, ◌≢◌, ◌≤◌, ◌<◌, ◌+◌, ◌-◌, ◌||◌, ◌⊎◌, inl, inr, Bool, true, false, min, max, if◌then◌else◌, List, [], ◌∷◌, ◌++◌, Option, Some, None, map, take, drop, replicate, arith, refl, ap, subst, sym, ◌∙◌, append_assoc}
use Rattle.std.specs.Prelude.{IsTrue}
use Rattle.std.specs.List.{list_any}
use Rattle.std.proofs.lemmas.Bool.Decides.{nat_tests}
use Rattle.std.proofs.lemmas.Grind.{common_steps}
use Rattle.std.proofs.lemmas.List.{drop-drop, take-append-drop, take-map, drop-map, map-id, map-append, append-nil}
use Rattle.buffer_glyphs.specs.Parts.{PartEvent, JoinParts, ReplaceParts, DeletePart, CirclePart, ReverseParts, united_number, united_numbers, joined_numbers, range_of, last_from, first_of, last_of, or, copies, is_number, with_neighbour, numbers_united_if_last, before_deletion, numbers_without, numbers_replaced, after_part_event, after_part_events}
use Rattle.buffer_glyphs.specs.Order.{IsInOrder, IsOrdered, IsLeast, BringsNone, IsKept, shares_part, has_number, falls_after}
use Rattle.buffer_glyphs.specs.Laws.{KeepsLeast, OriginsKeepOrder, OriginsKeepLeast}
use Rattle.buffer_glyphs.specs.Origins.{Origin, numbers}
use Rattle.buffer_glyphs.specs.Events.{origins_after}
use Rattle.buffer_glyphs.specs.EventParts.{parts_of}
use Rattle.buffer_glyphs.specs.Lemmas.EventParts.{origins_are_parts}
use Rattle.buffer_glyphs.specs.Lemmas.Deletions.{no_first, no_last, without_map}
use Rattle.buffer_glyphs.specs.Lemmas.Drawn.{drawn_drop, drawn_take}
use Rattle.buffer_glyphs.specs.Lemmas.Numbers.{Has, MayHave, has_here, has_more, has_cases, has_left, has_right, has_either, has_drop, has_reverse, has_map, map_has, has_first, has_last, has_last_before, has_first_from}
use Rattle.buffer_glyphs.specs.Lemmas.Unions.{Unites, joined_unites}
use Rattle.buffer_glyphs.specs.Lemmas.Parts.{order_drawn, keeps_order, event_keeps_order, event_keeps_numbers, keeps_numbers}
use Rattle.buffer_glyphs.specs.Lemmas.Ends.{joined_alike}
use Rattle.buffer_facts.proofs.Lists.{others_map}

-- a union leaves the least number as it is
united_least : (k m n : ℕ) → k ≤ m → k ≤ n → united_number (min m n) (max m n) k ≡ k
united_least k m n hm hn = grind (arith, nat_tests, common_steps)

least_unites : (k : ℕ) (ns : List ℕ) → IsLeast k ns → Unites (λ xs. Has xs k) ns
least_unites k ns l = record {
  same = l.among;
  union = λ m n hm hn. let P : ℕ → Type 0 = λ j. Has (united_numbers m n ns) j in subst P (united_least k m n (l.below m hm) (l.below n hn)) (map_has (united_number (min m n) (max m n)) k ns l.among);
}

pub has_at : (n at : ℕ) (ns : List ℕ) → Has ns n → Has (take at ns) n ⊎ Has (drop at ns) n
has_at n at ns h = has_either n (take at ns) (drop at ns) (let P : List ℕ → Type 0 = λ xs. Has xs n in subst P (sym (take-append-drop at ns)) h)

pub copies_have : (given n : ℕ) → 0 < given → Has (copies given (Some n)) n
copies_have zero n lt = absurd (omega arith)
copies_have (suc given) n lt = has_here n (replicate given n)

-- copies of the first, instead of some that are all as the first
pub has_copied : (given gone n : ℕ) (ns : List ℕ) → 0 < given → (Has (take gone ns) n → first_of ns ≡ Some n) → Has ns n → Has (copies given (first_of ns) ++ drop gone ns) n
has_copied given gone n ns lt alike h = elim (has_at n gone ns h) [
  | inl there ↦ has_left n (copies given (first_of ns)) (drop gone ns) (let P : Option ℕ → Type 0 = λ o. Has (copies given o) n in subst P (sym (alike there)) (copies_have given n lt))
  | inr beyond ↦ has_right n (copies given (first_of ns)) (drop gone ns) beyond
]

pub replaced_has_at : (at gone given n : ℕ) (ns rest : List ℕ) → drop at ns ≡ rest → 0 < given → (Has (take gone rest) n → first_of rest ≡ Some n) → Has ns n
    → Has (take at ns ++ copies given (or (first_of rest) (last_of (take at ns))) ++ drop gone rest) n
replaced_has_at at gone given n ns [] e lt alike h = elim (has_at n at ns h) [
  | inl front ↦ has_left n (take at ns ++ copies given (last_of (take at ns))) (drop gone []) (has_left n (take at ns) (copies given (last_of (take at ns))) front)
  | inr beyond ↦ let none = rw e at beyond in cc
]
replaced_has_at at gone given n ns (m ∷ rest) e lt alike h = rw append_assoc (elim (has_at n at ns h) [
  | inl front ↦ has_left n (take at ns) (replicate given m ++ drop gone (m ∷ rest)) front
  | inr beyond ↦ has_right n (take at ns) (replicate given m ++ drop gone (m ∷ rest)) (has_copied given gone n (m ∷ rest) lt alike (rw e at beyond))
])

-- items that are all of one part are replaced by others of it: its number stays
pub replaced_has : (at gone given n : ℕ) (ns : List ℕ) → 0 < given → (Has (take gone (drop at ns)) n → first_of (drop at ns) ≡ Some n) → Has ns n → Has (numbers_replaced at gone given ns) n
replaced_has at gone given n ns lt alike h = rw (← drop-drop gone at ns) (replaced_has_at at gone given n ns (drop at ns) refl lt alike h)

pub first_taken : (f : ℕ → ℕ) (gone x : ℕ) (ds xs : List ℕ) → take gone ds ≡ x ∷ xs → first_of (map f ds) ≡ Some (f x)
first_taken f zero x ds xs e = cc
first_taken f (suc gone) x [] xs e = cc
first_taken f (suc gone) x (d ∷ ds) xs e = ap (λ ys. first_of (map f ys)) e

range_alike : (falls : Bool) (at gone n : ℕ) (ns s : List ℕ) → take gone (drop at ns) ≡ s → IsInOrder falls s → Has (take gone (drop at (joined_numbers s ns))) n → first_of (drop at (joined_numbers s ns)) ≡ Some n
range_alike falls at gone n ns [] e o h = let none = rw e at h in cc
range_alike falls at gone n ns (x ∷ xs) e o h =
    let f = united_number (min x (last_from x xs)) (max x (last_from x xs)) in
    let P : List ℕ → Type 0 = λ ys. Has ys n in
    let there : Has (map f (x ∷ xs)) n = subst P (ap (take gone) (drop-map f at ns) ∙ take-map f gone (drop at ns) ∙ ap (map f) e) h in
    let from = has_map f n (x ∷ xs) there in
    let same : f x ≡ n = joined_alike falls x x xs o (has_here x xs) ∙ sym (joined_alike falls x from.0 xs o from.1) ∙ from.2 in
    ap first_of (drop-map f at ns) ∙ first_taken f gone x (drop at ns) xs e ∙ ap Some same

pub range_order : (falls : Bool) (at gone : ℕ) (ns : List ℕ) → IsInOrder falls ns → IsInOrder falls (take gone (drop at ns))
range_order falls at gone ns h = order_drawn falls (drawn_take gone (drop at ns)) (order_drawn falls (drawn_drop at ns) h)

replace_has : (falls : Bool) (at taken given k : ℕ) (ns : List ℕ) → 0 < given → IsInOrder falls ns → IsLeast k ns → Has (after_part_event ns (ReplaceParts at taken given)) k
replace_has falls at taken given k ns lt o l =
    let wide : at + taken - at ≡ taken = omega arith in
    let s = range_of at (at + taken) ns in
    let mid = joined_numbers s ns in
    let cut : take taken (drop at ns) ≡ s = ap (λ n. take n (drop at ns)) (sym wide) in
    replaced_has at taken given k mid lt
    (range_alike falls at taken k ns s cut (subst (IsInOrder falls) cut (range_order falls at taken ns o)))
    (joined_unites (λ xs. Has xs k) at (at + taken) ns (least_unites k ns l))

pub doubled_has : (at n : ℕ) (ns : List ℕ) → Has ns n → Has (take at ns ++ copies 2 (first_of (drop at ns)) ++ drop (at + 1) ns) n
doubled_has at n ns h = rw (append_assoc, ← drop-drop 1 at ns) (elim (has_at n at ns h) [
  | inl front ↦ has_left n (take at ns) (copies 2 (first_of (drop at ns)) ++ drop 1 (drop at ns)) front
  | inr beyond ↦ has_right n (take at ns) (copies 2 (first_of (drop at ns)) ++ drop 1 (drop at ns)) (has_copied 2 1 n (drop at ns) (omega arith) (one_alike n (drop at ns)) beyond)
])
  where
    one_alike : (m : ℕ) (ms : List ℕ) → Has (take 1 ms) m → first_of ms ≡ Some m
    one_alike m [] t = cc
    one_alike m (d ∷ ds) t = elim (has_cases d m [] t) [ inl e ↦ ap Some e | inr none ↦ cc ]

-- as an item of part n is about to go, each part n becomes f n: no other is left, or some other becomes what n does
record IsLeft (ns others left : List ℕ) (n : ℕ) : Type 0 where
  f : ℕ → ℕ
  is : left ≡ map f ns
  beside : (others ≡ []) ⊎ ((p : ℕ) × Has others p × (f p ≡ f n))
  least : (k : ℕ) → IsLeast k ns → f k ≡ k

pub united_ends : (m n : ℕ) → united_number (min m n) (max m n) m ≡ united_number (min m n) (max m n) n
united_ends m n = grind (arith, nat_tests, common_steps)

same_left : (ns others : List ℕ) (n : ℕ) → Has others n → IsLeft ns others ns n
same_left ns others n h = record { f = λ x. x; is = sym (map-id ns); beside = inr (n, h, refl); least = λ k l. refl }

pub is_number_has : (o : Option ℕ) (n : ℕ) (others : List ℕ) → is_number o n ≡ true → MayHave others o → Has others n
is_number_has None n others e h = cc
is_number_has (Some m) n others e h = let same : m ≡ n = grind (arith, common_steps, e) in subst (Has others) same h

with_left : (before after : Option ℕ) (n : ℕ) (ns others : List ℕ) → MayHave others before → MayHave others after → MayHave ns before → MayHave ns after → Has ns n → (before ≡ None → after ≡ None → others ≡ [])
    → IsLeft ns others (with_neighbour before after n ns) n
with_left (Some p) after n ns others b a hb ha h none = record {
  f = united_number (min p n) (max p n);
  is = refl;
  beside = inr (p, b, united_ends p n);
  least = λ k l. united_least k p n (l.below p hb) (l.below n h);
}
with_left None (Some q) n ns others b a hb ha h none = record {
  f = united_number (min n q) (max n q);
  is = refl;
  beside = inr (q, a, sym (united_ends n q));
  least = λ k l. united_least k n q (l.below n h) (l.below q ha);
}
with_left None None n ns others b a hb ha h none = record { f = λ x. x; is = sym (map-id ns); beside = inl (none refl refl); least = λ k l. refl }

if_last_left : (before after : Option ℕ) (n : ℕ) (ns others : List ℕ) → MayHave others before → MayHave others after → MayHave ns before → MayHave ns after → Has ns n → (before ≡ None → after ≡ None → others ≡ [])
    → IsLeft ns others (numbers_united_if_last before after n ns) n
if_last_left before after n ns others b a hb ha h none = go (is_number before n) (is_number after n) refl refl
  where
    go : (s t : Bool) → is_number before n ≡ s → is_number after n ≡ t → IsLeft ns others (if s || t then ns else with_neighbour before after n ns) n
    go true t e d = same_left ns others n (is_number_has before n others e b)
    go false true e d = same_left ns others n (is_number_has after n others d a)
    go false false e d = with_left before after n ns others b a hb ha h none

pub may_left : (o : Option ℕ) (xs ys : List ℕ) → MayHave xs o → MayHave (xs ++ ys) o
may_left None xs ys h = tt
may_left (Some n) xs ys h = has_left n xs ys h

pub may_right : (o : Option ℕ) (xs ys : List ℕ) → MayHave ys o → MayHave (xs ++ ys) o
may_right None xs ys h = tt
may_right (Some n) xs ys h = has_right n xs ys h

pub none_beside : (xs ys : List ℕ) → last_of xs ≡ None → first_of ys ≡ None → xs ++ ys ≡ []
none_beside xs ys e d = rw (no_last xs e, no_first ys d) refl

left_at : (at n : ℕ) (ns rest : List ℕ) → drop at ns ≡ n ∷ rest → IsLeft ns (numbers_without at ns) (before_deletion at ns) n
left_at at n ns rest e =
    let before = last_of (take at ns) in
    let after = first_of (drop (at + 1) ns) in
    let here : Has ns n = has_drop n at ns (rw e (has_here n rest)) in
    rw e (if_last_left before after n ns (numbers_without at ns)
    (may_left before (take at ns) (drop (at + 1) ns) (has_last (take at ns)))
    (may_right after (take at ns) (drop (at + 1) ns) (has_first (drop (at + 1) ns)))
    (has_last_before at ns)
    (has_first_from (at + 1) ns)
    here
    (none_beside (take at ns) (drop (at + 1) ns)))

deleted_has : (at k : ℕ) (ns rest : List ℕ) → drop at ns ≡ rest → IsLeast k ns → numbers_without at (before_deletion at ns) ≢ [] → Has (numbers_without at (before_deletion at ns)) k
deleted_has at k ns [] e l some =
    let P : List ℕ → Type 0 = λ ms. Has (numbers_without at ms) k in
    let same : before_deletion at ns ≡ ns = rw e refl in
    subst P (sym same) (elim (has_at k at ns l.among) [
      | inl front ↦ has_left k (take at ns) (drop (at + 1) ns) front
      | inr beyond ↦ let none = rw e at beyond in cc
    ])
deleted_has at k ns (n ∷ rest) e l some =
    let left = left_at at n ns rest e in
    let others = numbers_without at ns in
    let after : numbers_without at (before_deletion at ns) ≡ map left.f others = ap (numbers_without at) left.is ∙ without_map left.f at ns in
    let kept : (p : ℕ) → Has others p → left.f p ≡ k → Has (numbers_without at (before_deletion at ns)) k =
    λ p h same. subst (λ (ms : List ℕ). Has ms k) (sym after) (subst (Has (map left.f others)) same (map_has left.f p others h)) in
    elim (has_at k at ns l.among) [
      | inl front ↦ kept k (has_left k (take at ns) (drop (at + 1) ns) front) (left.least k l)
      | inr beyond ↦ elim (has_cases n k rest (rw e at beyond)) [
        | inl here ↦ elim left.beside [
          | inl none ↦ absurd (some (after ∙ ap (map left.f) none))
          | inr beside ↦ kept beside.0 beside.1 (beside.2 ∙ ap left.f here ∙ left.least k l)
        ]
        | inr later ↦ kept k (has_right k (take at ns) (drop (at + 1) ns) (let there : drop (at + 1) ns ≡ rest = sym (drop-drop 1 at ns) ∙ ap (drop 1) e in rw there later)) (left.least k l)
      ]
    ]

pub any_of : (q : ℕ → Bool) (ns : List ℕ) → list_any q ns ≡ true → (n : ℕ) × Has ns n × (q n ≡ true)
any_of q [] h = cc
any_of q (n ∷ ns) h = by_first (q n) refl h (any_of q ns)
  where
    by_first : (t : Bool) → q n ≡ t → (t || list_any q ns) ≡ true → (list_any q ns ≡ true → (m : ℕ) × Has ns m × (q m ≡ true)) → (m : ℕ) × Has (n ∷ ns) m × (q m ≡ true)
    by_first true e k later = (n, has_here n ns, e)
    by_first false e k later = let found = later k in (found.0, has_more n found.0 ns found.1, found.2)

pub no_copies : (o : Option ℕ) → copies 0 o ≡ []
no_copies None = refl
no_copies (Some n) = refl

-- a list whose range went
pub removal_is : (at taken : ℕ) (ns : List ℕ) → numbers_replaced at taken 0 ns ≡ take at ns ++ drop (at + taken) ns
removal_is at taken ns = ap (λ xs. take at ns ++ xs ++ drop (at + taken) ns) (no_copies (or (first_of (drop at ns)) (last_of (take at ns)))) ∙ ap (λ xs. xs ++ drop (at + taken) ns) (append-nil (take at ns))

-- what a joined range shares with a part that stays it shares after the join
shared_has : (falls : Bool) (at taken k : ℕ) (ns s : List ℕ) → range_of at (at + taken) ns ≡ s → IsInOrder falls s → list_any (has_number (take at ns ++ drop (at + taken) ns)) s ≡ true → Has (joined_numbers s ns) k
    → Has (take at (joined_numbers s ns) ++ drop (at + taken) (joined_numbers s ns)) k
shared_has falls at taken k ns [] e o h there = cc
shared_has falls at taken k ns (x ∷ xs) e o h there =
    let f = united_number (min x (last_from x xs)) (max x (last_from x xs)) in
    let others = take at ns ++ drop (at + taken) ns in
    let p = any_of (has_number others) (x ∷ xs) h in
    let from = has_map f k ns there in
    let P : List ℕ → Type 0 = λ ys. Has ys k in
    let wide : at + taken - at ≡ taken = omega arith in
    let cut : take taken (drop at ns) ≡ x ∷ xs = ap (λ n. take n (drop at ns)) (sym wide) ∙ e in
    subst P (sym (others_map f at taken ns)) (elim (has_at from.0 at ns from.1) [
      | inl front ↦ subst (Has (map f others)) from.2 (map_has f from.0 others (has_left from.0 (take at ns) (drop (at + taken) ns) front))
      | inr rest ↦ elim (has_at from.0 taken (drop at ns) rest) [
        | inl inside ↦
            let same : f p.0 ≡ k = joined_alike falls x p.0 xs o p.1 ∙ sym (joined_alike falls x from.0 xs o (subst (λ (ys : List ℕ). Has ys from.0) cut inside)) ∙ from.2 in
            subst (Has (map f others)) same (map_has f p.0 others p.2)
        | inr back ↦ subst (Has (map f others)) from.2 (map_has f from.0 others (has_right from.0 (take at ns) (drop (at + taken) ns) (subst (λ (ys : List ℕ). Has ys from.0) (drop-drop taken at ns) back)))
      ]
    ])

removed_has : (falls : Bool) (at taken k : ℕ) (ns : List ℕ) → shares_part at taken ns ≡ true → IsInOrder falls ns → IsLeast k ns → Has (after_part_event ns (ReplaceParts at taken 0)) k
removed_has falls at taken k ns h o l =
    let s = range_of at (at + taken) ns in
    let P : List ℕ → Type 0 = λ ys. Has ys k in
    let order : IsInOrder falls s = order_drawn falls (drawn_take (at + taken - at) (drop at ns)) (order_drawn falls (drawn_drop at ns) o) in
    subst P (sym (removal_is at taken (joined_numbers s ns))) (shared_has falls at taken k ns s refl order h (joined_unites (λ xs. Has xs k) at (at + taken) ns (least_unites k ns l)))

kept_has : (falls : Bool) (at taken given k : ℕ) (ns : List ℕ) → (0 < given) ⊎ IsTrue (shares_part at taken ns) → IsInOrder falls ns → IsLeast k ns → Has (after_part_event ns (ReplaceParts at taken given)) k
kept_has falls at taken zero k ns g o l = elim g [ inl some ↦ absurd (omega arith) | inr shares ↦ removed_has falls at taken k ns shares o l ]
kept_has falls at taken (suc given) k ns g o l = replace_has falls at taken (suc given) k ns (omega arith) o l

-- the least number is there after one event
event_has_least : (e : PartEvent) (falls : Bool) (k : ℕ) (ns : List ℕ) → IsKept e ns → IsInOrder falls ns → IsLeast k ns → after_part_event ns e ≢ [] → Has (after_part_event ns e) k
event_has_least (JoinParts from to) falls k ns g o l some = joined_unites (λ xs. Has xs k) from to ns (least_unites k ns l)
event_has_least (ReplaceParts at taken given) falls k ns g o l some = kept_has falls at taken given k ns g o l
event_has_least (DeletePart at) falls k ns g o l some = deleted_has at k ns (drop at ns) refl l some
event_has_least (CirclePart beside) falls k ns g o l some = doubled_has beside k ns l.among
event_has_least ReverseParts falls k ns g o l some = has_reverse k ns ∙ l.among

pub no_numbers : (ns : List ℕ) → BringsNone [] ns → ns ≡ []
no_numbers [] h = refl
no_numbers (n ∷ ns) h = let none = h n (has_here n ns) in cc

pub keeps_least : KeepsLeast
keeps_least [] falls ns k g o l some = l
keeps_least (e ∷ es) falls ns k g o l some =
    let mid = after_part_event ns e in
    let left : mid ≢ [] = λ none. some (ap (after_part_events es) none ∙ no_numbers (after_part_events es []) (keeps_numbers es [])) in
    keeps_least es (falls_after falls (e ∷ [])) mid k g.1 (event_keeps_order e falls ns o)
    (record { among = event_has_least e falls k ns g.0 o l left; below = λ n h. l.below n (event_keeps_numbers e ns n h) })
    some

pub in_order : (falls : Bool) (ns : List ℕ) → IsInOrder falls ns → IsOrdered ns
in_order false ns h = inl h
in_order true ns h = inr h

pub origins_keep_order : OriginsKeepOrder
origins_keep_order asks level es falls os mono plain o =
    subst (IsInOrder (falls_after falls (parts_of level es))) (sym (origins_are_parts asks level es os mono plain (in_order falls (numbers os) o))) (keeps_order (parts_of level es) falls (numbers os) o)

pub no_origins : (os : List Origin) → numbers os ≡ [] → os ≡ []
no_origins [] e = refl
no_origins (o ∷ os) e = cc

pub origins_keep_least : OriginsKeepLeast
origins_keep_least asks level es falls os m mono plain giving o l some =
    let same = origins_are_parts asks level es os mono plain (in_order falls (numbers os) o) in
    subst (IsLeast m) (sym same) (keeps_least (parts_of level es) falls (numbers os) m giving o l (λ none. some (no_origins (origins_after asks level es os) (same ∙ none))))
