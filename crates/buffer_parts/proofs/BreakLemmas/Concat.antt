-- Events decide nothing by UNSAFE_TO_CONCAT.
use Rattle.std.proofs.Common.{ℕ, zero, suc, ◌≡◌, ◌+◌, ◌-◌, ◌==◌, ◌&&◌, ◌||◌, not, nat_lt, max, Bool, true, false, if◌then◌else◌, List, [], ◌∷◌, ◌++◌, Option, Some, None, length, map, take, drop, reverse, slice_get, refl, ap, sym, subst, ◌∙◌}
use Rattle.std.specs.Prelude.{slice_range, unwrap_or}
use Rattle.std.specs.List.{list_all}
use Rattle.std.specs.Int.RustNames.{bit_and, bit_or}
use Rattle.std.proofs.lemmas.Nat.{and_assoc, and_or_apart}
use Rattle.std.proofs.lemmas.List.{reverse-append}
use Rattle.buffer_glyphs.specs.declared.level.BufferClusterLevel.{BufferClusterLevel}
use Rattle.buffer_glyphs.specs.Levels.{grapheme_manner}
use Rattle.buffer_glyphs.specs.Parts.{range_of, first_of, last_of, is_number, or, copies, elements_replaced}
use Rattle.buffer_glyphs.specs.Merges.{least_number, merged_number}
use Rattle.buffer_glyphs.specs.Origins.{Origin, Asks, numbers, cast, origins_merged, flags_added, added_outside, with_range_changed, origins_marked, Manner, Unites, Marks, Keeps, InList, manner, origins_merged_as, end_cast, alone_deleted, one_deleted, first_deleted, origins_deleted, picked_elements, with_range_arranged, Span, spans, spans_merged, flags_at, first_circled, with_first_changed, with_last_changed, is_unsafe, unsafe_flags, flags_for, other_cluster, origins_handed_before, origins_handed_after, origins_handed_if, tatweel_settled, concat_settled, settled_flags, run_flags, spread_flags, origins_spread_after, without_marks}
use Rattle.buffer_glyphs.specs.Events.{Event, Merge, MergeGrapheme, Replace, Circle, Delete, Move, Arrange, Sort, Reverse, Break, Concat, Tatweel, StrictBreak, Spread, Reset, concat_marked, tatweel_marked, strictly_marked, origins_after_event}
use Rattle.buffer_glyphs.specs.Lemmas.Origins.{cut_in_three}
use Rattle.buffer_parts.specs.Breaks.Unsafe.{is_unsafe_of, has_unsafe_of}
use Rattle.buffer_parts.specs.Breaks.Concat.{SameButConcat}
use Rattle.buffer_parts.specs.Breaks.Laws.{ConcatIsApart}
use Rattle.buffer_facts.proofs.Bits.{and_of_or as and_or}

-- ---- one origin

abbrev pub IsLike : Origin → Origin → Type 0
IsLike o q = (o.cluster ≡ q.cluster) × (bit_and o.flags 5 ≡ bit_and q.flags 5)

like_unsafe : (a b : ℕ) → bit_and a 5 ≡ bit_and b 5 → is_unsafe a ≡ is_unsafe b
like_unsafe a b e = ap (λ n. not (n == 0)) e

like_or : (a b x y : ℕ) → bit_and a 5 ≡ bit_and b 5 → bit_and x 5 ≡ bit_and y 5 → bit_and (bit_or a x) 5 ≡ bit_and (bit_or b y) 5
like_or a b x y e f = and_or 5 a x ∙ ap (λ n. bit_or n (bit_and x 5)) e ∙ ap (λ n. bit_or (bit_and b 5) n) f ∙ sym (and_or 5 b y)

like_added : (x y : ℕ) (o q : Origin) → bit_and x 5 ≡ bit_and y 5 → IsLike o q → IsLike (flags_added x o) (flags_added y q)
like_added x y o q e l = (l.0, like_or o.flags q.flags x y l.1 e)

-- a test of clusters chooses alike
like_if : (s t : Bool) (a b x y : Origin) → s ≡ t → IsLike a b → IsLike x y → IsLike (if s then a else x) (if t then b else y)
like_if true true a b x y e l k = l
like_if false false a b x y e l k = k
like_if true false a b x y e l k = cc
like_if false true a b x y e l k = cc

-- ---- lists

pub same_numbers : (os qs : List Origin) → SameButConcat os qs → numbers os ≡ numbers qs
same_numbers [] [] h = refl
same_numbers [] (q ∷ qs) h = absurd h
same_numbers (o ∷ os) [] h = absurd h
same_numbers (o ∷ os) (q ∷ qs) h = rw (h.0, same_numbers os qs h.2) refl

pub same_refl : (os : List Origin) → SameButConcat os os
same_refl [] = tt
same_refl (o ∷ os) = (refl, refl, same_refl os)

pub same_both : (os qs xs ys : List Origin) → SameButConcat os qs → SameButConcat xs ys → SameButConcat (os ++ xs) (qs ++ ys)
same_both [] [] xs ys h k = k
same_both [] (q ∷ qs) xs ys h k = absurd h
same_both (o ∷ os) [] xs ys h k = absurd h
same_both (o ∷ os) (q ∷ qs) xs ys h k = (h.0, h.1, same_both os qs xs ys h.2 k)

same_take : (n : ℕ) (os qs : List Origin) → SameButConcat os qs → SameButConcat (take n os) (take n qs)
same_take zero os qs h = tt
same_take (suc n) [] [] h = tt
same_take (suc n) [] (q ∷ qs) h = absurd h
same_take (suc n) (o ∷ os) [] h = absurd h
same_take (suc n) (o ∷ os) (q ∷ qs) h = (h.0, h.1, same_take n os qs h.2)

same_drop : (n : ℕ) (os qs : List Origin) → SameButConcat os qs → SameButConcat (drop n os) (drop n qs)
same_drop zero os qs h = h
same_drop (suc n) [] [] h = tt
same_drop (suc n) [] (q ∷ qs) h = absurd h
same_drop (suc n) (o ∷ os) [] h = absurd h
same_drop (suc n) (o ∷ os) (q ∷ qs) h = same_drop n os qs h.2

same_map : (f g : Origin → Origin) (os qs : List Origin) → ((o q : Origin) → IsLike o q → IsLike (f o) (g q)) → SameButConcat os qs → SameButConcat (map f os) (map g qs)
same_map f g [] [] like h = tt
same_map f g [] (q ∷ qs) like h = absurd h
same_map f g (o ∷ os) [] like h = absurd h
same_map f g (o ∷ os) (q ∷ qs) like h = let one = like o q (h.0, h.1) in (one.0, one.1, same_map f g os qs like h.2)

same_changed : (f g : Origin → Origin) (from to : ℕ) (os qs : List Origin) → ((o q : Origin) → IsLike o q → IsLike (f o) (g q)) → SameButConcat os qs → SameButConcat (with_range_changed f from to os) (with_range_changed g from to qs)
same_changed f g from to os qs like h =
    same_both (take from os ++ map f (slice_range os from to)) (take from qs ++ map g (slice_range qs from to)) (drop (max from to) os) (drop (max from to) qs)
    (same_both (take from os) (take from qs) (map f (slice_range os from to)) (map g (slice_range qs from to)) (same_take from os qs h)
    (same_map f g (slice_range os from to) (slice_range qs from to) like (same_take (to - from) (drop from os) (drop from qs) (same_drop from os qs h))))
    (same_drop (max from to) os qs h)

same_reverse : (os qs : List Origin) → SameButConcat os qs → SameButConcat (reverse os) (reverse qs)
same_reverse [] [] h = tt
same_reverse [] (q ∷ qs) h = absurd h
same_reverse (o ∷ os) [] h = absurd h
same_reverse (o ∷ os) (q ∷ qs) h =
    let turned = same_both (reverse os) (reverse qs) (o ∷ []) (q ∷ []) (same_reverse os qs h.2) (h.0, h.1, tt) in
    subst (λ (ys : List Origin). SameButConcat (reverse (o ∷ os)) ys) (sym (reverse-append (q ∷ []) qs)) (subst (λ (xs : List Origin). SameButConcat xs (reverse qs ++ q ∷ [])) (sym (reverse-append (o ∷ []) os)) turned)

got_like : (xs ys : List Origin) (i : ℕ) (o q : Origin) → SameButConcat xs ys → IsLike o q → IsLike (unwrap_or (slice_get xs i) o) (unwrap_or (slice_get ys i) q)
got_like [] [] i o q h l = l
got_like [] (y ∷ ys) i o q h l = absurd h
got_like (x ∷ xs) [] i o q h l = absurd h
got_like (x ∷ xs) (y ∷ ys) zero o q h l = (h.0, h.1)
got_like (x ∷ xs) (y ∷ ys) (suc i) o q h l = got_like xs ys i o q h.2 l

same_picked : (xs ys : List Origin) (order : List ℕ) (os qs : List Origin) → SameButConcat xs ys → SameButConcat os qs → SameButConcat (picked_elements xs order os) (picked_elements ys order qs)
same_picked xs ys [] os qs h k = k
same_picked xs ys (i ∷ order) [] [] h k = tt
same_picked xs ys (i ∷ order) [] (q ∷ qs) h k = absurd k
same_picked xs ys (i ∷ order) (o ∷ os) [] h k = absurd k
same_picked xs ys (i ∷ order) (o ∷ os) (q ∷ qs) h k = let one = got_like xs ys i o q h (k.0, k.1) in (one.0, one.1, same_picked xs ys order os qs h k.2)

same_arranged : (from : ℕ) (order : List ℕ) (os qs : List Origin) → SameButConcat os qs → SameButConcat (with_range_arranged from order os) (with_range_arranged from order qs)
same_arranged from order os qs h =
    let rest = same_drop from os qs h in
    same_both (take from os) (take from qs) (picked_elements (take (length order) (drop from os)) order (drop from os)) (picked_elements (take (length order) (drop from qs)) order (drop from qs))
    (same_take from os qs h) (same_picked (take (length order) (drop from os)) (take (length order) (drop from qs)) order (drop from os) (drop from qs) (same_take (length order) (drop from os) (drop from qs) rest) rest)

-- ---- merges and flagged ranges

like_outside : (bits low : ℕ) (o q : Origin) → IsLike o q → IsLike (added_outside bits low o) (added_outside bits low q)
like_outside bits low o q l = like_if (o.cluster == low) (q.cluster == low) o q (flags_added bits o) (flags_added bits q) (ap (λ n. n == low) l.0) l (like_added bits bits o q refl l)

same_marked : (bits from to : ℕ) (os qs : List Origin) → SameButConcat os qs → SameButConcat (origins_marked bits from to os) (origins_marked bits from to qs)
same_marked bits from to os qs h =
    let low = least_number (range_of from to (numbers os)) in
    subst (λ (ns : List ℕ). SameButConcat (origins_marked bits from to os) (with_range_changed (added_outside bits (least_number (range_of from to ns))) from to qs)) (same_numbers os qs h)
    (same_changed (added_outside bits low) (added_outside bits low) from to os qs (λ o q l. like_outside bits low o q l) h)

like_cast : (c flags other : ℕ) (o q : Origin) → bit_and flags 5 ≡ bit_and other 5 → IsLike o q → IsLike (cast c flags o) (cast c other q)
like_cast c flags other o q e l = like_if (o.cluster == c) (q.cluster == c) o q (record { cluster = c; flags = flags }) (record { cluster = c; flags = other }) (ap (λ n. n == c) l.0) l (refl, e)

same_merged : (m : Manner) (from to : ℕ) (os qs : List Origin) → SameButConcat os qs → SameButConcat (origins_merged_as m from to os) (origins_merged_as m from to qs)
same_merged Unites from to os qs h =
    let range = range_of from to (numbers os) in
    subst (λ (ns : List ℕ). SameButConcat (origins_merged range os) (origins_merged (range_of from to ns) qs)) (same_numbers os qs h)
    (same_map (λ (o : Origin). cast (merged_number range o.cluster) 0 o) (λ (o : Origin). cast (merged_number range o.cluster) 0 o) os qs
    (λ o q l. subst (λ n. IsLike (cast (merged_number range o.cluster) 0 o) (cast (merged_number range n) 0 q)) l.0 (like_cast (merged_number range o.cluster) 0 0 o q refl l)) h)
same_merged Marks from to os qs h = same_marked 3 from to os qs h
same_merged Keeps from to os qs h = h

same_spans : (m : Manner) (at : ℕ) (ss : List Span) (os qs : List Origin) → SameButConcat os qs → SameButConcat (spans_merged m at ss os) (spans_merged m at ss qs)
same_spans m at [] os qs h = h
same_spans m at (s ∷ ss) os qs h = same_spans m at ss (origins_merged_as m (at + s.from) (at + s.to) os) (origins_merged_as m (at + s.from) (at + s.to) qs) (same_merged m (at + s.from) (at + s.to) os qs h)

-- ---- what leaves

like_choice : (s t : Bool) (a b x y : ℕ) → s ≡ t → bit_and a 5 ≡ bit_and b 5 → bit_and x 5 ≡ bit_and y 5 → bit_and (if s then a else x) 5 ≡ bit_and (if t then b else y) 5
like_choice true true a b x y e l k = l
like_choice false false a b x y e l k = k
like_choice true false a b x y e l k = cc
like_choice false true a b x y e l k = cc

same_choice : (s t : Bool) (a b x y : List Origin) → s ≡ t → SameButConcat a b → SameButConcat x y → SameButConcat (if s then a else x) (if t then b else y)
same_choice true true a b x y e l k = l
same_choice false false a b x y e l k = k
same_choice true false a b x y e l k = cc
same_choice false true a b x y e l k = cc

same_unsafe : (c : ℕ) (xs ys : List Origin) → SameButConcat xs ys → bit_and (unsafe_flags c xs) 5 ≡ bit_and (unsafe_flags c ys) 5
same_unsafe c [] [] h = refl
same_unsafe c [] (y ∷ ys) h = absurd h
same_unsafe c (x ∷ xs) [] h = absurd h
same_unsafe c (x ∷ xs) (y ∷ ys) h =
    let rest = same_unsafe c xs ys h.2 in
    like_choice (x.cluster == c && is_unsafe x.flags) (y.cluster == c && is_unsafe y.flags) (bit_or x.flags (unsafe_flags c xs)) (bit_or y.flags (unsafe_flags c ys)) (unsafe_flags c xs) (unsafe_flags c ys)
    (rw (h.0, like_unsafe x.flags y.flags h.1) refl) (like_or x.flags y.flags (unsafe_flags c xs) (unsafe_flags c ys) h.1 rest) rest

-- whether one of a cluster is unsafe to break
pub same_any : (c : ℕ) (os qs : List Origin) → SameButConcat os qs → has_unsafe_of c os ≡ has_unsafe_of c qs
same_any c [] [] h = refl
same_any c [] (q ∷ qs) h = absurd h
same_any c (o ∷ os) [] h = absurd h
same_any c (o ∷ os) (q ∷ qs) h =
    let here : is_unsafe_of c o ≡ is_unsafe_of c q = rw (h.0, like_unsafe o.flags q.flags h.1) refl in
    rw (here, same_any c os qs h.2) refl

same_for : (p r : Option ℕ) (xs ys : List Origin) → p ≡ r → SameButConcat xs ys → bit_and (flags_for p xs) 5 ≡ bit_and (flags_for r ys) 5
same_for p r xs ys e h = subst (λ (q : Option ℕ). bit_and (flags_for p xs) 5 ≡ bit_and (flags_for q ys) 5) e (by_number p)
  where
    by_number : (q : Option ℕ) → bit_and (flags_for q xs) 5 ≡ bit_and (flags_for q ys) 5
    by_number None = refl
    by_number (Some c) = same_unsafe c xs ys h

pub same_length : (os qs : List Origin) → SameButConcat os qs → length os ≡ length qs
same_length [] [] h = refl
same_length [] (q ∷ qs) h = absurd h
same_length (o ∷ os) [] h = absurd h
same_length (o ∷ os) (q ∷ qs) h = ap suc (same_length os qs h.2)

same_end_changed : (f g : Origin → Origin) (os qs : List Origin) → ((o q : Origin) → IsLike o q → IsLike (f o) (g q)) → SameButConcat os qs → SameButConcat (with_last_changed f os) (with_last_changed g qs)
same_end_changed f g os qs like h =
    let n = length os - 1 in
    subst (λ m. SameButConcat (with_last_changed f os) (take (m - 1) qs ++ map g (drop (m - 1) qs))) (same_length os qs h)
    (same_both (take n os) (take n qs) (map f (drop n os)) (map g (drop n qs)) (same_take n os qs h) (same_map f g (drop n os) (drop n qs) like (same_drop n os qs h)))

same_first_changed : (f g : Origin → Origin) (os qs : List Origin) → ((o q : Origin) → IsLike o q → IsLike (f o) (g q)) → SameButConcat os qs → SameButConcat (with_first_changed f os) (with_first_changed g qs)
same_first_changed f g os qs like h = same_both (map f (take 1 os)) (map g (take 1 qs)) (drop 1 os) (drop 1 qs) (same_map f g (take 1 os) (take 1 qs) like (same_take 1 os qs h)) (same_drop 1 os qs h)

same_handing : (asked : Bool) (xs ys : List Origin) (seam : ℕ) (os qs : List Origin) → SameButConcat xs ys → SameButConcat os qs → SameButConcat (origins_handed_if asked xs seam os) (origins_handed_if asked ys seam qs)
same_handing false xs ys seam os qs k h = h
same_handing true xs ys seam os qs k h =
    let front = same_take seam os qs h in
    let back = same_drop seam os qs h in
    let old = last_of (numbers (take seam os)) in
    let new = last_of (numbers (take seam qs)) in
    let before : old ≡ new = ap last_of (same_numbers (take seam os) (take seam qs) front) in
    let after : other_cluster old (first_of (numbers (drop seam os))) ≡ other_cluster new (first_of (numbers (drop seam qs))) =
    ap (λ p. other_cluster p (first_of (numbers (drop seam os)))) before ∙ ap (λ (ns : List ℕ). other_cluster new (first_of ns)) (same_numbers (drop seam os) (drop seam qs) back) in
    let a = flags_for old xs in
    let b = flags_for new ys in
    let c = flags_for (other_cluster old (first_of (numbers (drop seam os)))) xs in
    let d = flags_for (other_cluster new (first_of (numbers (drop seam qs)))) ys in
    let first = same_for old new xs ys before k in
    let second = same_for (other_cluster old (first_of (numbers (drop seam os)))) (other_cluster new (first_of (numbers (drop seam qs)))) xs ys after k in
    same_both (origins_handed_before xs (take seam os)) (origins_handed_before ys (take seam qs)) (origins_handed_after xs old (drop seam os)) (origins_handed_after ys new (drop seam qs))
    (same_end_changed (flags_added a) (flags_added b) (take seam os) (take seam qs) (λ o q l. like_added a b o q first l) front)
    (same_first_changed (flags_added c) (flags_added d) (drop seam os) (drop seam qs) (λ o q l. like_added c d o q second l) back)

same_copies : (n : ℕ) (o q : Option Origin) → SameButConcat (copies 1 o) (copies 1 q) → SameButConcat (copies n o) (copies n q)
same_copies n None None h = tt
same_copies n None (Some q) h = absurd h
same_copies n (Some o) None h = absurd h
same_copies zero (Some o) (Some q) h = tt
same_copies (suc n) (Some o) (Some q) h = (h.0, h.1, same_copies n (Some o) (Some q) h)

same_got : (xs ys : List Origin) (i : ℕ) → SameButConcat xs ys → SameButConcat (copies 1 (slice_get xs i)) (copies 1 (slice_get ys i))
same_got [] [] i h = tt
same_got [] (y ∷ ys) i h = absurd h
same_got (x ∷ xs) [] i h = absurd h
same_got (x ∷ xs) (y ∷ ys) zero h = (h.0, h.1, tt)
same_got (x ∷ xs) (y ∷ ys) (suc i) h = same_got xs ys i h.2

same_last : (xs ys : List Origin) → SameButConcat xs ys → SameButConcat (copies 1 (last_of xs)) (copies 1 (last_of ys))
same_last xs ys h = subst (λ n. SameButConcat (copies 1 (last_of xs)) (copies 1 (slice_get ys (n - 1)))) (same_length xs ys h) (same_got xs ys (length xs - 1) h)

same_model : (xs ys os qs : List Origin) → SameButConcat xs ys → SameButConcat os qs → SameButConcat (copies 1 (or (first_of xs) (last_of os))) (copies 1 (or (first_of ys) (last_of qs)))
same_model [] [] os qs h k = same_last os qs k
same_model [] (y ∷ ys) os qs h k = absurd h
same_model (x ∷ xs) [] os qs h k = absurd h
same_model (x ∷ xs) (y ∷ ys) os qs h k = (h.0, h.1, tt)

same_replaced : (at taken given : ℕ) (os qs : List Origin) → SameButConcat os qs → SameButConcat (elements_replaced at taken given os) (elements_replaced at taken given qs)
same_replaced at taken given os qs h =
    let model = or (first_of (drop at os)) (last_of (take at os)) in
    let other = or (first_of (drop at qs)) (last_of (take at qs)) in
    same_both (take at os ++ copies given model) (take at qs ++ copies given other) (drop (at + taken) os) (drop (at + taken) qs)
    (same_both (take at os) (take at qs) (copies given model) (copies given other) (same_take at os qs h)
    (same_copies given model other (same_model (drop at os) (drop at qs) (take at os) (take at qs) (same_drop at os qs h) (same_take at os qs h))))
    (same_drop (at + taken) os qs h)

same_all : (p : ℕ) (os qs : List Origin) → SameButConcat os qs → list_all (λ (k : Origin). k.cluster == p) os ≡ list_all (λ (k : Origin). k.cluster == p) qs
same_all p [] [] h = refl
same_all p [] (q ∷ qs) h = absurd h
same_all p (o ∷ os) [] h = absurd h
same_all p (o ∷ os) (q ∷ qs) h = rw (h.0, same_all p os qs h.2) refl

same_end : (p : ℕ) (x y : Origin) (os qs : List Origin) → IsLike x y → SameButConcat os qs → SameButConcat (end_cast p x os) (end_cast p y qs)
same_end p x y [] [] l h = tt
same_end p x y [] (q ∷ qs) l h = absurd h
same_end p x y (o ∷ os) [] l h = absurd h
same_end p x y (o ∷ os) (q ∷ qs) l h =
    same_choice (list_all (λ (k : Origin). k.cluster == p) (o ∷ os)) (list_all (λ (k : Origin). k.cluster == p) (q ∷ qs)) (map (cast x.cluster x.flags) (o ∷ os)) (map (cast y.cluster y.flags) (q ∷ qs)) (o ∷ end_cast p x os) (q ∷ end_cast p y qs)
    (same_all p (o ∷ os) (q ∷ qs) h)
    (same_map (cast x.cluster x.flags) (cast y.cluster y.flags) (o ∷ os) (q ∷ qs) (λ a b k. subst (λ n. IsLike (cast x.cluster x.flags a) (cast n y.flags b)) l.0 (like_cast x.cluster x.flags y.flags a b l.1 k)) h)
    (h.0, h.1, same_end p x y os qs l h.2)

same_alone : (level : BufferClusterLevel) (before : Option ℕ) (os qs : List Origin) (x y : Origin) (xs ys : List Origin) → SameButConcat os qs → IsLike x y → SameButConcat xs ys
    → SameButConcat (alone_deleted level before os x xs) (alone_deleted level before qs y ys)
same_alone level (Some p) os qs x y xs ys h l k =
    same_both (if nat_lt x.cluster p then end_cast p x os else os) (if nat_lt y.cluster p then end_cast p y qs else qs) xs ys
    (same_choice (nat_lt x.cluster p) (nat_lt y.cluster p) (end_cast p x os) (end_cast p y qs) os qs (ap (λ n. nat_lt n p) l.0) (same_end p x y os qs l h) h) k
same_alone level None os qs x y xs ys h l k =
    let m = manner InList level in
    same_both os qs (drop 1 (origins_merged_as m 0 2 (x ∷ xs))) (drop 1 (origins_merged_as m 0 2 (y ∷ ys))) h
    (same_drop 1 (origins_merged_as m 0 2 (x ∷ xs)) (origins_merged_as m 0 2 (y ∷ ys)) (same_merged m 0 2 (x ∷ xs) (y ∷ ys) (l.0, l.1, k)))

same_one : (level : BufferClusterLevel) (os qs : List Origin) (x y : Origin) (xs ys : List Origin) → SameButConcat os qs → IsLike x y → SameButConcat xs ys → SameButConcat (one_deleted level os x xs) (one_deleted level qs y ys)
same_one level os qs x y xs ys h l k =
    let before : last_of (numbers os) ≡ last_of (numbers qs) = ap last_of (same_numbers os qs h) in
    let after : first_of (numbers xs) ≡ first_of (numbers ys) = ap first_of (same_numbers xs ys k) in
    let test : (is_number (last_of (numbers os)) x.cluster || is_number (first_of (numbers xs)) x.cluster) ≡ (is_number (last_of (numbers qs)) y.cluster || is_number (first_of (numbers ys)) y.cluster) = rw (before, after, l.0) refl in
    same_choice (is_number (last_of (numbers os)) x.cluster || is_number (first_of (numbers xs)) x.cluster) (is_number (last_of (numbers qs)) y.cluster || is_number (first_of (numbers ys)) y.cluster)
    (os ++ xs) (qs ++ ys) (alone_deleted level (last_of (numbers os)) os x xs) (alone_deleted level (last_of (numbers qs)) qs y ys) test (same_both os qs xs ys h k)
    (subst (λ b. SameButConcat (alone_deleted level (last_of (numbers os)) os x xs) (alone_deleted level b qs y ys)) before (same_alone level (last_of (numbers os)) os qs x y xs ys h l k))

same_first : (level : BufferClusterLevel) (os qs xs ys : List Origin) → SameButConcat os qs → SameButConcat xs ys → SameButConcat (first_deleted level os xs) (first_deleted level qs ys)
same_first level os qs [] [] h k = h
same_first level os qs [] (y ∷ ys) h k = absurd k
same_first level os qs (x ∷ xs) [] h k = absurd k
same_first level os qs (x ∷ xs) (y ∷ ys) h k = same_one level os qs x y xs ys h (k.0, k.1) k.2

-- ---- circles

same_flags : (at : ℕ) (os qs : List Origin) → SameButConcat os qs → bit_and (flags_at at os) 5 ≡ bit_and (flags_at at qs) 5
same_flags at [] [] h = refl
same_flags at [] (q ∷ qs) h = absurd h
same_flags at (o ∷ os) [] h = absurd h
same_flags zero (o ∷ os) (q ∷ qs) h = h.1
same_flags (suc at) (o ∷ os) (q ∷ qs) h = same_flags at os qs h.2

same_beside : (after : Bool) (x y : ℕ) (os qs : List Origin) → bit_and x 5 ≡ bit_and y 5 → SameButConcat os qs → SameButConcat (first_circled after x os) (first_circled after y qs)
same_beside after x y [] [] e h = tt
same_beside after x y [] (q ∷ qs) e h = absurd h
same_beside after x y (o ∷ os) [] e h = absurd h
same_beside true x y (o ∷ os) (q ∷ qs) e h = (h.0, h.1, (h.0, e, h.2))
same_beside false x y (o ∷ os) (q ∷ qs) e h = (h.0, e, (h.0, h.1, h.2))

-- ---- a spread

same_run : (c d : ℕ) (os qs : List Origin) → c ≡ d → SameButConcat os qs → bit_and (run_flags c os) 5 ≡ bit_and (run_flags d qs) 5
same_run c d [] [] e h = refl
same_run c d [] (q ∷ qs) e h = absurd h
same_run c d (o ∷ os) [] e h = absurd h
same_run c d (o ∷ os) (q ∷ qs) e h = by_test (o.cluster == c) (q.cluster == d) (rw (h.0, e) refl) (same_run c d os qs e h.2)
  where
    by_test : (s t : Bool) → s ≡ t → bit_and (run_flags c os) 5 ≡ bit_and (run_flags d qs) 5 → bit_and (if s then bit_or o.flags (run_flags c os) else 0) 5 ≡ bit_and (if t then bit_or q.flags (run_flags d qs) else 0) 5
    by_test true true f rest = like_or o.flags q.flags (run_flags c os) (run_flags d qs) h.1 rest
    by_test false false f rest = refl
    by_test true false f rest = cc
    by_test false true f rest = cc

one_of_five : (m : ℕ) → bit_and (bit_and m 5) 1 ≡ bit_and m 1
one_of_five m = and_assoc 1 m 5

four_of_five : (m : ℕ) → bit_and (bit_and m 5) 4 ≡ bit_and m 4
four_of_five m = and_assoc 4 m 5

same_tatweel : (asked : Bool) (m n : ℕ) → bit_and m 5 ≡ bit_and n 5 → bit_and (tatweel_settled asked m) 5 ≡ bit_and (tatweel_settled asked n) 5
same_tatweel false m n e = e
same_tatweel true m n e = by_test (bit_and m 1 == 1) (bit_and n 1 == 1) (bit_and m 4 == 4) (bit_and n 4 == 4) (ap (λ k. k == 1) one) (ap (λ k. k == 4) four)
  where
    one : bit_and m 1 ≡ bit_and n 1
    one = sym (one_of_five m) ∙ ap (λ k. bit_and k 1) e ∙ one_of_five n

    four : bit_and m 4 ≡ bit_and n 4
    four = sym (four_of_five m) ∙ ap (λ k. bit_and k 4) e ∙ four_of_five n

    three : bit_and (bit_and m 3) 5 ≡ bit_and (bit_and n 3) 5
    three = and_assoc 5 m 3 ∙ one ∙ sym (and_assoc 5 n 3)

    by_test : (s t u v : Bool) → s ≡ t → u ≡ v → bit_and (if s then bit_and m 3 else if u then bit_or m 3 else m) 5 ≡ bit_and (if t then bit_and n 3 else if v then bit_or n 3 else n) 5
    by_test true true u v f g = three
    by_test false false true true f g = like_or m n 3 3 e refl
    by_test false false false false f g = e
    by_test true false u v f g = cc
    by_test false true u v f g = cc
    by_test false false true false f g = cc
    by_test false false false true f g = cc

same_settled : (asks : Asks) (concat : Bool) (m n : ℕ) → bit_and m 5 ≡ bit_and n 5 → bit_and (settled_flags asks m) 5 ≡ bit_and (settled_flags (record asks { concat = concat }) n) 5
same_settled asks concat m n e = settled asks.concat (tatweel_settled asks.tatweel m) ∙ same_tatweel asks.tatweel m n e ∙ sym (settled concat (tatweel_settled asks.tatweel n))
  where
    settled : (b : Bool) (k : ℕ) → bit_and (concat_settled b k) 5 ≡ bit_and k 5
    settled true k = refl
    settled false k = and_assoc 5 k 5

abbrev MayBeLike : Option Origin → Option Origin → Type 0
MayBeLike None None = Unit {0}
MayBeLike None (Some q) = ⊥
MayBeLike (Some p) None = ⊥
MayBeLike (Some p) (Some q) = IsLike p q

same_spread : (asks : Asks) (concat : Bool) (before other : Option Origin) (os qs : List Origin) → MayBeLike before other → SameButConcat os qs
    → SameButConcat (origins_spread_after asks before os) (origins_spread_after (record asks { concat = concat }) other qs)
same_spread asks concat before other [] [] b h = tt
same_spread asks concat before other [] (q ∷ qs) b h = absurd h
same_spread asks concat before other (o ∷ os) [] b h = absurd h
same_spread asks concat before other (o ∷ os) (q ∷ qs) b h =
    let x = settled_flags asks (run_flags o.cluster (o ∷ os)) in
    let y = settled_flags (record asks { concat = concat }) (run_flags q.cluster (q ∷ qs)) in
    let run : bit_and x 5 ≡ bit_and y 5 = same_settled asks concat (run_flags o.cluster (o ∷ os)) (run_flags q.cluster (q ∷ qs)) (same_run o.cluster q.cluster (o ∷ os) (q ∷ qs) h.0 h) in
    let here : bit_and (spread_flags before o.cluster x) 5 ≡ bit_and (spread_flags other q.cluster y) 5 = by_before before other x y b run in
    (h.0, here, same_spread asks concat (Some (record { cluster = o.cluster; flags = spread_flags before o.cluster x })) (Some (record { cluster = q.cluster; flags = spread_flags other q.cluster y })) os qs (h.0, here) h.2)
  where
    by_before : (p r : Option Origin) (x y : ℕ) → MayBeLike p r → bit_and x 5 ≡ bit_and y 5 → bit_and (spread_flags p o.cluster x) 5 ≡ bit_and (spread_flags r q.cluster y) 5
    by_before None None x y l e = e
    by_before None (Some r) x y l e = absurd l
    by_before (Some p) None x y l e = absurd l
    by_before (Some p) (Some r) x y l e = by_test (p.cluster == o.cluster) (r.cluster == q.cluster) (rw (l.0, h.0) refl)
      where
        by_test : (s t : Bool) → s ≡ t → bit_and (if s then p.flags else x) 5 ≡ bit_and (if t then r.flags else y) 5
        by_test true true f = l.1
        by_test false false f = e
        by_test true false f = cc
        by_test false true f = cc

same_cleared : (os qs : List Origin) → SameButConcat os qs → SameButConcat (without_marks os) (without_marks qs)
same_cleared os qs h = same_map (λ (o : Origin). record { cluster = o.cluster; flags = 0 }) (λ (o : Origin). record { cluster = o.cluster; flags = 0 }) os qs (λ o q l. (l.0, refl)) h

-- ---- requests

none_changed : (xs : List Origin) → map (λ (o : Origin). o) xs ≡ xs
none_changed [] = refl
none_changed (x ∷ xs) = rw (none_changed xs) refl

unchanged : (from to : ℕ) (xs : List Origin) → with_range_changed (λ (o : Origin). o) from to xs ≡ xs
unchanged from to xs = ap (λ (ys : List Origin). take from xs ++ ys ++ drop (max from to) xs) (none_changed (slice_range xs from to)) ∙ cut_in_three from to xs

two_apart : (a b : ℕ) → bit_and a 5 ≡ bit_and b 5 → bit_and (bit_or a 2) 5 ≡ bit_and b 5
two_apart a b e = and_or_apart 5 a 2 refl ∙ e

pub same_concat : (asked other : Bool) (from to : ℕ) (os qs : List Origin) → SameButConcat os qs → SameButConcat (concat_marked asked from to os) (concat_marked other from to qs)
same_concat true true from to os qs h = same_changed (flags_added 2) (flags_added 2) from to os qs (λ o q l. like_added 2 2 o q refl l) h
same_concat false false from to os qs h = h
same_concat true false from to os qs h = subst (λ (ys : List Origin). SameButConcat (concat_marked true from to os) ys) (unchanged from to qs) (same_changed (flags_added 2) (λ (q : Origin). q) from to os qs (λ o q l. (l.0, two_apart o.flags q.flags l.1)) h)
same_concat false true from to os qs h = subst (λ (xs : List Origin). SameButConcat xs (concat_marked true from to qs)) (unchanged from to os) (same_changed (λ (o : Origin). o) (flags_added 2) from to os qs (λ o q l. (l.0, sym (two_apart q.flags o.flags (sym l.1)))) h)

same_asked_tatweel : (asked : Bool) (from to : ℕ) (os qs : List Origin) → SameButConcat os qs → SameButConcat (tatweel_marked asked from to os) (tatweel_marked asked from to qs)
same_asked_tatweel true from to os qs h = same_marked 4 from to os qs h
same_asked_tatweel false from to os qs h = same_marked 3 from to os qs h

same_strictly : (asked : Bool) (from to : ℕ) (os qs : List Origin) → SameButConcat os qs → SameButConcat (strictly_marked asked from to os) (strictly_marked asked from to qs)
same_strictly true from to os qs h = same_marked 3 from to os qs h
same_strictly false from to os qs h = h

-- ---- events

pub same_event : (asks : Asks) (concat : Bool) (level : BufferClusterLevel) (e : Event) (os qs : List Origin) → SameButConcat os qs → SameButConcat (origins_after_event asks level os e) (origins_after_event (record asks { concat = concat }) level qs e)
same_event asks concat level (Merge how from to) os qs h = same_merged (manner how level) from to os qs h
same_event asks concat level (MergeGrapheme from to) os qs h = same_merged (grapheme_manner level) from to os qs h
same_event asks concat level (Replace at taken given) os qs h =
    let m = manner InList level in
    let xs = origins_merged_as m at (at + taken) os in
    let ys = origins_merged_as m at (at + taken) qs in
    let mid = same_merged m at (at + taken) os qs h in
    same_handing asks.breaks (take taken (drop at xs)) (take taken (drop at ys)) (at + given) (elements_replaced at taken given xs) (elements_replaced at taken given ys)
    (same_take taken (drop at xs) (drop at ys) (same_drop at xs ys mid)) (same_replaced at taken given xs ys mid)
same_event asks concat level (Circle after beside like) os qs h =
    same_both (take beside os) (take beside qs) (first_circled after (flags_at like os) (drop beside os)) (first_circled after (flags_at like qs) (drop beside qs))
    (same_take beside os qs h) (same_beside after (flags_at like os) (flags_at like qs) (drop beside os) (drop beside qs) (same_flags like os qs h) (same_drop beside os qs h))
same_event asks concat level (Delete at) os qs h =
    same_handing asks.breaks (take 1 (drop at os)) (take 1 (drop at qs)) at (origins_deleted level at os) (origins_deleted level at qs)
    (same_take 1 (drop at os) (drop at qs) (same_drop at os qs h)) (same_first level (take at os) (take at qs) (drop at os) (drop at qs) (same_take at os qs h) (same_drop at os qs h))
same_event asks concat level (Move how from order) os qs h =
    let m = manner how level in
    same_arranged from order (origins_merged_as m from (from + length order) os) (origins_merged_as m from (from + length order) qs) (same_merged m from (from + length order) os qs h)
same_event asks concat level (Arrange from order) os qs h = same_arranged from order os qs h
same_event asks concat level (Sort from order) os qs h =
    let m = manner InList level in
    same_arranged from order (spans_merged m from (spans order) os) (spans_merged m from (spans order) qs) (same_spans m from (spans order) os qs h)
same_event asks concat level Reverse os qs h = same_reverse os qs h
same_event asks concat level (Break from to) os qs h = same_marked 3 from to os qs h
same_event asks concat level (Concat from to) os qs h = same_concat asks.concat concat from to os qs h
same_event asks concat level (Tatweel from to) os qs h = same_asked_tatweel asks.tatweel from to os qs h
same_event asks concat level (StrictBreak from to) os qs h = same_strictly asks.breaks from to os qs h
same_event asks concat level Spread os qs h = same_spread asks concat None None os qs tt h
same_event asks concat level Reset os qs h = same_cleared os qs h

pub concat_is_apart : ConcatIsApart
concat_is_apart asks concat level [] os qs h = h
concat_is_apart asks concat level (e ∷ es) os qs h = concat_is_apart asks concat level es (origins_after_event asks level os e) (origins_after_event (record asks { concat = concat }) level qs e) (same_event asks concat level e os qs h)
