-- Events that set no SAFE_TO_INSERT_TATWEEL.
use Rattle.std.proofs.Common.{ℕ, zero, suc, ◌≡◌, ◌+◌, ◌-◌, ◌==◌, ◌&&◌, ◌||◌, nat_lt, max, Bool, true, false, if◌then◌else◌, List, [], ◌∷◌, ◌++◌, Option, Some, None, length, map, take, drop, reverse, slice_get, refl, sym, subst, ◌∙◌}
use Rattle.std.specs.Prelude.{slice_range, unwrap_or}
use Rattle.std.specs.List.{list_all}
use Rattle.std.specs.Int.RustNames.{bit_and, bit_or}
use Rattle.std.proofs.lemmas.Nat.{and_assoc}
use Rattle.std.proofs.lemmas.List.{reverse-append}
use Rattle.buffer_glyphs.specs.declared.level.BufferClusterLevel.{BufferClusterLevel}
use Rattle.buffer_glyphs.specs.Levels.{grapheme_manner}
use Rattle.buffer_glyphs.specs.Parts.{range_of, first_of, last_of, is_number, or, copies, elements_replaced}
use Rattle.buffer_glyphs.specs.Merges.{least_number, merged_number}
use Rattle.buffer_glyphs.specs.Origins.{Origin, Asks, numbers, cast, flags_added, added_outside, with_range_changed, origins_marked, Manner, Unites, Marks, Keeps, InList, manner, origins_merged_as, end_cast, alone_deleted, one_deleted, first_deleted, origins_deleted, picked_elements, with_range_arranged, Span, spans, spans_merged, flags_at, first_circled, with_first_changed, with_last_changed, is_unsafe, unsafe_flags, flags_for, other_cluster, origins_handed_before, origins_handed_after, origins_handed_if, tatweel_settled, concat_settled, settled_flags, run_flags, spread_flags, origins_spread_after, without_marks}
use Rattle.buffer_glyphs.specs.Events.{Event, Merge, MergeGrapheme, Replace, Circle, Delete, Move, Arrange, Sort, Reverse, Break, Concat, Tatweel, StrictBreak, Spread, Reset, concat_marked, tatweel_marked, strictly_marked, origins_after_event}
use Rattle.buffer_parts.specs.Breaks.Unsafe.{HaveNoTatweel}
use Rattle.buffer_parts.specs.Breaks.Laws.{NoTatweelStays}
use Rattle.buffer_parts.proofs.BreakLemmas.Flags.{clear_or}
use Rattle.buffer_parts.proofs.BreakLemmas.Spread.{run_clear}

-- an origin without the flag
abbrev pub IsClear : Origin → Type 0
IsClear o = bit_and o.flags 4 ≡ 0

-- ---- lists

both_clear : (xs ys : List Origin) → HaveNoTatweel xs → HaveNoTatweel ys → HaveNoTatweel (xs ++ ys)
both_clear [] ys h k = k
both_clear (x ∷ xs) ys h k = (h.0, both_clear xs ys h.1 k)

take_clear : (n : ℕ) (xs : List Origin) → HaveNoTatweel xs → HaveNoTatweel (take n xs)
take_clear zero xs h = tt
take_clear (suc n) [] h = tt
take_clear (suc n) (x ∷ xs) h = (h.0, take_clear n xs h.1)

drop_clear : (n : ℕ) (xs : List Origin) → HaveNoTatweel xs → HaveNoTatweel (drop n xs)
drop_clear zero xs h = h
drop_clear (suc n) [] h = tt
drop_clear (suc n) (x ∷ xs) h = drop_clear n xs h.1

map_clear : (f : Origin → Origin) (xs : List Origin) → ((o : Origin) → IsClear o → IsClear (f o)) → HaveNoTatweel xs → HaveNoTatweel (map f xs)
map_clear f [] keeps h = tt
map_clear f (x ∷ xs) keeps h = (keeps x h.0, map_clear f xs keeps h.1)

changed_clear : (f : Origin → Origin) (from to : ℕ) (xs : List Origin) → ((o : Origin) → IsClear o → IsClear (f o)) → HaveNoTatweel xs → HaveNoTatweel (with_range_changed f from to xs)
changed_clear f from to xs keeps h =
    both_clear (take from xs ++ map f (slice_range xs from to)) (drop (max from to) xs)
    (both_clear (take from xs) (map f (slice_range xs from to)) (take_clear from xs h) (map_clear f (slice_range xs from to) keeps (range_clear xs)))
    (drop_clear (max from to) xs h)
  where
    range_clear : (ys : List Origin) → HaveNoTatweel (slice_range xs from to)
    range_clear ys = take_clear (to - from) (drop from xs) (drop_clear from xs h)

got_clear : (all : List Origin) (i : ℕ) (o : Origin) → HaveNoTatweel all → IsClear o → IsClear (unwrap_or (slice_get all i) o)
got_clear [] i o h k = k
got_clear (x ∷ all) zero o h k = h.0
got_clear (x ∷ all) (suc i) o h k = got_clear all i o h.1 k

picked_clear : (all : List Origin) (order : List ℕ) (xs : List Origin) → HaveNoTatweel all → HaveNoTatweel xs → HaveNoTatweel (picked_elements all order xs)
picked_clear all [] xs h k = k
picked_clear all (i ∷ order) [] h k = tt
picked_clear all (i ∷ order) (x ∷ xs) h k = (got_clear all i x h k.0, picked_clear all order xs h k.1)

arranged_clear : (from : ℕ) (order : List ℕ) (os : List Origin) → HaveNoTatweel os → HaveNoTatweel (with_range_arranged from order os)
arranged_clear from order os h =
    let rest = drop_clear from os h in
    both_clear (take from os) (picked_elements (take (length order) (drop from os)) order (drop from os)) (take_clear from os h)
    (picked_clear (take (length order) (drop from os)) order (drop from os) (take_clear (length order) (drop from os) rest) rest)

reverse_clear : (xs : List Origin) → HaveNoTatweel xs → HaveNoTatweel (reverse xs)
reverse_clear [] h = h
reverse_clear (x ∷ xs) h = subst HaveNoTatweel (sym (reverse-append (x ∷ []) xs)) (both_clear (reverse xs) (x ∷ []) (reverse_clear xs h.1) (h.0, tt))

-- ---- flags and merges

clear_outside : (bits low : ℕ) (o : Origin) → bit_and bits 4 ≡ 0 → IsClear o → IsClear (added_outside bits low o)
clear_outside bits low o e h = elim (o.cluster == low) as (λ t. IsClear (if t then o else flags_added bits o)) [ true ↦ h | false ↦ clear_or o.flags bits h e ]

marked_clear : (from to : ℕ) (os : List Origin) → HaveNoTatweel os → HaveNoTatweel (origins_marked 3 from to os)
marked_clear from to os h = let low = least_number (range_of from to (numbers os)) in changed_clear (added_outside 3 low) from to os (λ o k. clear_outside 3 low o refl k) h

cast_clear : (c flags : ℕ) (o : Origin) → bit_and flags 4 ≡ 0 → IsClear o → IsClear (cast c flags o)
cast_clear c flags o e h = elim (o.cluster == c) as (λ t. IsClear (if t then o else record { cluster = c; flags = flags })) [ true ↦ h | false ↦ e ]

merged_clear : (m : Manner) (from to : ℕ) (os : List Origin) → HaveNoTatweel os → HaveNoTatweel (origins_merged_as m from to os)
merged_clear Unites from to os h =
    let range = range_of from to (numbers os) in
    map_clear (λ (o : Origin). cast (merged_number range o.cluster) 0 o) os (λ o k. cast_clear (merged_number range o.cluster) 0 o refl k) h
merged_clear Marks from to os h = marked_clear from to os h
merged_clear Keeps from to os h = h

spans_clear : (m : Manner) (at : ℕ) (ss : List Span) (os : List Origin) → HaveNoTatweel os → HaveNoTatweel (spans_merged m at ss os)
spans_clear m at [] os h = h
spans_clear m at (s ∷ ss) os h = spans_clear m at ss (origins_merged_as m (at + s.from) (at + s.to) os) (merged_clear m (at + s.from) (at + s.to) os h)

-- ---- what leaves

unsafe_clear : (c : ℕ) (gone : List Origin) → HaveNoTatweel gone → bit_and (unsafe_flags c gone) 4 ≡ 0
unsafe_clear c [] h = refl
unsafe_clear c (o ∷ gone) h = by_test (o.cluster == c && is_unsafe o.flags) (unsafe_clear c gone h.1)
  where
    by_test : (t : Bool) → bit_and (unsafe_flags c gone) 4 ≡ 0 → bit_and (if t then bit_or o.flags (unsafe_flags c gone) else unsafe_flags c gone) 4 ≡ 0
    by_test true rest = clear_or o.flags (unsafe_flags c gone) h.0 rest
    by_test false rest = rest

handed_flags_clear : (p : Option ℕ) (gone : List Origin) → HaveNoTatweel gone → bit_and (flags_for p gone) 4 ≡ 0
handed_flags_clear None gone h = refl
handed_flags_clear (Some c) gone h = unsafe_clear c gone h

ends_clear : (bits : ℕ) (os : List Origin) → bit_and bits 4 ≡ 0 → HaveNoTatweel os → HaveNoTatweel (with_last_changed (flags_added bits) os) × HaveNoTatweel (with_first_changed (flags_added bits) os)
ends_clear bits os e h =
    let f = flags_added bits in
    let n = length os - 1 in
    let keeps : (o : Origin) → IsClear o → IsClear (f o) = λ o k. clear_or o.flags bits k e in
    (both_clear (take n os) (map f (drop n os)) (take_clear n os h) (map_clear f (drop n os) keeps (drop_clear n os h)), both_clear (map f (take 1 os)) (drop 1 os) (map_clear f (take 1 os) keeps (take_clear 1 os h)) (drop_clear 1 os h))

handing_clear : (asked : Bool) (gone : List Origin) (seam : ℕ) (os : List Origin) → HaveNoTatweel gone → HaveNoTatweel os → HaveNoTatweel (origins_handed_if asked gone seam os)
handing_clear false gone seam os l h = h
handing_clear true gone seam os l h =
    let front = take seam os in
    let back = drop seam os in
    let before = last_of (numbers front) in
    let after = other_cluster before (first_of (numbers back)) in
    both_clear (origins_handed_before gone front) (origins_handed_after gone before back) (ends_clear (flags_for before gone) front (handed_flags_clear before gone l) (take_clear seam os h)).0 (ends_clear (flags_for after gone) back (handed_flags_clear after gone l) (drop_clear seam os h)).1

copies_clear : (n : ℕ) (o : Option Origin) → HaveNoTatweel (copies 1 o) → HaveNoTatweel (copies n o)
copies_clear n None h = tt
copies_clear zero (Some x) h = tt
copies_clear (suc n) (Some x) h = (h.0, copies_clear n (Some x) h)

model_clear : (xs ys : List Origin) → HaveNoTatweel xs → HaveNoTatweel ys → HaveNoTatweel (copies 1 (or (first_of xs) (last_of ys)))
model_clear [] ys h k = last_clear ys k
  where
    at_clear : (zs : List Origin) (i : ℕ) → HaveNoTatweel zs → HaveNoTatweel (copies 1 (slice_get zs i))
    at_clear [] i g = tt
    at_clear (z ∷ zs) zero g = (g.0, tt)
    at_clear (z ∷ zs) (suc i) g = at_clear zs i g.1

    last_clear : (zs : List Origin) → HaveNoTatweel zs → HaveNoTatweel (copies 1 (last_of zs))
    last_clear zs g = at_clear zs (length zs - 1) g
model_clear (x ∷ xs) ys h k = (h.0, tt)

replaced_clear : (at taken given : ℕ) (os : List Origin) → HaveNoTatweel os → HaveNoTatweel (elements_replaced at taken given os)
replaced_clear at taken given os h =
    let new = copies given (or (first_of (drop at os)) (last_of (take at os))) in
    both_clear (take at os ++ new) (drop (at + taken) os)
    (both_clear (take at os) new (take_clear at os h) (copies_clear given (or (first_of (drop at os)) (last_of (take at os))) (model_clear (drop at os) (take at os) (drop_clear at os h) (take_clear at os h))))
    (drop_clear (at + taken) os h)

end_clear : (p : ℕ) (x : Origin) (qs : List Origin) → IsClear x → HaveNoTatweel qs → HaveNoTatweel (end_cast p x qs)
end_clear p x [] e h = tt
end_clear p x (q ∷ qs) e h = elim (list_all (λ (k : Origin). k.cluster == p) (q ∷ qs)) as (λ t. HaveNoTatweel (if t then map (cast x.cluster x.flags) (q ∷ qs) else q ∷ end_cast p x qs))
    [ true ↦ map_clear (cast x.cluster x.flags) (q ∷ qs) (λ o k. cast_clear x.cluster x.flags o e k) h | false ↦ (h.0, end_clear p x qs e h.1) ]

alone_clear : (level : BufferClusterLevel) (before : Option ℕ) (front : List Origin) (x : Origin) (back : List Origin) → HaveNoTatweel front → IsClear x → HaveNoTatweel back → HaveNoTatweel (alone_deleted level before front x back)
alone_clear level (Some p) front x back f e b = both_clear (if nat_lt x.cluster p then end_cast p x front else front) back (elim (nat_lt x.cluster p) as (λ t. HaveNoTatweel (if t then end_cast p x front else front)) [ true ↦ end_clear p x front e f | false ↦ f ]) b
alone_clear level None front x back f e b = both_clear front (drop 1 (origins_merged_as (manner InList level) 0 2 (x ∷ back))) f (drop_clear 1 (origins_merged_as (manner InList level) 0 2 (x ∷ back)) (merged_clear (manner InList level) 0 2 (x ∷ back) (e, b)))

one_clear : (level : BufferClusterLevel) (front : List Origin) (x : Origin) (back : List Origin) → HaveNoTatweel front → IsClear x → HaveNoTatweel back → HaveNoTatweel (one_deleted level front x back)
one_clear level front x back f e b = elim (is_number (last_of (numbers front)) x.cluster || is_number (first_of (numbers back)) x.cluster) as (λ t. HaveNoTatweel (if t then front ++ back else alone_deleted level (last_of (numbers front)) front x back))
    [ true ↦ both_clear front back f b | false ↦ alone_clear level (last_of (numbers front)) front x back f e b ]

first_clear : (level : BufferClusterLevel) (front rest : List Origin) → HaveNoTatweel front → HaveNoTatweel rest → HaveNoTatweel (first_deleted level front rest)
first_clear level front [] f r = f
first_clear level front (x ∷ back) f r = one_clear level front x back f r.0 r.1

-- ---- circles and spreads

flags_clear : (at : ℕ) (os : List Origin) → HaveNoTatweel os → bit_and (flags_at at os) 4 ≡ 0
flags_clear at [] h = refl
flags_clear zero (o ∷ os) h = h.0
flags_clear (suc at) (o ∷ os) h = flags_clear at os h.1

beside_clear : (after : Bool) (flags : ℕ) (os : List Origin) → bit_and flags 4 ≡ 0 → HaveNoTatweel os → HaveNoTatweel (first_circled after flags os)
beside_clear after flags [] e h = tt
beside_clear true flags (o ∷ os) e h = (h.0, (e, h.1))
beside_clear false flags (o ∷ os) e h = (e, (h.0, h.1))

settled_clear : (asks : Asks) (m : ℕ) → asks.tatweel ≡ false → bit_and m 4 ≡ 0 → bit_and (settled_flags asks m) 4 ≡ 0
settled_clear asks m e h = subst (λ b. bit_and (concat_settled asks.concat (tatweel_settled b m)) 4 ≡ 0) (sym e) (by_concat asks.concat)
  where
    by_concat : (b : Bool) → bit_and (concat_settled b m) 4 ≡ 0
    by_concat true = h
    by_concat false = and_assoc 4 m 5 ∙ h

abbrev MayBeClear : Option Origin → Type 0
MayBeClear None = Unit {0}
MayBeClear (Some p) = IsClear p

spread_clear : (asks : Asks) (before : Option Origin) (os : List Origin) → asks.tatweel ≡ false → MayBeClear before → HaveNoTatweel os → HaveNoTatweel (origins_spread_after asks before os)
spread_clear asks before [] e b h = tt
spread_clear asks before (o ∷ os) e b h =
    let flags = settled_flags asks (run_flags o.cluster (o ∷ os)) in
    let run : bit_and flags 4 ≡ 0 = settled_clear asks (run_flags o.cluster (o ∷ os)) e (run_clear o.cluster (o ∷ os) h) in
    let here : bit_and (spread_flags before o.cluster flags) 4 ≡ 0 = by_before before b run in
    (here, spread_clear asks (Some (record { cluster = o.cluster; flags = spread_flags before o.cluster flags })) os e here h.1)
  where
    by_before : (p : Option Origin) → MayBeClear p → bit_and (settled_flags asks (run_flags o.cluster (o ∷ os))) 4 ≡ 0 → bit_and (spread_flags p o.cluster (settled_flags asks (run_flags o.cluster (o ∷ os)))) 4 ≡ 0
    by_before None k run = run
    by_before (Some p) k run = elim (p.cluster == o.cluster) as (λ t. bit_and (if t then p.flags else settled_flags asks (run_flags o.cluster (o ∷ os))) 4 ≡ 0) [ true ↦ k | false ↦ run ]

pub cleared : (os : List Origin) → HaveNoTatweel (without_marks os)
cleared [] = tt
cleared (o ∷ os) = (refl, cleared os)

concat_clear : (asked : Bool) (from to : ℕ) (os : List Origin) → HaveNoTatweel os → HaveNoTatweel (concat_marked asked from to os)
concat_clear true from to os h = changed_clear (flags_added 2) from to os (λ o k. clear_or o.flags 2 k refl) h
concat_clear false from to os h = h

tatweel_clear : (asked : Bool) (from to : ℕ) (os : List Origin) → asked ≡ false → HaveNoTatweel os → HaveNoTatweel (tatweel_marked asked from to os)
tatweel_clear true from to os e h = cc
tatweel_clear false from to os e h = marked_clear from to os h

strictly_clear : (asked : Bool) (from to : ℕ) (os : List Origin) → HaveNoTatweel os → HaveNoTatweel (strictly_marked asked from to os)
strictly_clear true from to os h = marked_clear from to os h
strictly_clear false from to os h = h

-- ---- events

event_clear : (asks : Asks) (level : BufferClusterLevel) (os : List Origin) (e : Event) → asks.tatweel ≡ false → HaveNoTatweel os → HaveNoTatweel (origins_after_event asks level os e)
event_clear asks level os (Merge how from to) n h = merged_clear (manner how level) from to os h
event_clear asks level os (MergeGrapheme from to) n h = merged_clear (grapheme_manner level) from to os h
event_clear asks level os (Replace at taken given) n h =
    let mid = origins_merged_as (manner InList level) at (at + taken) os in
    let k = merged_clear (manner InList level) at (at + taken) os h in
    handing_clear asks.breaks (take taken (drop at mid)) (at + given) (elements_replaced at taken given mid) (take_clear taken (drop at mid) (drop_clear at mid k)) (replaced_clear at taken given mid k)
event_clear asks level os (Circle after beside like) n h =
    both_clear (take beside os) (first_circled after (flags_at like os) (drop beside os)) (take_clear beside os h) (beside_clear after (flags_at like os) (drop beside os) (flags_clear like os h) (drop_clear beside os h))
event_clear asks level os (Delete at) n h =
    handing_clear asks.breaks (take 1 (drop at os)) at (origins_deleted level at os) (take_clear 1 (drop at os) (drop_clear at os h)) (first_clear level (take at os) (drop at os) (take_clear at os h) (drop_clear at os h))
event_clear asks level os (Move how from order) n h = arranged_clear from order (origins_merged_as (manner how level) from (from + length order) os) (merged_clear (manner how level) from (from + length order) os h)
event_clear asks level os (Arrange from order) n h = arranged_clear from order os h
event_clear asks level os (Sort from order) n h = arranged_clear from order (spans_merged (manner InList level) from (spans order) os) (spans_clear (manner InList level) from (spans order) os h)
event_clear asks level os Reverse n h = reverse_clear os h
event_clear asks level os (Break from to) n h = marked_clear from to os h
event_clear asks level os (Concat from to) n h = concat_clear asks.concat from to os h
event_clear asks level os (Tatweel from to) n h = tatweel_clear asks.tatweel from to os n h
event_clear asks level os (StrictBreak from to) n h = strictly_clear asks.breaks from to os h
event_clear asks level os Spread n h = spread_clear asks None os n tt h
event_clear asks level os Reset n h = cleared os

pub no_tatweel_stays : NoTatweelStays
no_tatweel_stays asks level [] os n h = h
no_tatweel_stays asks level (e ∷ es) os n h = no_tatweel_stays asks level es (origins_after_event asks level os e) n (event_clear asks level os e n h)
