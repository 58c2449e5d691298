-- How many glyphs events leave, and events that drop no part.
use Rattle.std.proofs.Common.{ℕ, zero, suc, ◌≡◌, ◌+◌, ◌-◌, ◌==◌, ◌||◌, inl, Bool, true, false, nat_lt, min, if◌then◌else◌, List, [], ◌∷◌, ◌++◌, Option, Some, None, length, map, take, drop, reverse, arith, refl, ap, sym, ◌∙◌, length-append, length-drop}
use Rattle.std.specs.List.{list_all}
use Rattle.std.proofs.lemmas.Bool.Decides.{nat_tests}
use Rattle.std.proofs.lemmas.Grind.{common_steps}
use Rattle.std.proofs.lemmas.List.{length-map, length-take, length-reverse, take-append-drop, append-nil}
use Rattle.buffer_glyphs.specs.declared.level.BufferClusterLevel.{BufferClusterLevel}
use Rattle.buffer_glyphs.specs.Levels.{InList, Manner, Unites, Marks, Keeps, manner, grapheme_manner}
use Rattle.buffer_glyphs.specs.Parts.{first_of, last_of, last_from, or, copies, is_number, elements_replaced}
use Rattle.buffer_glyphs.specs.Order.{IsGiving}
use Rattle.buffer_glyphs.specs.Origins.{origins_handed_if, Origin, Asks, Span, spans, numbers, cast, end_cast, alone_deleted, one_deleted, first_deleted, origins_deleted, origins_merged_as, origins_marked, origins_flagged, picked_elements, with_range_arranged, spans_merged, flags_at, first_circled, origins_circled, origins_spread}
use Rattle.buffer_glyphs.specs.Events.{Event, Merge, MergeGrapheme, Replace, Circle, Delete, Move, Arrange, Sort, Reverse, Break, Concat, Tatweel, StrictBreak, Spread, Reset, concat_marked, strictly_marked, tatweel_marked, origins_after_event}
use Rattle.buffer_glyphs.specs.EventParts.{joins_of, span_joins, parts_of}
use Rattle.buffer_glyphs.specs.Lemmas.Origins.{numbers_marked, numbers_flagged}
use Rattle.buffer_glyphs.specs.Lemmas.Deletions.{last_is}
use Rattle.buffer_glyphs.specs.Lemmas.Replacements.{among_seen}
use Rattle.buffer_glyphs.specs.Lemmas.EventParts.{numbers_spread}
use Rattle.buffer_glyphs.specs.Lemmas.Handed.{numbers_handed_if}
use Rattle.buffer_parts.specs.Counts.{count_after_event, count_after}
use Rattle.buffer_parts.specs.CountLaws.{CountsFollow, GivingIsGiving}
use Rattle.buffer_parts.specs.Lemmas.Turns.{giving_in_turn}

-- ---- how many

pub counted_numbers : (os : List Origin) → length (numbers os) ≡ length os
counted_numbers os = length-map os (λ (o : Origin). o.cluster)

same_count : (os qs : List Origin) → numbers qs ≡ numbers os → length qs ≡ length os
same_count os qs e = sym (counted_numbers qs) ∙ ap length e ∙ counted_numbers os

merged_count : (m : Manner) (from to : ℕ) (os : List Origin) → length (origins_merged_as m from to os) ≡ length os
merged_count Unites from to os = length-map os _
merged_count Marks from to os = same_count os (origins_marked 3 from to os) (numbers_marked 3 from to os)
merged_count Keeps from to os = refl

spans_count : (m : Manner) (at : ℕ) (ss : List Span) (os : List Origin) → length (spans_merged m at ss os) ≡ length os
spans_count m at [] os = refl
spans_count m at (s ∷ ss) os = spans_count m at ss (origins_merged_as m (at + s.from) (at + s.to) os) ∙ merged_count m (at + s.from) (at + s.to) os

picked_count : (all : List Origin) (order : List ℕ) (os : List Origin) → length (picked_elements all order os) ≡ length os
picked_count all [] os = refl
picked_count all (i ∷ order) [] = refl
picked_count all (i ∷ order) (o ∷ os) = ap suc (picked_count all order os)

cut_count : (n : ℕ) (os : List Origin) → length (take n os) + length (drop n os) ≡ length os
cut_count n os = sym (length-append (take n os) (drop n os)) ∙ ap length (take-append-drop n os)

arranged_count : (from : ℕ) (order : List ℕ) (os : List Origin) → length (with_range_arranged from order os) ≡ length os
arranged_count from order os =
    length-append (take from os) (picked_elements (take (length order) (drop from os)) order (drop from os))
    ∙ ap (λ n. length (take from os) + n) (picked_count (take (length order) (drop from os)) order (drop from os))
    ∙ cut_count from os

end_count : (p : ℕ) (o : Origin) (qs : List Origin) → length (end_cast p o qs) ≡ length qs
end_count p o [] = refl
end_count p o (q ∷ qs) = by_test (list_all (λ (k : Origin). k.cluster == p) (q ∷ qs)) (end_count p o qs)
  where
    by_test : (t : Bool) → length (end_cast p o qs) ≡ length qs → length (if t then map (cast o.cluster o.flags) (q ∷ qs) else q ∷ end_cast p o qs) ≡ suc (length qs)
    by_test true later = length-map (q ∷ qs) (cast o.cluster o.flags)
    by_test false later = ap suc later

drop_one_count : (os : List Origin) (n : ℕ) → length os ≡ suc n → length (drop 1 os) ≡ n
drop_one_count [] n e = absurd (omega (arith, e))
drop_one_count (o ∷ os) n e = omega (arith, e)

alone_count : (level : BufferClusterLevel) (before : Option ℕ) (front : List Origin) (o : Origin) (back : List Origin) → length (alone_deleted level before front o back) ≡ length front + length back
alone_count level (Some p) front o back =
    length-append (if nat_lt o.cluster p then end_cast p o front else front) back
    ∙ ap (λ n. n + length back) (elim (nat_lt o.cluster p) as (λ t. length (if t then end_cast p o front else front) ≡ length front) [ true ↦ end_count p o front | false ↦ refl ])
alone_count level None front o back =
    length-append front (drop 1 (origins_merged_as (manner InList level) 0 2 (o ∷ back)))
    ∙ ap (λ n. length front + n) (drop_one_count (origins_merged_as (manner InList level) 0 2 (o ∷ back)) (length back) (merged_count (manner InList level) 0 2 (o ∷ back)))

one_count : (level : BufferClusterLevel) (front : List Origin) (o : Origin) (back : List Origin) → length (one_deleted level front o back) ≡ length front + length back
one_count level front o back =
    elim (is_number (last_of (numbers front)) o.cluster || is_number (first_of (numbers back)) o.cluster)
    as (λ t. length (if t then front ++ back else alone_deleted level (last_of (numbers front)) front o back) ≡ length front + length back)
    [ true ↦ length-append front back | false ↦ alone_count level (last_of (numbers front)) front o back ]

first_count : (level : BufferClusterLevel) (front rest : List Origin) → length (first_deleted level front rest) ≡ length front + (length rest - 1)
first_count level front [] = omega arith
first_count level front (o ∷ back) = let e = one_count level front o back in omega (arith, e)

deleted_count : (level : BufferClusterLevel) (at : ℕ) (os : List Origin) → length (origins_deleted level at os) ≡ (if nat_lt at (length os) then length os - 1 else length os)
deleted_count level at os =
    let e = first_count level (take at os) (drop at os) in
    let t = length-take at os in
    let d = length-drop at os in
    first_count level (take at os) (drop at os) ∙ by_count (length (take at os)) (length (drop at os)) (length os) t d
  where
    by_count : (a b n : ℕ) → a ≡ min at n → b ≡ n - at → a + (b - 1) ≡ (if nat_lt at n then n - 1 else n)
    by_count a b n e f = grind (arith, nat_tests, common_steps, e, f)

copies_count : {X : Type 0} (n : ℕ) (x : X) → length (copies n (Some x)) ≡ n
copies_count zero x = refl
copies_count (suc n) x = ap suc (copies_count n x)

given_count : (at given : ℕ) (ns : List ℕ) → length (copies given (or (first_of (drop at ns)) (last_of (take at ns)))) ≡ (if length ns == 0 then 0 else given)
given_count zero given [] = refl
given_count (suc at) given [] = refl
given_count at given (n ∷ ns) =
    let some : (suc (length ns) == 0) ≡ false = grind (arith, common_steps) in
    rw some (by_rest (drop at (n ∷ ns)) refl)
  where
    by_rest : (rest : List ℕ) → drop at (n ∷ ns) ≡ rest → length (copies given (or (first_of rest) (last_of (take at (n ∷ ns))))) ≡ given
    by_rest (d ∷ ds) e = copies_count given d
    by_rest [] e =
        let whole : take at (n ∷ ns) ≡ n ∷ ns = sym (append-nil (take at (n ∷ ns))) ∙ ap (λ xs. take at (n ∷ ns) ++ xs) (sym e) ∙ take-append-drop at (n ∷ ns) in
        ap (λ xs. length (copies given (last_of xs))) whole ∙ ap (λ o. length (copies given o)) (last_is n ns) ∙ copies_count given (last_from n ns)

numbers_replaced_count : (at taken given : ℕ) (ns : List ℕ) → length (elements_replaced at taken given ns) ≡ min at (length ns) + (if length ns == 0 then 0 else given) + (length ns - (at + taken))
numbers_replaced_count at taken given ns =
    length-append (take at ns ++ copies given (or (first_of (drop at ns)) (last_of (take at ns)))) (drop (at + taken) ns)
    ∙ ap (λ n. n + length (drop (at + taken) ns)) (length-append (take at ns) (copies given (or (first_of (drop at ns)) (last_of (take at ns)))))
    ∙ ap (λ n. length (take at ns) + n + length (drop (at + taken) ns)) (given_count at given ns)
    ∙ ap (λ n. n + (if length ns == 0 then 0 else given) + length (drop (at + taken) ns)) (length-take at ns)
    ∙ ap (λ n. min at (length ns) + (if length ns == 0 then 0 else given) + n) (length-drop (at + taken) ns)

replaced_count : (at taken given : ℕ) (os : List Origin) → length (elements_replaced at taken given os) ≡ min at (length os) + (if length os == 0 then 0 else given) + (length os - (at + taken))
replaced_count at taken given os =
    sym (counted_numbers (elements_replaced at taken given os)) ∙ ap length (among_seen (λ (o : Origin). o.cluster) at taken given os) ∙ numbers_replaced_count at taken given (numbers os)
    ∙ ap (λ n. min at n + (if n == 0 then 0 else given) + (n - (at + taken))) (counted_numbers os)

circled_count : (after : Bool) (flags : ℕ) (os : List Origin) → length (first_circled after flags os) ≡ (if nat_lt 0 (length os) then suc (length os) else length os)
circled_count after flags [] = refl
circled_count true flags (o ∷ os) = let some : nat_lt 0 (suc (length os)) ≡ true = grind (arith, nat_tests) in rw some refl
circled_count false flags (o ∷ os) = let some : nat_lt 0 (suc (length os)) ≡ true = grind (arith, nat_tests) in rw some refl

with_circle_count : (after : Bool) (beside like : ℕ) (os : List Origin) → length (origins_circled after beside like os) ≡ (if nat_lt beside (length os) then length os + 1 else length os)
with_circle_count after beside like os =
    length-append (take beside os) (first_circled after (flags_at like os) (drop beside os))
    ∙ ap (λ n. length (take beside os) + n) (circled_count after (flags_at like os) (drop beside os))
    ∙ by_count (length (take beside os)) (length (drop beside os)) (length os) (length-take beside os) (length-drop beside os)
  where
    by_count : (a b n : ℕ) → a ≡ min beside n → b ≡ n - beside → a + (if nat_lt 0 b then suc b else b) ≡ (if nat_lt beside n then n + 1 else n)
    by_count a b n e f = grind (arith, nat_tests, common_steps, e, f)

concat_count : (asked : Bool) (from to : ℕ) (os : List Origin) → length (concat_marked asked from to os) ≡ length os
concat_count true from to os = same_count os (origins_flagged 2 from to os) (numbers_flagged 2 from to os)
concat_count false from to os = refl

tatweel_count : (asked : Bool) (from to : ℕ) (os : List Origin) → length (tatweel_marked asked from to os) ≡ length os
tatweel_count true from to os = same_count os (origins_marked 4 from to os) (numbers_marked 4 from to os)
tatweel_count false from to os = same_count os (origins_marked 3 from to os) (numbers_marked 3 from to os)

strict_count : (asked : Bool) (from to : ℕ) (os : List Origin) → length (strictly_marked asked from to os) ≡ length os
strict_count true from to os = same_count os (origins_marked 3 from to os) (numbers_marked 3 from to os)
strict_count false from to os = refl

handed_count : (asked : Bool) (gone : List Origin) (seam : ℕ) (os : List Origin) → length (origins_handed_if asked gone seam os) ≡ length os
handed_count asked gone seam os = same_count os (origins_handed_if asked gone seam os) (numbers_handed_if asked gone seam os)

reverse_count : (os : List Origin) → length (reverse os) ≡ length os
reverse_count os = length-reverse os

event_count : (asks : Asks) (level : BufferClusterLevel) (os : List Origin) (e : Event) → length (origins_after_event asks level os e) ≡ count_after_event (length os) e
event_count asks level os (Merge how from to) = merged_count (manner how level) from to os
event_count asks level os (MergeGrapheme from to) = merged_count (grapheme_manner level) from to os
event_count asks level os (Replace at taken given) =
    let mid = origins_merged_as (manner InList level) at (at + taken) os in
    handed_count asks.breaks (take taken (drop at mid)) (at + given) (elements_replaced at taken given mid) ∙ replaced_count at taken given mid ∙ ap (λ n. min at n + (if n == 0 then 0 else given) + (n - (at + taken))) (merged_count (manner InList level) at (at + taken) os)
event_count asks level os (Circle after beside like) = with_circle_count after beside like os
event_count asks level os (Delete at) = handed_count asks.breaks (take 1 (drop at os)) at (origins_deleted level at os) ∙ deleted_count level at os
event_count asks level os (Move how from order) = arranged_count from order (origins_merged_as (manner how level) from (from + length order) os) ∙ merged_count (manner how level) from (from + length order) os
event_count asks level os (Arrange from order) = arranged_count from order os
event_count asks level os (Sort from order) = arranged_count from order (spans_merged (manner InList level) from (spans order) os) ∙ spans_count (manner InList level) from (spans order) os
event_count asks level os Reverse = reverse_count os
event_count asks level os (Break from to) = same_count os (origins_marked 3 from to os) (numbers_marked 3 from to os)
event_count asks level os (Concat from to) = concat_count asks.concat from to os
event_count asks level os (Tatweel from to) = tatweel_count asks.tatweel from to os
event_count asks level os (StrictBreak from to) = strict_count asks.breaks from to os
event_count asks level os Spread = same_count os (origins_spread asks os) (numbers_spread asks None os)
event_count asks level os Reset = length-map os _

pub counts_follow : CountsFollow
counts_follow asks level [] os = refl
counts_follow asks level (e ∷ es) os = counts_follow asks level es (origins_after_event asks level os e) ∙ ap (count_after es) (event_count asks level os e)

-- ---- events that give

no_replacement : (m : Manner) (from to : ℕ) (ns : List ℕ) → IsGiving (joins_of m from to) ns
no_replacement Unites from to ns = (tt, tt)
no_replacement Marks from to ns = tt
no_replacement Keeps from to ns = tt

spans_give : (m : Manner) (at : ℕ) (ss : List Span) (ns : List ℕ) → IsGiving (span_joins m at ss) ns
spans_give m at [] ns = tt
spans_give m at (s ∷ ss) ns = giving_in_turn (joins_of m (at + s.from) (at + s.to)) (span_joins m at ss) ns (no_replacement m (at + s.from) (at + s.to) ns) (spans_give m at ss _)

pub giving_is_giving : GivingIsGiving
giving_is_giving level [] ns g = tt
giving_is_giving level (Replace at taken given ∷ es) ns g = (inl g.0, giving_is_giving level es _ g.1)
giving_is_giving level (Merge how from to ∷ es) ns g = giving_in_turn (joins_of (manner how level) from to) (parts_of level es) ns (no_replacement (manner how level) from to ns) (giving_is_giving level es _ g)
giving_is_giving level (MergeGrapheme from to ∷ es) ns g = giving_in_turn (joins_of (grapheme_manner level) from to) (parts_of level es) ns (no_replacement (grapheme_manner level) from to ns) (giving_is_giving level es _ g)
giving_is_giving level (Circle after beside like ∷ es) ns g = (tt, giving_is_giving level es _ g)
giving_is_giving level (Delete at ∷ es) ns g = (tt, giving_is_giving level es _ g)
giving_is_giving level (Move how from order ∷ es) ns g =
    giving_in_turn (joins_of (manner how level) from (from + length order)) (parts_of level es) ns (no_replacement (manner how level) from (from + length order) ns) (giving_is_giving level es _ g)
giving_is_giving level (Arrange from order ∷ es) ns g = giving_is_giving level es ns g
giving_is_giving level (Sort from order ∷ es) ns g = giving_in_turn (span_joins (manner InList level) from (spans order)) (parts_of level es) ns (spans_give (manner InList level) from (spans order) ns) (giving_is_giving level es _ g)
giving_is_giving level (Reverse ∷ es) ns g = (tt, giving_is_giving level es _ g)
giving_is_giving level (Break from to ∷ es) ns g = giving_is_giving level es ns g
giving_is_giving level (Concat from to ∷ es) ns g = giving_is_giving level es ns g
giving_is_giving level (Tatweel from to ∷ es) ns g = giving_is_giving level es ns g
giving_is_giving level (StrictBreak from to ∷ es) ns g = giving_is_giving level es ns g
giving_is_giving level (Spread ∷ es) ns g = giving_is_giving level es ns g
giving_is_giving level (Reset ∷ es) ns g = giving_is_giving level es ns g
