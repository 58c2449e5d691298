-- What orderly events do to clusters.
use Rattle.std.proofs.Common.{ℕ, zero, suc, ◌≡◌, ◌+◌, ◌-◌, ◌==◌, ◌&&◌, inl, inr, Bool, true, false, List, [], ◌∷◌, ◌++◌, length, take, drop, arith, refl, ap, sym, subst, ◌∙◌}
use Rattle.std.specs.Prelude.{slice_get, unwrap_or}
use Rattle.std.specs.List.{list_all}
use Rattle.std.proofs.lemmas.Grind.{common_steps}
use Rattle.std.proofs.lemmas.List.{append-nil, map-append, take-map, drop-map, take-append-drop}
use Rattle.std.proofs.lemmas.List.Sums.{fold-append}
use Rattle.buffer_glyphs.specs.declared.level.BufferClusterLevel.{BufferClusterLevel}
use Rattle.buffer_glyphs.specs.Parts.{range_of, after_part_event, after_part_events}
use Rattle.buffer_glyphs.specs.Order.{IsOrdered, IsInOrder, falls_after}
use Rattle.buffer_glyphs.specs.Levels.{IsMonotone}
use Rattle.buffer_glyphs.specs.Origins.{Origin, Asks, numbers, picked_elements, with_range_arranged}
use Rattle.buffer_glyphs.specs.Events.{Event, Merge, MergeGrapheme, Replace, Circle, Delete, Move, Arrange, Sort, Reverse, Break, Concat, Tatweel, StrictBreak, Spread, Reset, IsPlain, origins_after_event, origins_after}
use Rattle.buffer_glyphs.specs.EventParts.{parts_of_event, parts_of}
use Rattle.buffer_glyphs.specs.Lemmas.Numbers.{Has, has_here, has_more, has_cases}
use Rattle.buffer_glyphs.specs.Lemmas.Parts.{stays_ordered, keeps_order}
use Rattle.buffer_glyphs.specs.Lemmas.EventParts.{origins_are_parts, numbers_picked, numbers_arranged, picked_alike as picked_one}
use Rattle.buffer_parts.specs.Orderly.{are_one, IsOrderlyAt, IsOrderly}
use Rattle.buffer_parts.specs.Laws.{PlainIsOrderly, OrderlyInTurn, OriginsAreParts, OriginsKeepOrder}
use Rattle.buffer_facts.proofs.Truth.{first_true as and_first, second_true as and_second}
use Rattle.buffer_glyphs.proofs.Least.{in_order}

-- ---- plain events, and events one after another

pub plain_is_orderly : PlainIsOrderly
plain_is_orderly asks level [] os p = tt
plain_is_orderly asks level (Arrange from order ∷ es) os p = absurd p
plain_is_orderly asks level (Merge how from to ∷ es) os p = (tt, plain_is_orderly asks level es (origins_after_event asks level os (Merge how from to)) p)
plain_is_orderly asks level (MergeGrapheme from to ∷ es) os p = (tt, plain_is_orderly asks level es (origins_after_event asks level os (MergeGrapheme from to)) p)
plain_is_orderly asks level (Replace at taken given ∷ es) os p = (tt, plain_is_orderly asks level es (origins_after_event asks level os (Replace at taken given)) p)
plain_is_orderly asks level (Circle after at like ∷ es) os p = (tt, plain_is_orderly asks level es (origins_after_event asks level os (Circle after at like)) p)
plain_is_orderly asks level (Delete at ∷ es) os p = (tt, plain_is_orderly asks level es (origins_after_event asks level os (Delete at)) p)
plain_is_orderly asks level (Move how from order ∷ es) os p = (tt, plain_is_orderly asks level es (origins_after_event asks level os (Move how from order)) p)
plain_is_orderly asks level (Sort from order ∷ es) os p = (p.0, plain_is_orderly asks level es (origins_after_event asks level os (Sort from order)) p.1)
plain_is_orderly asks level (Reverse ∷ es) os p = (tt, plain_is_orderly asks level es (origins_after_event asks level os Reverse) p)
plain_is_orderly asks level (Break from to ∷ es) os p = (tt, plain_is_orderly asks level es (origins_after_event asks level os (Break from to)) p)
plain_is_orderly asks level (Concat from to ∷ es) os p = (tt, plain_is_orderly asks level es (origins_after_event asks level os (Concat from to)) p)
plain_is_orderly asks level (Tatweel from to ∷ es) os p = (tt, plain_is_orderly asks level es (origins_after_event asks level os (Tatweel from to)) p)
plain_is_orderly asks level (StrictBreak from to ∷ es) os p = (tt, plain_is_orderly asks level es (origins_after_event asks level os (StrictBreak from to)) p)
plain_is_orderly asks level (Spread ∷ es) os p = (tt, plain_is_orderly asks level es (origins_after_event asks level os Spread) p)
plain_is_orderly asks level (Reset ∷ es) os p = (tt, plain_is_orderly asks level es (origins_after_event asks level os Reset) p)

first_orderly : (asks : Asks) (level : BufferClusterLevel) (es fs : List Event) (os : List Origin) → IsOrderly asks level (es ++ fs) os → IsOrderly asks level es os × IsOrderly asks level fs (origins_after asks level es os)
first_orderly asks level [] fs os h = (tt, h)
first_orderly asks level (e ∷ es) fs os h = let rest = first_orderly asks level es fs (origins_after_event asks level os e) h.1 in ((h.0, rest.0), rest.1)

pub both_orderly : (asks : Asks) (level : BufferClusterLevel) (es fs : List Event) (os : List Origin) → IsOrderly asks level es os → IsOrderly asks level fs (origins_after asks level es os) → IsOrderly asks level (es ++ fs) os
both_orderly asks level [] fs os h k = k
both_orderly asks level (e ∷ es) fs os h k = (h.0, both_orderly asks level es fs (origins_after_event asks level os e) h.1 k)

pub orderly_in_turn : OrderlyInTurn
orderly_in_turn asks level es fs os = (first_orderly asks level es fs os, both_orderly asks level es fs os)

-- ---- an order over numbers that are one

all_same : (n : ℕ) (ms : List ℕ) → list_all (λ m. m == n) ms ≡ true → (k : ℕ) → Has ms k → k ≡ n
all_same n [] e k h = cc
all_same n (m ∷ ms) e k h = elim (has_cases m k ms h) [
  | inl here ↦ let test : (m == n) ≡ true = and_first (m == n) (list_all (λ j. j == n) ms) e in let same : m ≡ n = grind (arith, common_steps, test) in sym here ∙ same
  | inr later ↦ all_same n ms (and_second (m == n) (list_all (λ j. j == n) ms) e) k later
]

-- numbers that are one have one name
pub one_number : (ns : List ℕ) → are_one ns ≡ true → (low : ℕ) × ((k : ℕ) → Has ns k → k ≡ low)
one_number [] e = (0, λ k h. cc)
one_number (n ∷ ns) e = (n, λ k h. elim (has_cases n k ns h) [ inl here ↦ sym here | inr later ↦ all_same n ns e k later ])

pub arranged_one : (from : ℕ) (order ns : List ℕ) → are_one (range_of from (from + length order) ns) ≡ true → with_range_arranged from order ns ≡ ns
arranged_one from order ns e =
    let wide : from + length order - from ≡ length order = omega arith in
    let cut : range_of from (from + length order) ns ≡ take (length order) (drop from ns) = ap (λ k. take k (drop from ns)) wide in
    let one = one_number (range_of from (from + length order) ns) e in
    let alike : (k : ℕ) → Has (take (length order) (drop from ns)) k → k ≡ one.0 = λ k h. one.1 k (subst (λ (ks : List ℕ). Has ks k) (sym cut) h) in
    ap (λ ks. take from ns ++ ks) (picked_one one.0 (take (length order) (drop from ns)) order (drop from ns) alike alike) ∙ take-append-drop from ns

-- ---- one event, and all

plain_event : (asks : Asks) (level : BufferClusterLevel) (os : List Origin) (e : Event) → IsMonotone level → IsPlain (e ∷ []) → IsOrdered (numbers os)
    → numbers (origins_after_event asks level os e) ≡ after_part_events (parts_of_event level e) (numbers os)
plain_event asks level os e mono p o = origins_are_parts asks level (e ∷ []) os mono p o ∙ ap (λ ps. after_part_events ps (numbers os)) (append-nil (parts_of_event level e))

pub orderly_event : (asks : Asks) (level : BufferClusterLevel) (os : List Origin) (e : Event) → IsMonotone level → IsOrderlyAt e (numbers os) → IsOrdered (numbers os)
    → numbers (origins_after_event asks level os e) ≡ after_part_events (parts_of_event level e) (numbers os)
orderly_event asks level os (Arrange from order) mono h o = numbers_arranged from order os ∙ arranged_one from order (numbers os) h
orderly_event asks level os (Sort from order) mono h o = plain_event asks level os (Sort from order) mono (h, tt) o
orderly_event asks level os (Merge how from to) mono h o = plain_event asks level os (Merge how from to) mono tt o
orderly_event asks level os (MergeGrapheme from to) mono h o = plain_event asks level os (MergeGrapheme from to) mono tt o
orderly_event asks level os (Replace at taken given) mono h o = plain_event asks level os (Replace at taken given) mono tt o
orderly_event asks level os (Circle after at like) mono h o = plain_event asks level os (Circle after at like) mono tt o
orderly_event asks level os (Delete at) mono h o = plain_event asks level os (Delete at) mono tt o
orderly_event asks level os (Move how from order) mono h o = plain_event asks level os (Move how from order) mono tt o
orderly_event asks level os Reverse mono h o = plain_event asks level os Reverse mono tt o
orderly_event asks level os (Break from to) mono h o = plain_event asks level os (Break from to) mono tt o
orderly_event asks level os (Concat from to) mono h o = plain_event asks level os (Concat from to) mono tt o
orderly_event asks level os (Tatweel from to) mono h o = plain_event asks level os (Tatweel from to) mono tt o
orderly_event asks level os (StrictBreak from to) mono h o = plain_event asks level os (StrictBreak from to) mono tt o
orderly_event asks level os Spread mono h o = plain_event asks level os Spread mono tt o
orderly_event asks level os Reset mono h o = plain_event asks level os Reset mono tt o

pub orderly_are_parts : OriginsAreParts
orderly_are_parts asks level [] os mono h o = refl
orderly_are_parts asks level (e ∷ es) os mono h o =
    let mid = origins_after_event asks level os e in
    let first : numbers mid ≡ after_part_events (parts_of_event level e) (numbers os) = orderly_event asks level os e mono h.0 o in
    let ordered : IsOrdered (numbers mid) = subst IsOrdered (sym first) (stays_ordered (parts_of_event level e) (numbers os) o) in
    orderly_are_parts asks level es mid mono h.1 ordered ∙ ap (after_part_events (parts_of level es)) first ∙ sym (fold-append after_part_event (numbers os) (parts_of_event level e) (parts_of level es))

pub orderly_keep_order : OriginsKeepOrder
orderly_keep_order asks level es falls os mono h o =
    subst (IsInOrder (falls_after falls (parts_of level es))) (sym (orderly_are_parts asks level es os mono h (in_order falls (numbers os) o))) (keeps_order (parts_of level es) falls (numbers os) o)
