-- Groups that merge, and are turned round.
use Rattle.std.proofs.Common.{ℕ, zero, suc, ◌≡◌, ◌≤◌, ◌+◌, ◌-◌, ◌==◌, ◌&&◌, inl, inr, Bool, true, false, min, max, List, [], ◌∷◌, ◌++◌, length, map, take, drop, arith, refl, ap, sym, subst, ◌∙◌}
use Rattle.std.specs.List.{list_all}
use Rattle.std.proofs.lemmas.Grind.{common_steps}
use Rattle.std.proofs.lemmas.List.{take-map, drop-map, map-id}
use Rattle.buffer_glyphs.specs.declared.level.BufferClusterLevel.{BufferClusterLevel}
use Rattle.buffer_glyphs.specs.Levels.{IsMonotone, IsUniting, InList, Manner, Unites, Marks, Keeps, manner}
use Rattle.buffer_glyphs.specs.Parts.{JoinParts, united_number, last_from, range_of, after_part_event, after_part_events}
use Rattle.buffer_glyphs.specs.Order.{IsOrdered, IsInOrder}
use Rattle.buffer_glyphs.specs.Origins.{Origin, Asks, numbers}
use Rattle.buffer_glyphs.specs.Events.{Merge, Arrange, Reverse, IsPlain, origins_after, origins_after_event}
use Rattle.buffer_glyphs.specs.EventParts.{joins_of}
use Rattle.buffer_glyphs.specs.Lemmas.Numbers.{Has, has_here, has_more, has_map}
use Rattle.buffer_glyphs.specs.Lemmas.Parts.{stays_ordered, order_drawn}
use Rattle.buffer_glyphs.specs.Lemmas.Drawn.{drawn_drop, drawn_take}
use Rattle.buffer_glyphs.specs.Lemmas.Ends.{joined_alike}
use Rattle.buffer_parts.specs.Orderly.{are_one}
use Rattle.buffer_parts.specs.CharacterParts.{ends_of, part_after_union, part_after_event}
use Rattle.buffer_parts.specs.Groups.{merges_from, arranges_from, AreOneGroups}
use Rattle.buffer_parts.specs.TextLaws.{OneGroupsMayTurn, MergedGroupsAreOne, MergedGroupsMayTurn, SingleGroupsAreOne}
use Rattle.buffer_parts.specs.Lemmas.Orderly.{plain_is_orderly, both_orderly, one_number, orderly_event, arranged_one}
use Rattle.buffer_parts.specs.Lemmas.CharacterParts.{events_are_unions}
use Rattle.buffer_glyphs.specs.Lemmas.EventParts.{numbers_arranged}
use Rattle.buffer_facts.proofs.Truth.{and_true}

-- ---- numbers that are one

all_is : (n : ℕ) (ms : List ℕ) → ((k : ℕ) → Has ms k → k ≡ n) → list_all (λ m. m == n) ms ≡ true
all_is n [] h = refl
all_is n (m ∷ ms) h =
    let same : m ≡ n = h m (has_here m ms) in
    let test : (m == n) ≡ true = grind (arith, common_steps, same) in
    and_true (m == n) (list_all (λ k. k == n) ms) test (all_is n ms (λ k has. h k (has_more m k ms has)))

pub are_one_from : (low : ℕ) (ns : List ℕ) → ((k : ℕ) → Has ns k → k ≡ low) → are_one ns ≡ true
are_one_from low [] h = refl
are_one_from low (n ∷ ns) h = all_is n ns (λ k has. h k (has_more n k ns has) ∙ sym (h n (has_here n ns)))

are_one_map : (f : ℕ → ℕ) (ns : List ℕ) → are_one ns ≡ true → are_one (map f ns) ≡ true
are_one_map f ns e =
    let one = one_number ns e in
    are_one_from (f one.0) (map f ns) (λ k h. let source = has_map f k ns h in sym source.2 ∙ ap f (one.1 source.0 source.1))

pub range_map : (f : ℕ → ℕ) (from to : ℕ) (ns : List ℕ) → range_of from to (map f ns) ≡ map f (range_of from to ns)
range_map f from to ns = ap (take (to - from)) (drop-map f from ns) ∙ take-map f (to - from) (drop from ns)

-- ---- groups that are one may be turned round

arranged_stays : (asks : Asks) (level : BufferClusterLevel) (at : ℕ) (order : List ℕ) (os : List Origin) → are_one (range_of at (at + length order) (numbers os)) ≡ true → numbers (origins_after_event asks level os (Arrange at order)) ≡ numbers os
arranged_stays asks level at order os e = numbers_arranged at order os ∙ arranged_one at order (numbers os) e

pub one_groups_may_turn : OneGroupsMayTurn
one_groups_may_turn order asks level at [] os fits h = (tt, tt)
one_groups_may_turn order asks level at (n ∷ lens) os fits h =
    let one : are_one (range_of at (at + length (order n)) (numbers os)) ≡ true = ap (λ k. are_one (range_of at (at + k) (numbers os))) (fits n) ∙ h.0 in
    let stays = arranged_stays asks level at (order n) os one in
    let rest : AreOneGroups (at + n) lens (numbers (origins_after_event asks level os (Arrange at (order n)))) = subst (AreOneGroups (at + n) lens) (sym stays) h.1 in
    (one, one_groups_may_turn order asks level (at + n) lens (origins_after_event asks level os (Arrange at (order n))) fits rest)

pub single_groups_are_one : SingleGroupsAreOne
single_groups_are_one at [] ns s = tt
single_groups_are_one at (n ∷ lens) ns s = (few (at + n - at) (drop at ns) (let one = s.0 in omega (arith, one)), single_groups_are_one (at + n) lens ns s.1)
  where
    few : (k : ℕ) (ms : List ℕ) → k ≤ 1 → are_one (take k ms) ≡ true
    few zero ms le = refl
    few (suc k) [] le = refl
    few (suc k) (m ∷ ms) le = let none : k ≡ 0 = omega (arith, le) in ap (λ j. are_one (m ∷ take j ms)) none

-- ---- groups that merge are one

merge_is : (asks : Asks) (level : BufferClusterLevel) (from to : ℕ) (os : List Origin) → IsMonotone level → IsOrdered (numbers os)
    → numbers (origins_after_event asks level os (Merge InList from to)) ≡ map (part_after_event (numbers os) (JoinParts from to)) (numbers os)
merge_is asks level from to os mono o = orderly_event asks level os (Merge InList from to) mono tt o ∙ by_manner (manner InList level) mono ∙ events_are_unions (JoinParts from to) (numbers os)
  where
    by_manner : (m : Manner) → IsUniting m → after_part_events (joins_of m from to) (numbers os) ≡ after_part_event (numbers os) (JoinParts from to)
    by_manner Unites u = refl
    by_manner Marks u = absurd u
    by_manner Keeps u = absurd u

range_in_order : (falls : Bool) (from to : ℕ) (ns : List ℕ) → IsInOrder falls ns → IsInOrder falls (range_of from to ns)
range_in_order falls from to ns h = order_drawn falls (drawn_take (to - from) (drop from ns)) (order_drawn falls (drawn_drop from ns) h)

joined_one : (falls : Bool) (s : List ℕ) → IsInOrder falls s → are_one (map (part_after_union (ends_of s)) s) ≡ true
joined_one falls [] o = refl
joined_one falls (x ∷ xs) o =
    let f = united_number (min x (last_from x xs)) (max x (last_from x xs)) in
    are_one_from (min x (last_from x xs)) (map f (x ∷ xs)) (λ k h. let source = has_map f k (x ∷ xs) h in sym source.2 ∙ joined_alike falls x source.0 xs o source.1)

pub merged_one : (from to : ℕ) (ns : List ℕ) → IsOrdered ns → are_one (range_of from to (map (part_after_event ns (JoinParts from to)) ns)) ≡ true
merged_one from to ns o =
    ap are_one (range_map (part_after_event ns (JoinParts from to)) from to ns)
    ∙ elim o [ inl rises ↦ joined_one false (range_of from to ns) (range_in_order false from to ns rises) | inr falls ↦ joined_one true (range_of from to ns) (range_in_order true from to ns falls) ]

merge_ordered : (asks : Asks) (level : BufferClusterLevel) (from to : ℕ) (os : List Origin) → IsMonotone level → IsOrdered (numbers os) → IsOrdered (numbers (origins_after_event asks level os (Merge InList from to)))
merge_ordered asks level from to os mono o = subst IsOrdered (sym (orderly_event asks level os (Merge InList from to) mono tt o)) (stays_ordered (joins_of (manner InList level) from to) (numbers os) o)

map_after : (g f : ℕ → ℕ) (ns : List ℕ) → map g (map f ns) ≡ map (λ n. g (f n)) ns
map_after g f [] = refl
map_after g f (n ∷ ns) = ap (λ ms. g (f n) ∷ ms) (map_after g f ns)

-- merges change each number by itself
merges_map : (asks : Asks) (level : BufferClusterLevel) (at : ℕ) (lens : List ℕ) (os : List Origin) → IsMonotone level → IsOrdered (numbers os) → (g : ℕ → ℕ) × (numbers (origins_after asks level (merges_from at lens) os) ≡ map g (numbers os))
merges_map asks level at [] os mono o = (λ n. n, sym (map-id (numbers os)))
merges_map asks level at (n ∷ lens) os mono o =
    let f = part_after_event (numbers os) (JoinParts at (at + n)) in
    let rest = merges_map asks level (at + n) lens (origins_after_event asks level os (Merge InList at (at + n))) mono (merge_ordered asks level at (at + n) os mono o) in
    (λ k. rest.0 (f k), rest.1 ∙ ap (map rest.0) (merge_is asks level at (at + n) os mono o) ∙ map_after rest.0 f (numbers os))

pub merged_groups_are_one : MergedGroupsAreOne
merged_groups_are_one asks level at [] os mono o = tt
merged_groups_are_one asks level at (n ∷ lens) os mono o =
    let mid = origins_after_event asks level os (Merge InList at (at + n)) in
    let ordered = merge_ordered asks level at (at + n) os mono o in
    let rest = merges_map asks level (at + n) lens mid mono ordered in
    let first : are_one (range_of at (at + n) (numbers mid)) ≡ true = ap (λ ms. are_one (range_of at (at + n) ms)) (merge_is asks level at (at + n) os mono o) ∙ merged_one at (at + n) (numbers os) o in
    let last : are_one (range_of at (at + n) (map rest.0 (numbers mid))) ≡ true = ap are_one (range_map rest.0 at (at + n) (numbers mid)) ∙ are_one_map rest.0 (range_of at (at + n) (numbers mid)) first in
    (ap (λ ms. are_one (range_of at (at + n) ms)) rest.1 ∙ last, merged_groups_are_one asks level (at + n) lens mid mono ordered)

merges_plain : (at : ℕ) (lens : List ℕ) → IsPlain (merges_from at lens)
merges_plain at [] = tt
merges_plain at (n ∷ lens) = merges_plain (at + n) lens

pub merged_groups_may_turn : MergedGroupsMayTurn
merged_groups_may_turn order asks level at lens os fits mono o =
    both_orderly asks level (merges_from at lens) (arranges_from order at lens ++ Reverse ∷ []) os
    (plain_is_orderly asks level (merges_from at lens) os (merges_plain at lens))
    (one_groups_may_turn order asks level at lens (origins_after asks level (merges_from at lens) os) fits (merged_groups_are_one asks level at lens os mono o))
