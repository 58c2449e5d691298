-- The parts of a text as a partition of its characters: in which part a character's cluster is after events.
use Rattle.std.specs.Prelude.{ℕ, ◌≤◌, ◌+◌, ◌||◌, ◌⊎◌, min, max, if◌then◌else◌, IsTrue, List, [], ◌∷◌, ◌++◌, Option, Some, None, take, drop, reverse}
use Rattle.buffer_glyphs.specs.Parts.{PartEvent, JoinParts, ReplaceParts, DeletePart, CirclePart, ReverseParts, united_number, last_from, range_of, first_of, last_of, copies, is_number, numbers_replaced, numbers_without, after_part_event}
use Rattle.buffer_glyphs.specs.Order.{has_number}

-- two numbers: all parts from the lesser of them to the greater become one
pub record Union : Type 0 where
  pub one : ℕ
  pub other : ℕ

-- the first and the last number of a range, if it has one
abbrev pub ends_of : List ℕ → Option Union
ends_of [] = None
ends_of (n ∷ ns) = Some (record { one = n; other = last_from n ns })

-- a part, and the part of the previous item, else that of the next
abbrev pub neighbour_union : Option ℕ → Option ℕ → ℕ → Option Union
neighbour_union (Some p) after n = Some (record { one = p; other = n })
neighbour_union None (Some q) n = Some (record { one = n; other = q })
neighbour_union None None n = None

-- where neither neighbour of a deleted item is of its part: the part, and that of a neighbour
abbrev pub deletion_union : Option ℕ → Option ℕ → Option ℕ → Option Union
deletion_union before None after = None
deletion_union before (Some n) after = if is_number before n || is_number after n then None else neighbour_union before after n

-- the parts that an event unites: those of a range that is joined or replaced, and the part that a deletion leaves without an item with a neighbour's
abbrev pub union_of : List ℕ → PartEvent → Option Union
union_of ns (JoinParts from to) = ends_of (range_of from to ns)
union_of ns (ReplaceParts at taken given) = ends_of (range_of at (at + taken) ns)
union_of ns (DeletePart at) = deletion_union (last_of (take at ns)) (first_of (drop at ns)) (first_of (drop (at + 1) ns))
union_of ns (CirclePart at) = None
union_of ns ReverseParts = None

-- the part of a number after a union: the least number of the union for each number of it
abbrev pub part_after_union : Option Union → ℕ → ℕ
part_after_union None n = n
part_after_union (Some u) n = united_number (min u.one u.other) (max u.one u.other) n

-- the part of a number after one event
abbrev pub part_after_event : List ℕ → PartEvent → ℕ → ℕ
part_after_event ns e n = part_after_union (union_of ns e) n

-- the part of a number after a list of events
abbrev pub part_after : List PartEvent → List ℕ → ℕ → ℕ
part_after [] ns n = n
part_after (e ∷ es) ns n = part_after es (after_part_event ns e) (part_after_event ns e n)

-- the items that an event leaves, in their new order, as far as it joins none
abbrev pub items_left : PartEvent → List ℕ → List ℕ
items_left (JoinParts from to) ns = ns
items_left (ReplaceParts at taken given) ns = numbers_replaced at taken given ns
items_left (DeletePart at) ns = numbers_without at ns
items_left (CirclePart at) ns = take at ns ++ copies 2 (first_of (drop at ns)) ++ drop (at + 1) ns
items_left ReverseParts ns = reverse ns

-- two numbers are both of a union
abbrev pub AreUnited : Option Union → ℕ → ℕ → Type 0
AreUnited None m n = ⊥
AreUnited (Some u) m n = (min u.one u.other ≤ m) × (m ≤ max u.one u.other) × (min u.one u.other ≤ n) × (n ≤ max u.one u.other)

-- some event unites the parts of two numbers
abbrev pub AreUnitedByEvents : List PartEvent → List ℕ → ℕ → ℕ → Type 0
AreUnitedByEvents [] ns m n = ⊥
AreUnitedByEvents (e ∷ es) ns m n = AreUnited (union_of ns e) m n ⊎ AreUnitedByEvents es (after_part_event ns e) (part_after_event ns e m) (part_after_event ns e n)

-- k is the greatest of the numbers up to n
pub record IsGreatestUpTo (k n : ℕ) (ns : List ℕ) : Type 0 where
  pub among : IsTrue (has_number ns k)
  pub low : k ≤ n
  pub high : (j : ℕ) → IsTrue (has_number ns j) → j ≤ n → j ≤ k
