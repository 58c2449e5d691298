-- The parts of a text, and their events. A list has for each item the number of its part.
use Rattle.std.specs.Prelude.{ℕ, ◌+◌, ◌-◌, ◌==◌, ◌&&◌, ◌||◌, Bool, false, nat_le, min, max, if◌then◌else◌, List, [], ◌∷◌, ◌++◌, Option, Some, None, map, take, drop, reverse, replicate, fold, length, slice_get}

-- an event on parts, by indices of the list before it
pub data PartEvent : Type 0 where
  -- the parts from the first to the last that occur at the indices from `from` up to before `to` become one
  JoinParts : (from to : ℕ) → PartEvent
  -- `taken` items from the index `at` on become one part, and are replaced by new items of that part
  ReplaceParts : (at taken given : ℕ) → PartEvent
  -- the item at an index is deleted
  DeletePart : (at : ℕ) → PartEvent
  -- a dotted circle is inserted beside the item at an index, in its part
  CirclePart : (beside : ℕ) → PartEvent
  -- the list is reversed
  ReverseParts : PartEvent

-- the number of a part after all from `low` to `high` become `low`
abbrev pub united_number : ℕ → ℕ → ℕ → ℕ
united_number low high n = if nat_le low n && nat_le n high then low else n

-- all parts from one to another become the least of them
abbrev pub united_numbers : ℕ → ℕ → List ℕ → List ℕ
united_numbers m n ns = map (united_number (min m n) (max m n)) ns

-- the last of some numbers, and n where there is none
abbrev pub last_from : ℕ → List ℕ → ℕ
last_from n [] = n
last_from n (m ∷ ms) = last_from m ms

-- a list after the parts of a range of it became one
abbrev pub joined_numbers : List ℕ → List ℕ → List ℕ
joined_numbers [] ns = ns
joined_numbers (n ∷ rest) ns = united_numbers n (last_from n rest) ns

-- the numbers at the indices from `from` up to before `to`
abbrev pub range_of : ℕ → ℕ → List ℕ → List ℕ
range_of from to ns = take (to - from) (drop from ns)

-- the first element, if there is one
abbrev pub first_of : {X : Type 0} → List X → Option X
first_of [] = None
first_of (x ∷ xs) = Some x

-- the last element, if there is one
abbrev pub last_of : {X : Type 0} → List X → Option X
last_of xs = slice_get xs (length xs - 1)

-- the first of two options that has an element
abbrev pub or : {X : Type 0} → Option X → Option X → Option X
or None o = o
or (Some x) o = Some x

-- n copies of an element, none where there is none
abbrev pub copies : {X : Type 0} → ℕ → Option X → List X
copies n None = []
copies n (Some x) = replicate n x

-- some elements from an index on replaced by copies of the first, past the end of the one before
abbrev pub elements_replaced : {X : Type 0} → ℕ → ℕ → ℕ → List X → List X
elements_replaced at taken given xs = take at xs ++ copies given (or (first_of (drop at xs)) (last_of (take at xs))) ++ drop (at + taken) xs

-- some items from an index on replaced by others of the part of the first, past the end of the part before
abbrev pub numbers_replaced : ℕ → ℕ → ℕ → List ℕ → List ℕ
numbers_replaced at taken given ns = elements_replaced at taken given ns

-- whether an option is a number
abbrev pub is_number : Option ℕ → ℕ → Bool
is_number None n = false
is_number (Some m) n = m == n

-- a part united with that of the neighbour before, else with that of the neighbour after
abbrev pub with_neighbour : Option ℕ → Option ℕ → ℕ → List ℕ → List ℕ
with_neighbour (Some p) after n ns = united_numbers p n ns
with_neighbour None (Some q) n ns = united_numbers n q ns
with_neighbour None None n ns = ns

-- a part that loses its last item, united with a neighbour's
abbrev pub numbers_united_if_last : Option ℕ → Option ℕ → ℕ → List ℕ → List ℕ
numbers_united_if_last before after n ns = if is_number before n || is_number after n then ns else with_neighbour before after n ns

-- the parts as the given item between its neighbours is about to be deleted
abbrev pub numbers_united_without : Option ℕ → Option ℕ → Option ℕ → List ℕ → List ℕ
numbers_united_without before None after ns = ns
numbers_united_without before (Some n) after ns = numbers_united_if_last before after n ns

-- the parts as the item at an index is about to be deleted
abbrev pub before_deletion : ℕ → List ℕ → List ℕ
before_deletion at ns = numbers_united_without (last_of (take at ns)) (first_of (drop at ns)) (first_of (drop (at + 1) ns)) ns

-- a list without the element at an index
abbrev pub numbers_without : ℕ → List ℕ → List ℕ
numbers_without at ns = take at ns ++ drop (at + 1) ns

-- the parts after one event
abbrev pub after_part_event : List ℕ → PartEvent → List ℕ
after_part_event ns (JoinParts from to) = joined_numbers (range_of from to ns) ns
after_part_event ns (ReplaceParts at taken given) = numbers_replaced at taken given (joined_numbers (range_of at (at + taken) ns) ns)
after_part_event ns (DeletePart at) = numbers_without at (before_deletion at ns)
after_part_event ns (CirclePart beside) = take beside ns ++ copies 2 (first_of (drop beside ns)) ++ drop (beside + 1) ns
after_part_event ns ReverseParts = reverse ns

-- the parts after a list of events
abbrev pub after_part_events : List PartEvent → List ℕ → List ℕ
after_part_events es ns = fold after_part_event ns es
