-- The events of walks over a list: a sort of a range, a reversal of groups, deletions in place.
use Rattle.std.specs.Prelude.{ℕ, ◌+◌, Bool, true, false, if◌then◌else◌, List, [], ◌∷◌, ◌++◌, length, reverse, slice_index_or}
use Rattle.std.specs.List.{range_with_len}
use Rattle.buffer_rows.specs.KeyOrder.{key_order}
use Rattle.buffer_glyphs.specs.Origins.{InList}
use Rattle.buffer_glyphs.specs.Events.{Event, Delete, Move, Arrange, Reverse}
use Rattle.buffer_lists.specs.Facts.{group_lengths}

-- the indices of keys, in stable order by key
abbrev pub order_of : List ℕ → List ℕ
order_of keys = key_order (λ i. slice_index_or keys i 0) (range_with_len 0 (length keys))

-- the first n indices, the last first
abbrev pub indices_reversed : ℕ → List ℕ
indices_reversed n = reverse (range_with_len 0 n)

-- the event that reverses n glyphs from an index on; where that is requested they are merged first
abbrev pub group_event : Bool → ℕ → ℕ → Event
group_event true at n = Move InList at (indices_reversed n)
group_event false at n = Arrange at (indices_reversed n)

-- groups of given lengths from an index on, one after another
abbrev pub group_events : Bool → ℕ → List ℕ → List Event
group_events merge at [] = []
group_events merge at (n ∷ lens) = group_event merge at n ∷ group_events merge (at + n) lens

-- the events of a reversal of groups: each group is reversed in place, and then the whole list, so that each group is
-- in its own order
abbrev pub groups_reversed : {X : Type 0} → Bool → (X → X → Bool) → List X → List Event
groups_reversed merge joins xs = group_events merge 0 (group_lengths joins xs) ++ Reverse ∷ []

-- the events that delete the elements that a test picks, one after another, from an index on
abbrev pub deletions_from : {X : Type 0} → (X → Bool) → ℕ → List X → List Event
deletions_from goes at [] = []
deletions_from goes at (x ∷ xs) = if goes x then Delete at ∷ deletions_from goes at xs else deletions_from goes (at + 1) xs

-- the events that delete the elements that a test picks, from the left; each index is that of the list at that time
abbrev pub deletions : {X : Type 0} → (X → Bool) → List X → List Event
deletions goes xs = deletions_from goes 0 xs
