-- Neighbouring groups of a list: their merges, and orders within each.
use Rattle.std.specs.Prelude.{ℕ, ◌≡◌, ◌≤◌, ◌+◌, true, List, [], ◌∷◌, length}
use Rattle.buffer_glyphs.specs.Parts.{range_of}
use Rattle.buffer_glyphs.specs.Levels.{InList}
use Rattle.buffer_glyphs.specs.Events.{Event, Merge, Arrange}
use Rattle.buffer_parts.specs.Orderly.{are_one}

-- the merge of each group; the groups have these lengths and begin at an index
abbrev pub merges_from : ℕ → List ℕ → List Event
merges_from at [] = []
merges_from at (n ∷ lens) = Merge InList at (at + n) ∷ merges_from (at + n) lens

-- each group takes the order that its length determines
abbrev pub arranges_from : (ℕ → List ℕ) → ℕ → List ℕ → List Event
arranges_from order at [] = []
arranges_from order at (n ∷ lens) = Arrange at (order n) ∷ arranges_from order (at + n) lens

-- within each group all numbers are the same
abbrev pub AreOneGroups : ℕ → List ℕ → List ℕ → Type 0
AreOneGroups at [] ns = Unit {0}
AreOneGroups at (n ∷ lens) ns = (are_one (range_of at (at + n) ns) ≡ true) × AreOneGroups (at + n) lens ns

-- no group has more than one element
abbrev pub AreSingle : List ℕ → Type 0
AreSingle [] = Unit {0}
AreSingle (n ∷ lens) = (n ≤ 1) × AreSingle lens

-- the order for a length has that length
abbrev pub IsFitting : (ℕ → List ℕ) → Type 0
IsFitting order = (n : ℕ) → length (order n) ≡ n
