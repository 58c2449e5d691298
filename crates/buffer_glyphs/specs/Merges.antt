-- Cluster numbers after the merge of a range.
use Rattle.std.specs.Prelude.{ℕ, ◌≡◌, min, if◌then◌else◌, IsTrue, List, [], ◌∷◌, map, fold}
use Rattle.buffer_glyphs.specs.declared.level.BufferClusterLevel.{BufferClusterLevel}
use Rattle.buffer_glyphs.specs.Levels.{InList, Manner, Unites, Marks, Keeps, manner}
use Rattle.buffer_glyphs.specs.Parts.{range_of}
use Rattle.buffer_glyphs.specs.Order.{has_number}

-- the least of the numbers, or 0 where there is none
abbrev pub least_number : List ℕ → ℕ
least_number [] = 0
least_number (n ∷ ns) = fold min n ns

-- a number that occurs in a range becomes the least of the range
abbrev pub merged_number : List ℕ → ℕ → ℕ
merged_number range n = if has_number range n then least_number range else n

-- the numbers that occur in a range renumbered to the least of them, everywhere
abbrev pub merged_numbers : List ℕ → List ℕ → List ℕ
merged_numbers range ns = map (merged_number range) ns

-- the numbers after a merge of the indices from `from` up to before `to`: only a union changes them
abbrev pub numbers_merged_as : Manner → ℕ → ℕ → List ℕ → List ℕ
numbers_merged_as Unites from to ns = merged_numbers (range_of from to ns) ns
numbers_merged_as Marks from to ns = ns
numbers_merged_as Keeps from to ns = ns

-- the numbers after a merge of the indices from `from` up to before `to` at a level
abbrev pub numbers_merged_at : BufferClusterLevel → ℕ → ℕ → List ℕ → List ℕ
numbers_merged_at level from to ns = numbers_merged_as (manner InList level) from to ns

-- f makes all numbers of a range equal
abbrev pub IsOneOn : List ℕ → (ℕ → ℕ) → Type 0
IsOneOn range f = (m n : ℕ) → IsTrue (has_number range m) → IsTrue (has_number range n) → f m ≡ f n

-- g is the finest renumbering that makes the range equal: every other one factors through it
pub record IsLeastCoarsening (range : List ℕ) (g : ℕ → ℕ) : Type 0 where
  pub unites : IsOneOn range g
  pub least : (f : ℕ → ℕ) → IsOneOn range f → (n : ℕ) → f (g n) ≡ f n
