-- Cluster numbers after the deletion of a glyph.
use Rattle.std.specs.Prelude.{ℕ, ◌==◌, ◌||◌, nat_lt, if◌then◌else◌, List, [], ◌∷◌, ◌++◌, Option, Some, None, map, drop}
use Rattle.std.specs.List.{list_all}
use Rattle.buffer_glyphs.specs.declared.level.BufferClusterLevel.{BufferClusterLevel}
use Rattle.buffer_glyphs.specs.Parts.{first_of, last_of, is_number}
use Rattle.buffer_glyphs.specs.Merges.{numbers_merged_at}

-- all p at the end of a list become n
abbrev pub end_renumbered : ℕ → ℕ → List ℕ → List ℕ
end_renumbered p n [] = []
end_renumbered p n (m ∷ ms) = if list_all (λ k. k == p) (m ∷ ms) then map (λ k. n) (m ∷ ms) else m ∷ end_renumbered p n ms

-- a glyph deleted whose number neither neighbour has: the run before it takes its number if that is less; with none
-- before it, it is merged with the next
abbrev pub numbers_deleted_alone : BufferClusterLevel → Option ℕ → List ℕ → ℕ → List ℕ → List ℕ
numbers_deleted_alone level (Some p) front n back = (if nat_lt n p then end_renumbered p n front else front) ++ back
numbers_deleted_alone level None front n back = front ++ drop 1 (numbers_merged_at level 0 2 (n ∷ back))

-- a glyph of number n deleted from between others: no number changes where a neighbour has n
abbrev pub number_deleted : BufferClusterLevel → List ℕ → ℕ → List ℕ → List ℕ
number_deleted level front n back = if is_number (last_of front) n || is_number (first_of back) n then front ++ back else numbers_deleted_alone level (last_of front) front n back
