-- The number of times that the tiles of a run repeat.
use Rattle.std.specs.Prelude.{ℕ, ℤ, pos, negsuc, ◌-◌, ◌/◌, ◌&&◌, nat_lt, if◌then◌else◌}
use Rattle.script_arabic.specs.declared.runs.Run.{Run}

-- a width, 0 where it is negative
abbrev pub natural : ℤ → ℕ
natural (pos n) = n
natural (negsuc n) = 0

-- the width of the word that the fixed tiles leave
abbrev pub left_of_word : Run → ℕ
left_of_word r = natural r.word - r.fixed

-- the number of copies of each repeating tile: the least that make the tiles reach the word's width; none where they
-- reach it without copies, or have no width
abbrev pub copies : Run → ℕ
copies r = if nat_lt 0 r.repeating && nat_lt r.repeating (left_of_word r) then (left_of_word r - 1) / r.repeating else 0
