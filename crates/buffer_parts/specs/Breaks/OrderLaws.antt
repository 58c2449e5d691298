-- What holds of orders that permute.
use Rattle.std.specs.Prelude.{ℕ, ◌≤◌, ◌+◌, List, ◌++◌, length, reverse}
use Rattle.std.specs.List.{range_with_len}
use Rattle.std.specs.List.Sorted.{IsPermutation}
use Rattle.buffer_parts.specs.Breaks.Lossless.{IsPermuting}

-- an order that is a permutation of the indices below its length permutes
abbrev pub PermutationsPermute : Type 0
PermutationsPermute = (from : ℕ) (order : List ℕ) (n : ℕ) → from + length order ≤ n → IsPermutation (range_with_len 0 (length order)) order → IsPermuting from order n

-- an order that reverses k indices permutes
abbrev pub ReversalsPermute : Type 0
ReversalsPermute = (from k n : ℕ) → from + k ≤ n → IsPermuting from (reverse (range_with_len 0 k)) n

-- an order that moves k indices before the j that precede them permutes
abbrev pub MovesPermute : Type 0
MovesPermute = (from j k n : ℕ) → from + (j + k) ≤ n → IsPermuting from (range_with_len j k ++ range_with_len 0 j) n
