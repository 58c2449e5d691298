-- Cluster numbers in order.
use Rattle.std.specs.Prelude.{ℕ, ◌≤◌, ◌<◌, ◌==◌, ◌+◌, ◌⊎◌, Bool, true, false, not, IsTrue, List, [], ◌∷◌, ◌++◌, take, drop}
use Rattle.std.specs.List.{list_any}
use Rattle.buffer_glyphs.specs.Parts.{PartEvent, JoinParts, ReplaceParts, DeletePart, CirclePart, ReverseParts, range_of, after_part_event}

-- m is related to each number of the list
abbrev pub AllFrom : (ℕ → ℕ → Type 0) → ℕ → List ℕ → Type 0
AllFrom R m [] = Unit {0}
AllFrom R m (n ∷ ns) = R m n × AllFrom R m ns

-- each number is related to all after it
abbrev pub IsChain : (ℕ → ℕ → Type 0) → List ℕ → Type 0
IsChain R [] = Unit {0}
IsChain R (n ∷ ns) = AllFrom R n ns × IsChain R ns

-- the numbers never decrease
abbrev pub IsRising : List ℕ → Type 0
IsRising ns = IsChain (λ m n. m ≤ n) ns

-- the numbers never increase
abbrev pub IsFalling : List ℕ → Type 0
IsFalling ns = IsChain (λ m n. n ≤ m) ns

-- the numbers never decrease, or where `falls` never increase
abbrev pub IsInOrder : Bool → List ℕ → Type 0
IsInOrder false ns = IsRising ns
IsInOrder true ns = IsFalling ns

-- the numbers are in one order or the other
abbrev pub IsOrdered : List ℕ → Type 0
IsOrdered ns = IsRising ns ⊎ IsFalling ns

-- whether a number is among those of the list
abbrev pub has_number : List ℕ → ℕ → Bool
has_number ns n = list_any (λ m. m == n) ns

-- m is among the numbers, and none is less
pub record IsLeast (m : ℕ) (ns : List ℕ) : Type 0 where
  pub among : IsTrue (has_number ns m)
  pub below : (n : ℕ) → IsTrue (has_number ns n) → m ≤ n

-- each number of the new list is one of the old
abbrev pub BringsNone : List ℕ → List ℕ → Type 0
BringsNone old new = (n : ℕ) → IsTrue (has_number new n) → IsTrue (has_number old n)

-- the order of the numbers after some events: each reversal turns it
abbrev pub falls_after : Bool → List PartEvent → Bool
falls_after falls [] = falls
falls_after falls (ReverseParts ∷ es) = falls_after (not falls) es
falls_after falls (JoinParts from to ∷ es) = falls_after falls es
falls_after falls (ReplaceParts at taken given ∷ es) = falls_after falls es
falls_after falls (DeletePart at ∷ es) = falls_after falls es
falls_after falls (CirclePart beside ∷ es) = falls_after falls es

-- one of the parts of the items deleted from an index on keeps an item
abbrev pub shares_part : ℕ → ℕ → List ℕ → Bool
shares_part at taken ns = list_any (has_number (take at ns ++ drop (at + taken) ns)) (range_of at (at + taken) ns)

-- a replacement outputs an item, or shares a part with an item that stays
abbrev pub IsKept : PartEvent → List ℕ → Type 0
IsKept (ReplaceParts at taken given) ns = (0 < given) ⊎ IsTrue (shares_part at taken ns)
IsKept ReverseParts ns = Unit {0}
IsKept (JoinParts from to) ns = Unit {0}
IsKept (DeletePart at) ns = Unit {0}
IsKept (CirclePart beside) ns = Unit {0}

-- no replacement of the list deletes the last item of a part
abbrev pub IsGiving : List PartEvent → List ℕ → Type 0
IsGiving [] ns = Unit {0}
IsGiving (e ∷ es) ns = IsKept e ns × IsGiving es (after_part_event ns e)
