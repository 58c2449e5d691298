-- What a search finds in a list, and in a longer one that begins with it.
use Rattle.std.specs.Prelude.{ℕ, ◌≡◌, ◌≤◌, ◌<◌, ◌+◌, List, [], ◌∷◌, ◌++◌, length, map, Result, Ok, Err}
use Rattle.buffer_glyphs.specs.Items.{Item}
use Rattle.layout_match.specs.declared.search.match_t.{match_t}
use Rattle.layout_match.specs.Matches.{nearest, sequence_end, indices}
use Rattle.buffer_parts.specs.Breaks.Fragments.{with_ligature_renamed}

-- a function of items reads no ligature number
abbrev pub IsBlind : {R : Type 0} → (Item → R) → Type 0
IsBlind {R} ask = (f : ℕ → ℕ) (x : Item) → ask (with_ligature_renamed f x) ≡ ask x

-- so does each of some
abbrev pub AreBlind : {R : Type 0} → List (Item → R) → Type 0
AreBlind {R} [] = Unit {0}
AreBlind {R} (ask ∷ asks) = IsBlind ask × AreBlind asks

-- a search in a longer list finds what one in its first n items finds; where that fails, it finds nothing, or something
-- after them
abbrev pub FindsSame : ℕ → Result ℕ ℕ → Result ℕ ℕ → Type 0
FindsSame n (Ok i) (Ok j) = (i ≡ j) × (j < n)
FindsSame n (Ok i) (Err end) = n ≤ i
FindsSame n (Err far) (Ok j) = ⊥
FindsSame n (Err far) (Err end) = Unit {0}

-- a match in a longer list ends where one in its first n items ends; where that fails, it fails, or ends after them
abbrev pub EndsSame : ℕ → Result ℕ ℕ → Result ℕ ℕ → Type 0
EndsSame n (Ok i) (Ok j) = (i ≡ j) × (j ≤ n)
EndsSame n (Ok i) (Err end) = n < i
EndsSame n (Err far) (Ok j) = ⊥
EndsSame n (Err far) (Err end) = Unit {0}

-- law: a search that doesn't reach the end of a list finds the same in a longer one, and one that fails there finds
-- nothing before it
abbrev pub SearchesAgree : Type 0
SearchesAgree = (ask : Item → match_t) (f : ℕ → ℕ) (at n : ℕ) (xs ys : List Item) → IsBlind ask → n ≡ at + length xs → FindsSame n (nearest ask at (map (with_ligature_renamed f) xs ++ ys)) (nearest ask at xs)

-- law: a match that doesn't reach the end of a list is the same match in a longer one, at the same indices
abbrev pub MatchesAgree : Type 0
MatchesAgree = (asks : List (Item → match_t)) (f : ℕ → ℕ) (at : ℕ) (xs ys : List Item) → AreBlind asks → at ≤ length xs
    → EndsSame (length xs) (sequence_end asks at (map (with_ligature_renamed f) xs ++ ys)) (sequence_end asks at xs)
    × ((end : ℕ) → sequence_end asks at xs ≡ Ok end → indices asks at (map (with_ligature_renamed f) xs ++ ys) ≡ indices asks at xs)
