-- What walks over glyphs leave of items and positions, as functions of items only.
use Rattle.std.specs.Prelude.{ℕ, not, Bool, if◌then◌else◌, List, [], ◌∷◌, ◌++◌, length, map, take, drop, filter}
use Rattle.buffer_glyphs.specs.Items.{Item, Position}
use Rattle.buffer_lists.specs.Turning.{groups}

-- the items that a test does not pick
abbrev pub items_kept : (Item → Bool) → List Item → List Item
items_kept q xs = filter (λ x. not (q x)) xs

-- the positions of the items that a test does not pick
abbrev pub positions_kept : (Item → Bool) → List Item → List Position → List Position
positions_kept q [] ps = []
positions_kept q (x ∷ xs) [] = []
positions_kept q (x ∷ xs) (p ∷ ps) = if q x then positions_kept q xs ps else p ∷ positions_kept q xs ps

-- the length of each group of a list
abbrev pub group_lengths : {X : Type 0} → (X → X → Bool) → List X → List ℕ
group_lengths p xs = map (λ ys. length ys) (groups p xs)

-- ranges of given lengths in reversed order, each in its own order
abbrev pub pieces_reversed : {X : Type 0} → List ℕ → List X → List X
pieces_reversed [] xs = []
pieces_reversed (n ∷ lens) xs = pieces_reversed lens (drop n xs) ++ take n xs

-- the positions of the items after a reversal of their groups
abbrev pub positions_turned : (Item → Item → Bool) → List Item → List Position → List Position
positions_turned q xs ps = pieces_reversed (group_lengths q xs) ps
