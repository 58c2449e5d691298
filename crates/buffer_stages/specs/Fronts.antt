-- Elements moved to the front of a list, each before those moved earlier.
use Rattle.std.specs.Prelude.{drop, take, ℕ, ◌≡◌, ◌+◌, ◌&&◌, Bool, nat_lt, if◌then◌else◌, true, false, List, [], ◌∷◌, ◌++◌}
use Rattle.buffer_glyphs.specs.declared.info.hb_glyph_info_t.{hb_glyph_info_t}
use Rattle.buffer_glyphs.specs.Items.{Item, item_of}
use Rattle.buffer_stages.specs.Moves.{MoveToFront}

-- the elements that are moved, alone or with the next, in their final order
abbrev pub fronts : {X : Type 0} → (X → X → Bool) → (X → Bool) → List X → List X
fronts pair one [] = []
fronts pair one (x ∷ []) = if one x then x ∷ [] else []
fronts pair one (x ∷ y ∷ zs) = if pair x y then fronts pair one zs ++ (x ∷ y ∷ []) else if one x then fronts pair one (y ∷ zs) ++ (x ∷ []) else fronts pair one (y ∷ zs)

-- the elements that are not moved to the front, in their order
abbrev pub elements_after_fronts : {X : Type 0} → (X → X → Bool) → (X → Bool) → List X → List X
elements_after_fronts pair one [] = []
elements_after_fronts pair one (x ∷ []) = if one x then [] else x ∷ []
elements_after_fronts pair one (x ∷ y ∷ zs) = if pair x y then elements_after_fronts pair one zs else if one x then elements_after_fronts pair one (y ∷ zs) else x ∷ elements_after_fronts pair one (y ∷ zs)

-- the elements that are moved, and after them the others
abbrev pub with_fronts_moved : {X : Type 0} → (X → X → Bool) → (X → Bool) → List X → List X
with_fronts_moved pair one xs = fronts pair one xs ++ elements_after_fronts pair one xs

-- some elements of the front, and after them a list of which elements are moved before these
abbrev pub with_fronts_moved_after : {X : Type 0} → (X → X → Bool) → (X → Bool) → ℕ → List X → List X
with_fronts_moved_after pair one n xs = fronts pair one (drop n xs) ++ (take n xs ++ elements_after_fronts pair one (drop n xs))

-- the moves of elements, with i elements before the list; the first element of all need not move
abbrev pub moves_to_front : {X : Type 0} → (X → X → Bool) → (X → Bool) → ℕ → List X → List MoveToFront
moves_to_front pair one i [] = []
moves_to_front pair one i (x ∷ []) = if one x && nat_lt 0 i then record { passed = i; taken = 1 } ∷ [] else []
moves_to_front pair one i (x ∷ y ∷ zs) =
    if pair x y then record { passed = i; taken = 2 } ∷ moves_to_front pair one (i + 2) zs
    else if one x && nat_lt 0 i then record { passed = i; taken = 1 } ∷ moves_to_front pair one (i + 1) (y ∷ zs)
    else moves_to_front pair one (i + 1) (y ∷ zs)

-- no pair overlaps another
abbrev pub StandApart : {X : Type 0} → (X → X → Bool) → Type 0
StandApart {X = X} pair = (x y z : X) → pair x y ≡ true → pair y z ≡ false

-- a test of pairs of items, on glyphs
abbrev pub pair_seen : (Item → Item → Bool) → hb_glyph_info_t → hb_glyph_info_t → Bool
pair_seen pair g h = pair (item_of g) (item_of h)

-- a test of items, on glyphs
abbrev pub one_seen : (Item → Bool) → hb_glyph_info_t → Bool
one_seen one g = one (item_of g)
