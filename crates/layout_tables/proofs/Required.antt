-- The item that a rule requires nearest on a side.
use Rattle.std.proofs.Common.{ℕ, ◌≡◌, Bool, false, List, [], ◌∷◌, ◌++◌, drop, Option, Some, None, slice_get, refl, ap}
use Rattle.layout_tables.specs.Covers.{first_admits}

-- the second item of an input, else the first of a lookahead sequence
pub second_there : {I : Type 0} (input lookahead : List I) (i : I) → slice_get input 1 ≡ Some i → slice_get (drop 1 input ++ lookahead) 0 ≡ Some i
second_there [] lookahead i at = cc
second_there (h ∷ []) lookahead i at = cc
second_there (h ∷ k ∷ input) lookahead i at = at

pub second_missing : {I : Type 0} (input lookahead : List I) → slice_get input 1 ≡ None → slice_get (drop 1 input ++ lookahead) 0 ≡ slice_get lookahead 0
second_missing [] lookahead none = refl
second_missing (h ∷ []) lookahead none = refl
second_missing (h ∷ k ∷ input) lookahead none = cc

-- an item has to stand there
pub item_required : {I : Type 0} (passes : I → ℕ → Bool) (items : List I) (i : I) → slice_get items 0 ≡ Some i → first_admits passes items None ≡ false
item_required passes [] i at = cc
item_required passes (h ∷ items) i at = refl

pub item_decides : {I : Type 0} (passes : I → ℕ → Bool) (items : List I) (i : I) (g : ℕ) → slice_get items 0 ≡ Some i → first_admits passes items (Some g) ≡ passes i g
item_decides passes [] i g at = cc
item_decides passes (h ∷ items) i g at = let same : h ≡ i = cc in ap (λ k. passes k g) same
