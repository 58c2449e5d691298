-- The first bytes of a text, filled with spaces.
use Rattle.std.proofs.Common.{◌≡◌, ℕ, List, [], ◌∷◌, refl, get_or}
use Rattle.buffer_common.specs.Tag.{tag_of, tag_of_text}

pub first_four : (first : ℕ) (rest : List ℕ)
    → tag_of_text (first ∷ rest)
    ≡ tag_of (get_or (first ∷ rest) 0 32 ∷ get_or (first ∷ rest) 1 32 ∷ get_or (first ∷ rest) 2 32 ∷ get_or (first ∷ rest) 3 32 ∷ [])
first_four first [] = refl
first_four first (b ∷ []) = refl
first_four first (b ∷ c ∷ []) = refl
first_four first (b ∷ c ∷ d ∷ rest) = refl
