-- The types of spaces with their numbers.
use Rattle.std.specs.Prelude.{◌≡◌, ℕ, List, [], ◌∷◌, map}
use Rattle.buffer_unicode.specs.declared.space.TheConstants as space

-- the types of spaces with their numbers: for a fraction of an em its denominator
abbrev pub space_numbers : List (ℕ × ℕ)
space_numbers =
    (space.NOT_SPACE, 0) ∷
    (space.SPACE_EM, 1) ∷
    (space.SPACE_EM_2, 2) ∷
    (space.SPACE_EM_3, 3) ∷
    (space.SPACE_EM_4, 4) ∷
    (space.SPACE_EM_5, 5) ∷
    (space.SPACE_EM_6, 6) ∷
    (space.SPACE_EM_16, 16) ∷
    (space.SPACE_4_EM_18, 17) ∷
    (space.SPACE, 18) ∷
    (space.SPACE_FIGURE, 19) ∷
    (space.SPACE_PUNCTUATION, 20) ∷
    (space.SPACE_NARROW, 21) ∷
    []

-- each type has its number
abbrev pub SpaceTypesAreListed : Type 0
SpaceTypesAreListed = map (λ (row : ℕ × ℕ). row.0) space_numbers ≡ map (λ (row : ℕ × ℕ). row.1) space_numbers
