-- The slices of a few results, by computation.
use Rattle.std.proofs.Common.{ℕ, ◌≡◌, true, false, List, [], ◌∷◌, map, refl}
use Rattle.shape_slices.specs.Deciding.{are_fitting}
use Rattle.shape_slices.specs.Runs.{byte_range, glyph_range}
use Rattle.shape_slices.specs.Walk.{with_glyphs}

-- "ab" from right to left
turned : map byte_range (with_glyphs 2 0 (1 ∷ 0 ∷ []) []) ≡ (1, 2) ∷ (0, 1) ∷ []
turned = refl

-- "afi", with a ligature of the last two characters
ligature : map byte_range (with_glyphs 3 0 (0 ∷ 1 ∷ []) []) ≡ (0, 1) ∷ (1, 3) ∷ []
ligature = refl

-- two glyphs of a character of two bytes
two_glyphs : map glyph_range (with_glyphs 3 0 (0 ∷ 0 ∷ 2 ∷ []) []) ≡ (0, 2) ∷ (2, 3) ∷ []
two_glyphs = refl

-- clusters that rise and fall, that are inside a character, or of which none is 0
unordered : are_fitting (0 ∷ 1 ∷ 2 ∷ []) (0 ∷ 2 ∷ 1 ∷ []) ≡ false
unordered = refl

inside : are_fitting (0 ∷ 2 ∷ []) (0 ∷ 1 ∷ []) ≡ false
inside = refl

without_first : are_fitting (0 ∷ 1 ∷ []) (1 ∷ []) ≡ false
without_first = refl

empty : are_fitting [] [] ≡ false
empty = refl

fitting : are_fitting (0 ∷ 2 ∷ []) (2 ∷ 0 ∷ 0 ∷ []) ≡ true
fitting = refl
