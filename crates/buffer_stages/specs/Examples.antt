-- Examples of lists in syllables, with their bytes.
use Rattle.std.specs.Prelude.{ℕ, zero, suc, ◌+◌, ◌≡◌, [], ◌∷◌}
use Rattle.buffer_stages.specs.Bytes.{syllable_bytes}
use Rattle.buffer_stages.specs.Cuts.{syllable_pieces, syllables}

-- one element of kind 2, then all up to the fourth
abbrev pub one_and_three : ℕ → ℕ × ℕ
one_and_three zero = (1, 2)
one_and_three (suc n) = (4, 2)

-- each element by itself, of kind 2
abbrev pub single : ℕ → ℕ × ℕ
single start = (start + 1, 2)

-- the bytes of these lists
pub record Examples : Type 0 where
  pub pieces : syllable_pieces {X = ℕ} (syllables one_and_three 4) (7 ∷ 8 ∷ 9 ∷ 6 ∷ []) ≡ (7 ∷ []) ∷ (8 ∷ 9 ∷ 6 ∷ []) ∷ []
  pub two_bytes : syllable_bytes (syllables one_and_three 4) ≡ 18 ∷ 34 ∷ 34 ∷ 34 ∷ []
  -- the sixteenth syllable has the number of the first
  pub sixteen_bytes : syllable_bytes (syllables single 16)
      ≡ 18 ∷ 34 ∷ 50 ∷ 66 ∷ 82 ∷ 98 ∷ 114 ∷ 130 ∷ 146 ∷ 162 ∷ 178 ∷ 194 ∷ 210 ∷ 226 ∷ 242 ∷ 18 ∷ []
