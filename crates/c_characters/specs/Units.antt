-- Code units (Unicode, 3.9 D77) in bytes, each in the machine's order: the less significant byte first.
use Rattle.std.specs.Prelude.{ℕ, ◌+◌, ◌*◌, List, [], ◌∷◌}

-- the code units of 16 bits that bytes hold; a last incomplete one is left out
abbrev pub units_16 : List ℕ → List ℕ
units_16 [] = []
units_16 (a ∷ []) = []
units_16 (a ∷ b ∷ bytes) = (a + b * 256) ∷ units_16 bytes

-- the code units of 32 bits that bytes hold; a last incomplete one is left out
abbrev pub units_32 : List ℕ → List ℕ
units_32 [] = []
units_32 (a ∷ []) = []
units_32 (a ∷ b ∷ []) = []
units_32 (a ∷ b ∷ c ∷ []) = []
units_32 (a ∷ b ∷ c ∷ d ∷ bytes) = (a + b * 256 + (c + d * 256) * 65536) ∷ units_32 bytes
