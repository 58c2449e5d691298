-- Units at the front of bytes.
use Rattle.std.proofs.Common.{ℕ, ◌≡◌, ◌≤◌, ◌<◌, ◌+◌, ◌*◌, List, [], ◌∷◌, get_or, length, drop, refl, arith}
use Rattle.c_characters.specs.Units.{units_16, units_32}

pub no_unit_16 : (bs : List ℕ) → length bs < 2 → units_16 bs ≡ []
no_unit_16 [] lt = refl
no_unit_16 (a ∷ []) lt = refl
no_unit_16 (a ∷ b ∷ bs) lt = absurd (omega (arith, lt))

pub unit_16_step : (bs rest : List ℕ) (u a b : ℕ) → 2 ≤ length bs → a ≡ get_or bs 0 a → b ≡ get_or bs 1 b → u ≡ a + b * 256 → rest ≡ drop 2 bs → units_16 bs ≡ u ∷ units_16 rest
unit_16_step [] rest u a b le first second unit cut = absurd (omega (arith, le))
unit_16_step (x ∷ []) rest u a b le first second unit cut = absurd (omega (arith, le))
unit_16_step (x ∷ y ∷ bs) rest u a b le first second unit cut = rw (unit, first, second, cut) refl

pub no_unit_32 : (bs : List ℕ) → length bs < 4 → units_32 bs ≡ []
no_unit_32 [] lt = refl
no_unit_32 (a ∷ []) lt = refl
no_unit_32 (a ∷ b ∷ []) lt = refl
no_unit_32 (a ∷ b ∷ c ∷ []) lt = refl
no_unit_32 (a ∷ b ∷ c ∷ d ∷ bs) lt = absurd (omega (arith, lt))

pub unit_32_step : (bs rest : List ℕ) (u a b c d : ℕ) → 4 ≤ length bs → a ≡ get_or bs 0 a → b ≡ get_or bs 1 b → c ≡ get_or bs 2 c → d ≡ get_or bs 3 d
    → u ≡ a + b * 256 + (c + d * 256) * 65536 → rest ≡ drop 4 bs → units_32 bs ≡ u ∷ units_32 rest
unit_32_step [] rest u a b c d le first second third fourth unit cut = absurd (omega (arith, le))
unit_32_step (x ∷ []) rest u a b c d le first second third fourth unit cut = absurd (omega (arith, le))
unit_32_step (x ∷ y ∷ []) rest u a b c d le first second third fourth unit cut = absurd (omega (arith, le))
unit_32_step (x ∷ y ∷ z ∷ []) rest u a b c d le first second third fourth unit cut = absurd (omega (arith, le))
unit_32_step (x ∷ y ∷ z ∷ w ∷ bs) rest u a b c d le first second third fourth unit cut = rw (unit, first, second, third, fourth, cut) refl
