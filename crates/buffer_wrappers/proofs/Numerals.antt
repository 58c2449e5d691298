-- A printed number is read back from the text that it begins.
use Rattle.std.proofs.Common.{◌≡◌, ℕ, suc, ◌^◌, ◌<◌, ◌⊎◌, inl, inr, List, [], ◌∷◌, ◌++◌, length, refl, sym, ap, subst, ℤ, pos, negsuc, arith}
use Rattle.std.proofs.lemmas.Fmt.{decimal_is_IsNumeral, decimal_injective}
use Rattle.std.proofs.lemmas.Str.Parse.{digit_from_value}
use Rattle.std.proofs.lemmas.Int.{ints}
use Rattle.std.specs.Char.{digit_value}
use Rattle.std.specs.Fmt.{decimal, signed_decimal}
use Rattle.std.specs.Int.RustNames.{FitsSigned}
use Rattle.std.specs.Int.{w32}
use Rattle.std.specs.Str.Parse.{AllDigits}

-- no digit stands first
abbrev pub IsClear : List ℕ → Type 0
IsClear [] = Unit {0}
IsClear (c ∷ cs) = (c < 48) ⊎ (57 < c)

digit_is_not_clear : (c : ℕ) (cs : List ℕ) → digit_value c < 10 → IsClear (c ∷ cs) → ⊥
digit_is_not_clear c cs digit clear = let range = digit_from_value c digit in
    elim clear [ inl low ↦ omega (arith, range) | inr high ↦ omega (arith, range) ]

-- digits end where no digit follows
digits_split : (a b xs ys : List ℕ) → AllDigits 10 a → AllDigits 10 b → IsClear xs → IsClear ys → a ++ xs ≡ b ++ ys → (a ≡ b) × (xs ≡ ys)
digits_split [] [] xs ys da db cx cy e = (refl, e)
digits_split [] (d ∷ b) xs ys da db cx cy e = absurd (digit_is_not_clear d (b ++ ys) db.0 (subst IsClear e cx))
digits_split (c ∷ a) [] xs ys da db cx cy e = absurd (digit_is_not_clear c (a ++ xs) da.0 (subst IsClear (sym e) cy))
digits_split (c ∷ a) (d ∷ b) xs ys da db cx cy e =
    let first : c ≡ d = cc in let rest : a ++ xs ≡ b ++ ys = cc in
    let parts = digits_split a b xs ys da.1 db.1 cx cy rest in
    (cc (first, parts.0), parts.1)

pub decimal_split : (m n : ℕ) (xs ys : List ℕ) → m < 2 ^ 64 → n < 2 ^ 64 → IsClear xs → IsClear ys
    → decimal m ++ xs ≡ decimal n ++ ys → (m ≡ n) × (xs ≡ ys)
decimal_split m n xs ys small_m small_n cx cy e =
    let parts = digits_split (decimal m) (decimal n) xs ys (decimal_is_IsNumeral m small_m).0.1 (decimal_is_IsNumeral n small_n).0.1 cx cy e in
    (decimal_injective m n small_m small_n parts.0, parts.1)

-- a number without a sign is none with one
decimal_is_not_signed : (m : ℕ) (xs ys : List ℕ) → m < 2 ^ 64 → IsClear xs → decimal m ++ xs ≡ 45 ∷ ys → ⊥
decimal_is_not_signed m xs ys small cx e =
    let numeral = (decimal_is_IsNumeral m small).0 in
    let none = digits_split (decimal m) [] xs (45 ∷ ys) numeral.1 tt cx (inl (omega arith)) e in
    omega (arith, numeral.0, ap length none.0)

pub signed_split : (y z : ℤ) (xs ys : List ℕ) → FitsSigned w32 y → FitsSigned w32 z → IsClear xs → IsClear ys
    → signed_decimal y ++ xs ≡ signed_decimal z ++ ys → (y ≡ z) × (xs ≡ ys)
signed_split (pos m) (pos n) xs ys fits_y fits_z cx cy e =
    let parts = decimal_split m n xs ys (omega (arith, ints)) (omega (arith, ints)) cx cy e in (ap pos parts.0, parts.1)
signed_split (pos m) (negsuc n) xs ys fits_y fits_z cx cy e = absurd (decimal_is_not_signed m xs _ (omega (arith, ints)) cx e)
signed_split (negsuc m) (pos n) xs ys fits_y fits_z cx cy e = absurd (decimal_is_not_signed n ys _ (omega (arith, ints)) cy (sym e))
signed_split (negsuc m) (negsuc n) xs ys fits_y fits_z cx cy e =
    let rest : decimal (suc m) ++ xs ≡ decimal (suc n) ++ ys = cc in
    let parts = decimal_split (suc m) (suc n) xs ys (omega (arith, ints)) (omega (arith, ints)) cx cy rest in
    (ap negsuc (omega (arith, parts.0)), parts.1)
