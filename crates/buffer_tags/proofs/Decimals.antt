-- Numbers grow digit by digit.
use Rattle.std.proofs.Common.{◌≡◌, ℕ, List, [], ◌∷◌, ◌+◌, ◌-◌, ◌*◌, ◌≤◌, ◌<◌, suc, fold, drop, length, get_or, drop-cons, arith}

-- the number after one more digit
abbrev pub next_value : ℕ → ℕ → ℕ
next_value value digit = 10 * value + (digit - 48)

pub fold_at_least : (value : ℕ) (digits : List ℕ) → value ≤ fold next_value value digits
fold_at_least value [] = omega arith
fold_at_least value (digit ∷ digits) = omega (arith, fold_at_least (next_value value digit) digits)

pub exceeds : (value most whole at : ℕ) (digits : List ℕ)
    → fold next_value value (drop at digits) ≡ whole
    → at < length digits
    → most < next_value value (get_or digits at 0)
    → most < whole
exceeds value most whole at digits e h more =
    let cut : drop at digits ≡ get_or digits at 0 ∷ drop (suc at) digits = drop-cons digits at 0 h in
    let rest : fold next_value (next_value value (get_or digits at 0)) (drop (suc at) digits) ≡ whole = rw cut at e in
    omega (arith, rest, fold_at_least (next_value value (get_or digits at 0)) (drop (suc at) digits))
