-- The rows of a run, one row at a time.
use Rattle.std.proofs.Common.{◌≡◌, ◌≢◌, ℕ, zero, suc, ◌+◌, ◌-◌, ◌<◌, ◌≤◌, [], ◌∷◌, refl, arith}
use Rattle.shell_tables_bytes.specs.Records.{run_rows}

rows_step : (first count number : ℕ) → count ≢ 0 → run_rows first count number ≡ (first ∷ number ∷ []) ∷ run_rows (first + 1) (count - 1) number
rows_step first zero number some = absurd (some refl)
rows_step first (suc count) number some = let e : suc count - 1 ≡ count = omega arith in rw e refl

rows_none : (first count number : ℕ) → count ≡ 0 → run_rows first count number ≡ []
rows_none first zero number none = refl
rows_none first (suc count) number none = absurd (omega arith)

-- the row with an index, and those after it
pub run_goes_on : (first count number index : ℕ) → index < count
    → run_rows (first + index) (count - index) number ≡ ((first + index) ∷ number ∷ []) ∷ run_rows (first + (index + 1)) (count - (index + 1)) number
run_goes_on first count number index inside =
    let some : count - index ≢ 0 = omega arith in
    let next : first + index + 1 ≡ first + (index + 1) = omega arith in
    let left : count - index - 1 ≡ count - (index + 1) = omega arith in
    rw (next, left) at (rows_step (first + index) (count - index) number some)

-- no row is left
pub run_ends : (first count number index : ℕ) → count ≤ index → run_rows (first + index) (count - index) number ≡ []
run_ends first count number index past = rows_none (first + index) (count - index) number (omega arith)
