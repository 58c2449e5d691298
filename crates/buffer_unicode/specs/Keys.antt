-- Rows in the order of their keys, each of one or two numbers.
use Rattle.std.specs.Prelude.{ℕ, Bool, true, ◌==◌, ◌&&◌, ◌||◌, nat_lt, if◌then◌else◌, List, [], ◌∷◌, Option, Some, None}
use Rattle.buffer_unicode.specs.declared.fault.TablesFault.{TablesFault}
use Rattle.buffer_unicode.specs.declared.fault.TablesFault.TheVariants.{OutOfOrder, OutOfRange}

-- whether one key is less than another, the more significant numbers first
abbrev pub is_below : ℕ → ℕ → ℕ → ℕ → Bool
is_below h l h' l' = nat_lt h h' || (h == h' && nat_lt l l')

-- whether the key of one row is less than that of the other
abbrev pub precedes : {R : Type 0} → (R → ℕ) → (R → ℕ) → R → R → Bool
precedes high low a b = is_below (high a) (low a) (high b) (low b)

-- whether a row is the first, or its key is greater than that of the row before
abbrev pub follows : {R : Type 0} → (R → ℕ) → (R → ℕ) → Option R → R → Bool
follows high low None r = true
follows high low (Some before) r = precedes high low before r

-- whether each key is greater than the one before
abbrev pub rises_after : {R : Type 0} → (R → ℕ) → (R → ℕ) → Option R → List R → Bool
rises_after high low before [] = true
rises_after high low before (r ∷ rs) = follows high low before r && rises_after high low (Some r) rs

-- whether the keys of rows rise strictly
abbrev pub is_rising : {R : Type 0} → (R → ℕ) → (R → ℕ) → List R → Bool
is_rising high low rs = rises_after high low None rs

-- whether the key of a row is this one
abbrev pub is_at : {R : Type 0} → (R → ℕ) → (R → ℕ) → ℕ → ℕ → R → Bool
is_at high low h l r = high r == h && low r == l

-- the fault of the first row that has one: a number outside its range, else a key that is not greater than the one
-- before
abbrev pub row_fault : {R : Type 0} → (R → Bool) → (R → ℕ) → (R → ℕ) → Option R → List R → Option TablesFault
row_fault in_range high low before [] = None
row_fault in_range high low before (r ∷ rs) =
    if in_range r then (if follows high low before r then row_fault in_range high low (Some r) rs else Some OutOfOrder) else Some OutOfRange
