-- On which side of a key a row stands.
use Rattle.std.specs.Prelude.{ℕ, Bool, true, false, Option, Some, None}
use Rattle.buffer_unicode.specs.Keys.{is_below}

-- whether a row is after a key, or there is no row
abbrev pub stands_after : {R : Type 0} → (R → ℕ) → (R → ℕ) → ℕ → ℕ → Option R → Bool
stands_after high low h l None = true
stands_after high low h l (Some r) = is_below h l (high r) (low r)

-- whether a row is before a key
abbrev pub stands_before : {R : Type 0} → (R → ℕ) → (R → ℕ) → ℕ → ℕ → Option R → Bool
stands_before high low h l None = false
stands_before high low h l (Some r) = is_below (high r) (low r) h l
