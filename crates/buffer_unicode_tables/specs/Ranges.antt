-- Facts on each, or on some, code point of a range.
use Rattle.std.specs.Prelude.{ℕ, ◌≡◌, ◌+◌, ◌<◌, ◌≤◌, Bool, true}

-- each of the `count` code points from `base` on passes a test
abbrev pub AllAmong : ℕ → ℕ → (ℕ → Bool) → Type 0
AllAmong base count p = (c : ℕ) → base ≤ c → c < base + count → p c ≡ true

-- one of the `count` code points from `base` on has a property
abbrev pub SomeAmong : ℕ → ℕ → (ℕ → Type 0) → Type 0
SomeAmong base count P = (c : ℕ) × ((base ≤ c) × (c < base + count) × P c)
