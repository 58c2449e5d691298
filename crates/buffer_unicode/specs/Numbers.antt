-- Numbers that are characters.
use Rattle.std.specs.Prelude.{ℕ, Bool, ◌||◌, ◌&&◌, nat_lt, nat_le}

-- whether a number is a Unicode scalar value: a code point that is no surrogate (The Unicode Standard, D76)
abbrev pub is_scalar : ℕ → Bool
is_scalar c = nat_lt c 0xD800 || (nat_le 0xE000 c && nat_lt c 0x110000)
