-- Sums of advances and offsets.
use Rattle.std.specs.Prelude.{ℤ, ◌+ℤ◌, ◌-ℤ◌}
use Rattle.std.specs.Int.{int_wrap, w32}

-- a sum modulo 2^32
abbrev pub plus : ℤ → ℤ → ℤ
plus a b = int_wrap w32 (a +ℤ b)

-- a difference modulo 2^32
abbrev pub minus : ℤ → ℤ → ℤ
minus a b = int_wrap w32 (a -ℤ b)
