-- Numbers of charstrings (TN 5177, 3.2): 16.16 in two's complement, so that 1 is 65536 and -1 is 2^32 - 65536.
use Rattle.std.specs.Prelude.{ℕ, ◌+◌, ◌-◌, ◌*◌, ◌/◌, ◌%◌, ◌==◌, ◌&&◌, ◌||◌, nat_lt, nat_le, Bool, if◌then◌else◌, List, Result, Ok, Err}
use Rattle.font_bytes.specs.declared.fault.TableFault.{TableFault}
use Rattle.font_bytes.specs.Results.{and_then}
use Rattle.font_bytes.specs.Words.{need, byte, word, long}

-- 28, and from 32 on
abbrev pub is_number : ℕ → Bool
is_number code = nat_le 32 code || code == 28

-- the number that begins with a byte at an offset, and its length: -139 + b; two bytes up to 1131; two bytes down to -1131;
-- 28 and an int16; 255 and a Fixed
unfoldable pub number : List ℕ → ℕ → ℕ → Result (ℕ × ℕ) TableFault
number table at code =
    if nat_le 32 code && nat_le code 246 then and_then (need table at 1) (λ _. Ok ((code + 65397) % 65536 * 65536, 1))
    else (if nat_le 247 code && nat_le code 250 then and_then (need table at 2) (λ _. Ok (((code - 247) * 256 + byte table (at + 1) + 108) * 65536, 2))
    else (if nat_le 251 code && nat_le code 254 then and_then (need table at 2) (λ _. Ok ((65536 - ((code - 251) * 256 + byte table (at + 1) + 108)) * 65536, 2))
    else (if code == 28 then and_then (need table at 3) (λ _. Ok (word table (at + 1) * 65536, 3))
    else and_then (need table at 5) (λ _. Ok (long table (at + 1), 5)))))

-- what is added to the number of a subroutine, of n of them (TN 5176, 16)
abbrev pub subr_bias : ℕ → ℕ
subr_bias count = if nat_lt count 1240 then 107 else (if nat_lt count 33900 then 1131 else 32768)

-- the index of the subroutine that an operand names, of n of them
unfoldable pub subr_index : ℕ → ℕ → ℕ
subr_index operand count = (operand / 65536 + subr_bias count) % 65536
