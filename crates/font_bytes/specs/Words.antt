-- Numbers at offsets of bytes, the more significant byte first (OpenType, chapter 1, data types).
use Rattle.std.specs.Prelude.{ℕ, ℤ, ◌+◌, ◌*◌, nat_le, Bool, if◌then◌else◌, List, length, slice_index, Option, Some, None, Result, Ok, Err, ⊤}
use Rattle.std.specs.Int.{w16, cast_signed}
use Rattle.font_bytes.specs.declared.fault.TableFault.{TableFault}
use Rattle.font_bytes.specs.declared.fault.TableFault.TheVariants.{Short}

-- whether the bytes have n bytes from an offset on
abbrev pub fits : List ℕ → ℕ → ℕ → Bool
fits bytes at count = nat_le (at + count) (length bytes)

-- a refusal where the bytes end before n bytes from an offset on
abbrev pub need : List ℕ → ℕ → ℕ → Result ⊤ TableFault
need bytes at count = if fits bytes at count then Ok tt else Err (Short at)

-- the uint8 at an offset, 0 past the end
abbrev pub byte : List ℕ → ℕ → ℕ
byte bytes at = slice_index bytes at

-- the uint16 at an offset, 0 for bytes past the end
unfoldable pub word : List ℕ → ℕ → ℕ
word bytes at = slice_index bytes at * 256 + slice_index bytes (at + 1)

-- the uint16 at an offset, none past the end
abbrev pub word_at : List ℕ → ℕ → Option ℕ
word_at bytes at = if fits bytes at 2 then Some (word bytes at) else None

-- the int16 at an offset: two's complement
unfoldable pub signed_word : List ℕ → ℕ → ℤ
signed_word bytes at = cast_signed w16 (word bytes at)

-- the uint24 at an offset
unfoldable pub triple : List ℕ → ℕ → ℕ
triple bytes at = byte bytes at * 65536 + word bytes (at + 1)

-- the uint32 at an offset
unfoldable pub long : List ℕ → ℕ → ℕ
long bytes at = word bytes at * 65536 + word bytes (at + 2)

-- the uint32 at an offset, none past the end
abbrev pub long_at : List ℕ → ℕ → Option ℕ
long_at bytes at = if fits bytes at 4 then Some (long bytes at) else None
