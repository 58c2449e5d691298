-- Fields of the tables head and maxp (OpenType, chapter 5).
use Rattle.std.specs.Prelude.{ℕ, ◌==◌, ◌&&◌, not, nat_le, Bool, if◌then◌else◌, List, Result, Ok}
use Rattle.font_bytes.specs.declared.fault.TableFault.{TableFault}
use Rattle.font_bytes.specs.Results.{and_then}
use Rattle.font_bytes.specs.Words.{need, word}

-- unitsPerEm from 16 to 16384, else 1000 (HarfBuzz, head::get_upem)
abbrev pub known_units : ℕ → ℕ
known_units units = if nat_le 16 units && nat_le units 16384 then units else 1000

-- head: unitsPerEm at 18
abbrev pub units_per_em : List ℕ → Result ℕ TableFault
units_per_em head = and_then (need head 0 54) (λ _. Ok (known_units (word head 18)))

-- head: indexToLocFormat at 50, 0 for offsets of 16 bits
abbrev pub has_long_offsets : List ℕ → Result Bool TableFault
has_long_offsets head = and_then (need head 0 54) (λ _. Ok (not (word head 50 == 0)))

-- maxp: numGlyphs at 4
abbrev pub glyph_count : List ℕ → Result ℕ TableFault
glyph_count maxp = and_then (need maxp 0 6) (λ _. Ok (word maxp 4))
