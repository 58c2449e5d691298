-- Syllable bytes, which distinguish a syllable from its neighbours: a serial number and the kind.
use Rattle.std.specs.Prelude.{ℕ, ◌+◌, ◌*◌, ◌-◌, ◌/◌, ◌%◌, ◌<◌, ◌≡◌, ◌≢◌, bit_and, List, [], ◌∷◌, ◌++◌, length, replicate}
use Rattle.buffer_stages.specs.Cuts.{EndsInside, Syllable, syllables}

-- the serial number of a syllable, from 1 to 15 and then again from 1, times 16, and its kind
abbrev pub syllable_byte : ℕ → ℕ → ℕ
syllable_byte index kind = (index % 15 + 1) * 16 + kind

-- the kind in a syllable byte: its low four bits
abbrev pub kind_of_byte : ℕ → ℕ
kind_of_byte byte = bit_and byte 15

-- the bytes of the elements of syllables, the first of which has an index among all
abbrev pub bytes_from : ℕ → List Syllable → List ℕ
bytes_from index [] = []
bytes_from index (s ∷ ss) = replicate (s.end - s.start) (syllable_byte index s.kind) ++ bytes_from (index + 1) ss

-- the bytes of the elements of a list
abbrev pub syllable_bytes : List Syllable → List ℕ
syllable_bytes ss = bytes_from 0 ss

-- each element has one syllable byte
abbrev pub BytesAreOne : Type 0
BytesAreOne = (next : ℕ → ℕ × ℕ) (count : ℕ) → EndsInside next count → length (syllable_bytes (syllables next count)) ≡ count

-- a byte below 256, from which the serial number and the kind are read
pub record IsByteOf (byte index kind : ℕ) : Type 0 where
  pub fits : byte < 256
  pub serial : byte / 16 ≡ index % 15 + 1
  pub kind_below : byte % 16 ≡ kind

-- a syllable byte determines the serial number and the kind
abbrev pub ByteGivesSyllable : Type 0
ByteGivesSyllable = (index kind : ℕ) → kind < 16 → IsByteOf (syllable_byte index kind) index kind

-- a syllable and the next have different bytes
abbrev pub NeighboursDiffer : Type 0
NeighboursDiffer = (index kind other : ℕ) → kind < 16 → other < 16 → syllable_byte index kind ≢ syllable_byte (index + 1) other
