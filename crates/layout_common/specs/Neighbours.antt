-- The glyphs beside the one at which a subtable is tried, and an index of subtables by them.
use Rattle.std.specs.Prelude.{ℕ, ◌≡◌, ◌+◌, ◌*◌, ◌/◌, ◌%◌, Bool, true, false, List, Option, Some, None, slice_get}
use Rattle.layout_common.specs.Bits.{word_has}
use Rattle.layout_common.specs.Buckets.{has_bucket}
use Rattle.layout_common.specs.declared.neighbours.Neighbour.{Neighbour}
use Rattle.layout_common.specs.declared.neighbours.Neighbour.TheVariants.{Unknown, Missing, Glyph}

-- whether what is known of a side may be admitted: a glyph, or that there is none
abbrev pub may_stand : (Option ℕ → Bool) → Neighbour → Bool
may_stand admits Unknown = true
may_stand admits Missing = admits None
may_stand admits (Glyph g) = admits (Some g)

-- the column of a glyph, one of 512 by its low bits; the last column is that of no glyph
abbrev pub column_of : Option ℕ → ℕ
column_of None = 512
column_of (Some g) = g % 512

-- whether the words of an index, of which each has 64 subtables in a column, have the bit of a subtable in a column
abbrev pub in_column : List ℕ → ℕ → ℕ → Bool
in_column words k column = word_has (slice_get words (k / 64 * 513 + column)) (k % 64)

-- no word of an index lacks the bit of a subtable that admits what its column stands for
abbrev pub AreColumns : {S : Type 0} → (S → Option ℕ → Bool) → List S → List ℕ → Type 0
AreColumns {S} admits subtables words =
    (k word : ℕ) (o : Option ℕ) (s : S) → slice_get subtables k ≡ Some s → admits s o ≡ true → slice_get words (k / 64 * 513 + column_of o) ≡ Some word → has_bucket word (k % 64) ≡ true

-- a word is there, and lacks a bit
abbrev pub IsClearAt : List ℕ → ℕ → ℕ → Type 0
IsClearAt words at b = (word : ℕ) × (slice_get words at ≡ Some word) × (has_bucket word b ≡ false)

-- the word of 64 subtables for what is known of a side is there, and lacks a bit
abbrev pub IsClear : List ℕ → ℕ → Neighbour → ℕ → Type 0
IsClear words row Unknown b = ⊥
IsClear words row Missing b = IsClearAt words (row * 513 + 512) b
IsClear words row (Glyph g) b = IsClearAt words (row * 513 + g % 512) b

-- each bit that is set in a list of words is set in another
abbrev pub AreKeptBits : List ℕ → List ℕ → Type 0
AreKeptBits old new = (at b : ℕ) → word_has (slice_get old at) b ≡ true → word_has (slice_get new at) b ≡ true
