-- An index of a lookup's subtables, by the low bits of the numbers of the glyphs at which they can act.
use Rattle.std.specs.Prelude.{ℕ, ◌≡◌, ◌/◌, ◌%◌, Bool, true, List, Some, slice_get}
use Rattle.layout_common.specs.Buckets.{has_bucket}

-- a word has the bits of those of 64 subtables that can act at a glyph of a bucket, and maybe others
abbrev pub HasBits : {S : Type 0} → (S → ℕ → Bool) → List S → ℕ → ℕ → ℕ → Type 0
HasBits {S} covers subtables row bucket word =
    (k g : ℕ) (s : S) → slice_get subtables k ≡ Some s → covers s g ≡ true → k / 64 ≡ row → g % 1024 ≡ bucket → has_bucket word (k % 64) ≡ true

-- each word is that of its 64 subtables for its bucket, of 1024 for each of them
abbrev pub AreIndexed : {S : Type 0} → (S → ℕ → Bool) → List S → List ℕ → Type 0
AreIndexed covers subtables words = (at word : ℕ) → slice_get words at ≡ Some word → HasBits covers subtables (at / 1024) (at % 1024) word
