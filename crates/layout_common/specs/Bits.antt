-- A bit for each glyph of a range, by words of 64 glyphs.
use Rattle.std.specs.Prelude.{ℕ, ◌≡◌, ◌/◌, ◌%◌, ◌-◌, Bool, false, if◌then◌else◌, nat_lt, List, Option, slice_get}
use Rattle.std.specs.Option.{option_map_or}
use Rattle.layout_common.specs.Buckets.{has_bucket}
use Rattle.layout_common.specs.Coverage.{is_covered}

-- whether a word, if there is one, has a bit
abbrev pub word_has : Option ℕ → ℕ → Bool
word_has word b = option_map_or (λ w. has_bucket w b) word false

-- whether the bit of a glyph is set in words of which the first n are left out
abbrev pub has_bit : ℕ → List ℕ → ℕ → Bool
has_bit start words g = if nat_lt (g / 64) start then false else word_has (slice_get words (g / 64 - start)) (g % 64)

-- the bits that are set are those of some glyphs
abbrev pub AreBits : ℕ → List ℕ → List ℕ → Type 0
AreBits start words glyphs = (g : ℕ) → has_bit start words g ≡ is_covered g glyphs
