-- Buckets of glyphs, by which a set digest knows them (HarfBuzz: `hb_set_digest_bits_pattern_t`).
use Rattle.std.specs.Prelude.{ℕ, suc, zero, ◌≡◌, ◌+◌, ◌/◌, ◌%◌, ◌^◌, ◌==◌, ◌||◌, Bool, false, List, [], ◌∷◌, ◌++◌}
use Rattle.std.specs.Int.{bit_at}
use Rattle.std.specs.List.{list_any}

-- the bucket of a glyph, one of 64: neighbouring glyphs share one, 2 to the power of the shift of them
abbrev pub bucket : ℕ → ℕ → ℕ
bucket shift g = g / 2 ^ shift % 64

-- whether a mask has a bucket, by its bit
abbrev pub has_bucket : ℕ → ℕ → Bool
has_bucket mask b = bit_at mask b == 1

-- whether a mask has the bucket of a glyph, so that the glyph may be in the set
abbrev pub may_have_glyph : ℕ → ℕ → ℕ → Bool
may_have_glyph shift mask g = has_bucket mask (bucket shift g)

-- whether a bucket is that of one of some glyphs
abbrev pub is_bucket_of : ℕ → List ℕ → ℕ → Bool
is_bucket_of shift glyphs b = list_any (λ g. b == bucket shift g) glyphs

-- whether a bucket is that of one of n groups of neighbouring glyphs, from a group on
abbrev pub is_bucket_from : ℕ → ℕ → ℕ → Bool
is_bucket_from first zero b = false
is_bucket_from first (suc n) b = is_bucket_from first n b || b == (first + n) % 64

-- n numbers from one on
abbrev pub numbers_from : ℕ → ℕ → List ℕ
numbers_from first zero = []
numbers_from first (suc n) = numbers_from first n ++ (first + n) ∷ []

-- whether a glyph is in the bucket of one of some glyphs
abbrev pub shares_bucket : ℕ → List ℕ → ℕ → Bool
shares_bucket shift glyphs g = is_bucket_of shift glyphs (bucket shift g)

-- a mask has the buckets of some glyphs, and no others
abbrev pub IsMaskOf : ℕ → ℕ → List ℕ → Type 0
IsMaskOf shift mask glyphs = (b : ℕ) → has_bucket mask b ≡ is_bucket_of shift glyphs b
