-- The jamo of Hangul (The Unicode Standard, section 3.12, and the blocks Hangul Jamo, Jamo Extended-A and Jamo
-- Extended-B).
use Rattle.std.specs.Prelude.{ℕ, Bool, ◌==◌, ◌||◌, Option, Some, None, option_map}
use Rattle.std.specs.Option.{option_and_then}
use Rattle.buffer_unicode_tables.specs.Hangul.{hangul_split, hangul_pair}
use Rattle.buffer_unicode.specs.Character.{is_in_range}
use Rattle.script_hangul.specs.declared.jamo.Letters.{Letters}
use Rattle.script_hangul.specs.declared.jamo.Letters.TheVariants.{Two, Three}

-- a leading consonant (HarfBuzz: isL)
abbrev pub is_leading : ℕ → Bool
is_leading u = is_in_range u (0x1100, 0x115F) || is_in_range u (0xA960, 0xA97C)

-- a vowel (HarfBuzz: isV)
abbrev pub is_vowel : ℕ → Bool
is_vowel u = is_in_range u (0x1160, 0x11A7) || is_in_range u (0xD7B0, 0xD7C6)

-- a trailing consonant (HarfBuzz: isT)
abbrev pub is_trailing : ℕ → Bool
is_trailing u = is_in_range u (0x11A8, 0x11FF) || is_in_range u (0xD7CB, 0xD7FB)

-- a precomposed syllable (HarfBuzz: isCombinedS)
abbrev pub is_syllable : ℕ → Bool
is_syllable u = is_in_range u (0xAC00, 0xD7A3)

-- a tone mark (HarfBuzz: isHangulTone)
abbrev pub is_tone : ℕ → Bool
is_tone u = (u == 0x302E) || (u == 0x302F)

-- the syllable of a leading consonant, a vowel and an optional trailing consonant, where they compose
abbrev pub whole_of : ℕ → ℕ → Option ℕ → Option ℕ
whole_of l v None = hangul_pair l v
whole_of l v (Some t) = option_and_then (λ s. hangul_pair s t) (hangul_pair l v)

-- the jamo of a syllable's two halves: the first may be a syllable that decomposes again
abbrev pub letters_by : ℕ → ℕ → Option (ℕ × ℕ) → Letters
letters_by first last None = Two first last
letters_by first last (Some p) = Three p.0 p.1 last

-- the jamo of a syllable: it decomposes once, and again where its first half is a syllable too
abbrev pub letters_of : ℕ → Option Letters
letters_of s = option_map (λ (p : ℕ × ℕ). letters_by p.0 p.1 (hangul_split p.0)) (hangul_split s)
