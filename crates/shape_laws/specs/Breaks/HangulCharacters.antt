-- What the characters of two texts of Hangul have to be for each to be normalized by itself once its syllables are formed.
use Rattle.std.specs.Prelude.{ℕ, ◌≡◌, ◌||◌, ◌&&◌, ◌⊎◌, not, Bool, true, false, if◌then◌else◌, List, [], ◌∷◌}
use Rattle.std.specs.List.{list_any}
use Rattle.buffer_properties.specs.Properties.{is_mark_character}
use Rattle.layout_face.specs.declared.parts.FaceParts.{FaceParts}
use Rattle.script_hangul.specs.Jamo.{is_leading, is_syllable, is_tone, is_trailing, is_vowel}
use Rattle.script_hangul.specs.Steps.{has_no_width}
use Rattle.shape_laws.specs.Breaks.Characters.{ends_with_joiner}

-- whether a character begins a syllable: a leading consonant or a precomposed syllable
abbrev pub begins_syllable : ℕ → Bool
begins_syllable u = is_leading u || is_syllable u

-- whether a character continues a syllable: a vowel or a trailing consonant
abbrev pub continues_syllable : ℕ → Bool
continues_syllable u = is_vowel u || is_trailing u

-- whether a character is a tone mark that preprocessing moves before its syllable: the font has no glyph of advance 0 for
-- it
abbrev pub is_moved_tone : FaceParts → ℕ → Bool
is_moved_tone font u = is_tone u && not (has_no_width font u)

-- whether the first of some characters that continues no syllable is such a tone mark
abbrev pub is_toned : FaceParts → List ℕ → Bool
is_toned font [] = false
is_toned font (u ∷ us) = if continues_syllable u then is_toned font us else is_moved_tone font u

-- whether a text begins with a syllable before which a tone mark is moved
abbrev pub begins_toned : FaceParts → List ℕ → Bool
begins_toned font [] = false
begins_toned font (u ∷ us) = begins_syllable u && is_toned font us

-- the characters from the first on that continues no syllable, without such a tone mark there
abbrev pub after_syllable : FaceParts → List ℕ → List ℕ
after_syllable font [] = []
after_syllable font (u ∷ us) = if continues_syllable u then after_syllable font us else if is_moved_tone font u then us else u ∷ us

-- whether a text has a mark after its first character; a tone mark that is moved before the syllable that begins the text
-- doesn't count
abbrev pub has_later_mark_of_hangul : FaceParts → List ℕ → Bool
has_later_mark_of_hangul font [] = false
has_later_mark_of_hangul font (u ∷ us) = list_any is_mark_character (if begins_syllable u then after_syllable font us else us)

-- a text of Hangul may be broken into two texts of some characters as far as normalizing is concerned: both have a mark
-- after their first character (`has_later_mark_of_hangul`), or neither has a mark; and the earlier one doesn't end with
-- U+034F
pub record MayBreakHangul (font : FaceParts) (us vs : List ℕ) : Type 0 where
  pub marks : ((has_later_mark_of_hangul font us ≡ true) × (has_later_mark_of_hangul font vs ≡ true)) ⊎ ((list_any is_mark_character us ≡ false) × (list_any is_mark_character vs ≡ false))
  pub ends : ends_with_joiner false us ≡ false
