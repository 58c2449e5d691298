-- Where the characters of a text are that have a property, so that each cut of the text is tested at once.
use Rattle.std.specs.Prelude.{ℕ, ◌+◌, ◌-◌, ◌==◌, ◌&&◌, Bool, false, not, nat_le, nat_lt, if◌then◌else◌, is_none, List, [], ◌∷◌, Option, Some, None, option_map}
use Rattle.std.specs.List.{list_any}
use Rattle.std.specs.Option.{option_map_or, option_or}
use Rattle.buffer_unicode_tables.specs.Tables.{Tables}
use Rattle.buffer_properties.specs.Properties.{is_mark_character}
use Rattle.script_joining.specs.Joining.{is_letter}
use Rattle.script_joining.specs.Types.{type_of_character}
use Rattle.script_thai.specs.ThaiVowel.{marks_above, thai_or_lao}
use Rattle.shape_breaks.specs.declared.texts.Occurrences.{Occurrences}
use Rattle.shape_breaks.specs.declared.texts.Property.{Property}
use Rattle.shape_breaks.specs.declared.texts.Property.TheVariants.{Mark, PlainMark, SaraAm, Letter}
use Rattle.shape_breaks.specs.declared.texts.TextMarks.{TextMarks}

-- ---- properties of characters

-- a character is SARA AM of Thai or AM of Lao
abbrev pub is_vowel_am : ℕ → Bool
is_vowel_am u = thai_or_lao u == 0x0E33

-- a character is one of the marks above before which the first half of that vowel is moved
abbrev pub is_above : ℕ → Bool
is_above u = list_any (λ v. v == thai_or_lao u) marks_above

-- a character has a property: it is a mark (general category M), a mark but not SARA AM, SARA AM, or a letter to its
-- neighbours, that is not transparent (Unicode core specification, 'Arabic', cursive joining)
abbrev pub has_property : Tables → Property → ℕ → Bool
has_property t Mark u = is_mark_character u
has_property t PlainMark u = is_mark_character u && not (is_vowel_am u)
has_property t SaraAm u = is_vowel_am u
has_property t Letter u = is_letter (type_of_character t u)

-- ---- of a text

-- the index of the first character that passes a test
abbrev pub first_index : (ℕ → Bool) → List ℕ → Option ℕ
first_index p [] = None
first_index p (u ∷ us) = if p u then Some 0 else option_map (λ n. n + 1) (first_index p us)

-- the index of the first character that passes a test, after the first character of a text
abbrev pub first_later : (ℕ → Bool) → List ℕ → Option ℕ
first_later p [] = None
first_later p (u ∷ us) = option_map (λ n. n + 1) (first_index p us)

-- the index of the last character that passes a test
abbrev pub last_index : (ℕ → Bool) → List ℕ → Option ℕ
last_index p [] = None
last_index p (u ∷ us) = option_or (option_map (λ n. n + 1) (last_index p us)) (if p u then Some 0 else None)

-- the first character with a property after the first one of a text, and the last one
abbrev pub occurrences : (ℕ → Bool) → List ℕ → Occurrences
occurrences p us = record { first_later = first_later p us; last = last_index p us }

-- an index of a text in what is left of it from another index on
abbrev pub index_from : ℕ → Option ℕ → Option ℕ
index_from from None = None
index_from from (Some n) = if nat_le from n then Some (n - from) else None

-- where a piece has the first such character after its first one, and what is left of the text with it the last one
abbrev pub piece_occurrences : ℕ → Occurrences → Occurrences → Occurrences
piece_occurrences from whole piece = record { first_later = piece.first_later; last = index_from from whole.last }

-- where a piece has marks, and what is left of the text from its index on with it
abbrev pub piece_marks : ℕ → TextMarks → TextMarks → TextMarks
piece_marks from whole piece = record {
  marks = piece_occurrences from whole.marks piece.marks;
  plain_marks = piece_occurrences from whole.plain_marks piece.plain_marks;
  vowels = piece_occurrences from whole.vowels piece.vowels;
  letters = piece_occurrences from whole.letters piece.letters;
}

-- where a text has marks, vowels SARA AM and letters that join
abbrev pub text_marks : Tables → List ℕ → TextMarks
text_marks t us = record {
  marks = occurrences (has_property t Mark) us;
  plain_marks = occurrences (has_property t PlainMark) us;
  vowels = occurrences (has_property t SaraAm) us;
  letters = occurrences (has_property t Letter) us;
}

-- ---- of the two pieces at an index

-- the piece before the index has such a character after its first one
abbrev pub is_before : Occurrences → ℕ → Bool
is_before o at = option_map_or (λ n. nat_lt n at) o.first_later false

-- the piece from the index on has such a character after its first one
abbrev pub is_after : Occurrences → ℕ → Bool
is_after o at = option_map_or (λ n. nat_lt at n) o.last false

-- the piece from the index on has such a character
abbrev pub is_from : Occurrences → ℕ → Bool
is_from o at = option_map_or (λ n. nat_le at n) o.last false

-- no piece has such a character
abbrev pub is_nowhere : Occurrences → Bool
is_nowhere o = is_none o.last
