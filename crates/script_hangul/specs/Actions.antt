-- The action on a jamo or a syllable of Hangul, by the next characters and the font.
use Rattle.std.specs.Prelude.{ℕ, Bool, true, false, ◌&&◌, if◌then◌else◌, is_some, Option, Some, None}
use Rattle.layout_face.specs.declared.parts.FaceParts.{FaceParts}
use Rattle.layout_face.specs.Glyphs.{nominal_glyph}
use Rattle.buffer_unicode_tables.specs.Hangul.{hangul_pair}
use Rattle.script_hangul.specs.declared.jamo.Letters.{Letters}
use Rattle.script_hangul.specs.declared.jamo.Letters.TheVariants.{Two, Three}
use Rattle.script_hangul.specs.declared.actions.Action.{Action}
use Rattle.script_hangul.specs.declared.actions.Action.TheVariants.{Keep, Apart, Compose, Split}
use Rattle.script_hangul.specs.Jamo.{is_leading, is_vowel, is_trailing, is_syllable, whole_of, letters_of}

-- the font has a glyph of the character
abbrev pub has_character : FaceParts → ℕ → Bool
has_character font u = is_some (nominal_glyph u font)

-- the font has glyphs of all the jamo
abbrev pub has_letters : FaceParts → Letters → Bool
has_letters font (Two l v) = has_character font l && has_character font v
has_letters font (Three l v t) = has_character font l && has_character font v && has_character font t

-- the action on jamo that may compose: to their syllable where the font has it, else apart
abbrev pub letters_action : FaceParts → Option ℕ → ℕ → Action
letters_action font None n = Apart n
letters_action font (Some u) n = if has_character font u then Compose n u else Apart n

-- the character, if it is a trailing consonant
abbrev pub trailing_of : Option ℕ → Option ℕ
trailing_of None = None
trailing_of (Some u) = if is_trailing u then Some u else None

-- the action on a leading consonant: with a vowel and an optional trailing consonant after it, it begins a syllable
abbrev pub leading_action : FaceParts → ℕ → Option ℕ → Option ℕ → Action
leading_action font l None t = Keep false
leading_action font l (Some v) t = if is_vowel v then letters_action font (whole_of l v t) (if is_some t then 3 else 2) else Keep false

-- the action on a syllable by its jamo: decomposed where the font has them all, else kept
abbrev pub split_action_of : FaceParts → ℕ → Bool → Option Letters → Action
split_action_of font u joins None = Keep (has_character font u)
split_action_of font u joins (Some letters) = if has_letters font letters then Split letters joins else Keep (has_character font u)

-- the action that decomposes a syllable where the font has all its jamo
abbrev pub split_action : FaceParts → ℕ → Bool → Action
split_action font u joins = split_action_of font u joins (letters_of u)

-- the action on a syllable by its jamo: one of two jamo is decomposed for the trailing consonant, any other is kept
abbrev pub open_by : FaceParts → ℕ → Option Letters → Action
open_by font u None = Keep true
open_by font u (Some (Two l v)) = split_action font u true
open_by font u (Some (Three l v t)) = Keep true

-- the action on a syllable before a trailing consonant that it doesn't compose with: a syllable that the font lacks is
-- decomposed by itself; one that it has is decomposed where it has no trailing consonant yet, and takes this one
abbrev pub before_trailing : FaceParts → ℕ → Action
before_trailing font u = if has_character font u then open_by font u (letters_of u) else split_action font u false

-- the action on a syllable and the trailing consonant after it: composed where the font has the result
abbrev pub joining_action : FaceParts → ℕ → Option ℕ → Action
joining_action font u None = before_trailing font u
joining_action font u (Some whole) = if has_character font whole then Compose 2 whole else before_trailing font u

-- the action on a syllable, which a trailing consonant may follow
abbrev pub syllable_action : FaceParts → ℕ → Option ℕ → Action
syllable_action font u None = if has_character font u then Keep true else split_action font u false
syllable_action font u (Some t) = joining_action font u (hangul_pair u t)

-- the action on a character, by the next two characters (HarfBuzz: preprocess_text_hangul)
abbrev pub action_on : FaceParts → ℕ → Option ℕ → Option ℕ → Action
action_on font u second third =
    if is_leading u then leading_action font u second (trailing_of third)
    else if is_syllable u then syllable_action font u (trailing_of second)
    else Keep false
