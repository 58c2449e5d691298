-- The texts of Thai, Lao and Hangul with each merge of a grapheme where HarfBuzz has it: once the vowel or the syllable
-- is written.
use Rattle.std.specs.Prelude.{ℕ, ◌≡◌, ◌+◌, ◌-◌, ◌==◌, false, if◌then◌else◌, List, [], ◌∷◌, ◌++◌, length, Option, Ok}
use Rattle.buffer_common.specs.declared.constants.BufferFlags.{BufferFlags}
use Rattle.buffer_common.specs.declared.script.Script.{Script}
use Rattle.buffer_unicode_tables.specs.Tables.{Tables}
use Rattle.buffer_glyphs.specs.declared.level.BufferClusterLevel.TheVariants.{Graphemes}
use Rattle.buffer_glyphs.specs.Items.{Item}
use Rattle.buffer_glyphs.specs.Levels.{InOutput}
use Rattle.buffer_glyphs.specs.Order.{IsOrdered}
use Rattle.buffer_glyphs.specs.Origins.{numbers}
use Rattle.buffer_glyphs.specs.Events.{Event, Arrange, Merge, MergeGrapheme, Replace, origins_after}
use Rattle.buffer_core.specs.Readings.{BufferState, Read, state_after}
use Rattle.buffer_stages.specs.Moves.{order_of_move}
use Rattle.layout_face.specs.declared.parts.FaceParts.{FaceParts}
use Rattle.layout_map.specs.Compiled.{OtMapValue}
use Rattle.script_thai.specs.Texts.{thai_text}
use Rattle.script_thai.specs.ThaiVowel.{count_above, is_sara_am, with_character}
use Rattle.script_hangul.specs.Hangul.{hangul_text}
pub use Rattle.script_hangul.specs.Written.{written_syllables}

-- ---- Thai and Lao

-- the merge of a vowel's halves, at an index and the next one, with the character before them, if there is one (HarfBuzz:
-- merge_out_grapheme_clusters)
abbrev pub merge_with_character_before : ℕ → List Event
merge_with_character_before at = if at == 0 then [] else MergeGrapheme (at - 1) (at + 2) ∷ []

-- that many marks above and the halves after them are merged, then the first half is moved before the marks (HarfBuzz:
-- merge_out_clusters)
abbrev pub half_before_marks : ℕ → ℕ → List Event
half_before_marks at n = Merge InOutput (at - n) (at + 2) ∷ Arrange (at - n) (order_of_move n 1) ∷ []

-- the events of a vowel that is written at an index, after that many marks above: it is decomposed, then its halves are
-- merged with what is before them
abbrev pub written_vowel : ℕ → ℕ → List Event
written_vowel at n = Replace at 1 2 ∷ (if n == 0 then merge_with_character_before at else half_before_marks at n)

-- the events of one character that is written after a text
abbrev pub written_character : List Item → Item → List Event
written_character out x = if is_sara_am x then written_vowel (length out) (count_above out) else []

-- the events of characters that are written after a text, each with its merge (HarfBuzz: preprocess_text_thai)
abbrev pub written_characters : List Item → List Item → List Event
written_characters out [] = []
written_characters out (x ∷ xs) = written_character out x ++ written_characters (with_character out x) xs

-- law: at every level the clusters of a Thai or Lao text that is preprocessed are those after its characters were written,
-- each merge with its character; so are the flags, but where PRODUCE_SAFE_BREAKS is requested
abbrev pub VowelsMergeWhereWritten : Type 0
VowelsMergeWhereWritten = (m : OtMapValue) (script : Option Script) (t : Tables) (font : FaceParts) (text : BufferState) (r : Read) → length text.origins ≡ length text.view.items → thai_text m script t font text.view ≡ Ok r
    → (numbers (state_after r text).origins ≡ numbers (origins_after text.asks text.level (written_characters [] text.view.items) text.origins))
    × (text.asks.breaks ≡ false → (state_after r text).origins ≡ origins_after text.asks text.level (written_characters [] text.view.items) text.origins)

-- ---- Hangul

-- law: at every level the clusters of a Hangul text that is preprocessed are those after its syllables were written, each
-- merge with its syllable; so are the flags, but where PRODUCE_SAFE_BREAKS is requested, and but for a text at the level
-- Graphemes whose clusters are in no order
abbrev pub SyllablesMergeWhereWritten : Type 0
SyllablesMergeWhereWritten = (font : FaceParts) (flags : BufferFlags) (text : BufferState) (r : Read) → length text.origins ≡ length text.view.items → hangul_text font flags text.view ≡ Ok r
    → (numbers (state_after r text).origins ≡ numbers (origins_after text.asks text.level (written_syllables font flags text.level text.view.items) text.origins))
    × (text.asks.breaks ≡ false → (text.level ≡ Graphemes → IsOrdered (numbers text.origins)) → (state_after r text).origins ≡ origins_after text.asks text.level (written_syllables font flags text.level text.view.items) text.origins)
