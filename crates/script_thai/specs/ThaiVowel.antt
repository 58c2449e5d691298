-- The vowels SARA AM of Thai and AM of Lao: each decomposes into a mark above and a vowel after the letter (Unicode
-- core specification, 'Thai', 'Lao').
use Rattle.std.specs.Prelude.{ℕ, ◌+◌, ◌-◌, ◌==◌, ◌&&◌, not, nat_le, Bool, if◌then◌else◌, List, [], ◌∷◌, ◌++◌, length, take, drop, reverse, Ok, Err}
use Rattle.std.specs.Int.RustNames.{bit_or}
use Rattle.std.specs.List.{list_any, prefix_len}
use Rattle.ucd_category.specs.declared.GeneralCategory.TheVariants.{NonspacingMark}
use Rattle.buffer_unicode.specs.Category.{category_number}
use Rattle.buffer_properties.specs.Characters.{with_category}
use Rattle.buffer_properties.specs.Properties.{CONTINUATION, without_bits}
use Rattle.buffer_glyphs.specs.declared.cause.ShapeCause.TheVariants.{TooLong}
use Rattle.buffer_glyphs.specs.Items.{Item}
use Rattle.buffer_glyphs.specs.Levels.{InOutput}
use Rattle.buffer_glyphs.specs.Events.{Event, Move, Replace}
use Rattle.buffer_core.specs.Readings.{Stage, always, and_then}
use Rattle.buffer_core.specs.Sides.{zero_positions}
use Rattle.buffer_stages.specs.Moves.{order_of_move}
use Rattle.script_syllabic.specs.Graphemes.{with_graphemes_merged}

-- the Thai character of one of Thai or Lao, at the same offset of its block
abbrev pub thai_or_lao : ℕ → ℕ
thai_or_lao u = without_bits 0x80 u

-- an item is SARA AM of Thai or AM of Lao (HarfBuzz: IS_SARA_AM)
abbrev pub is_sara_am : Item → Bool
is_sara_am x = thai_or_lao x.number == 0x0E33

-- the marks above a letter that the first half of the vowel is moved before (HarfBuzz: IS_ABOVE_BASE_MARK)
abbrev pub marks_above : List ℕ
marks_above = 0x0E31 ∷ 0x0E34 ∷ 0x0E35 ∷ 0x0E36 ∷ 0x0E37 ∷ 0x0E3B ∷ 0x0E47 ∷ 0x0E48 ∷ 0x0E49 ∷ 0x0E4A ∷ 0x0E4B ∷ 0x0E4C ∷ 0x0E4D ∷ 0x0E4E ∷ []

-- an item is one of those marks
abbrev pub is_mark_above : Item → Bool
is_mark_above x = list_any (λ u. u == thai_or_lao x.number) marks_above

-- the property word of a nonspacing mark that continues the grapheme
abbrev pub nonspacing : ℕ → ℕ
nonspacing props = bit_or (with_category (category_number NonspacingMark) props) CONTINUATION

-- the first half of the vowel: NIKHAHIT, a nonspacing mark
abbrev pub nikhahit : Item → Item
nikhahit x = record x { number = x.number + 0x1A; unicode_props = nonspacing x.unicode_props }

-- the second half of the vowel: SARA AA
abbrev pub sara_aa : Item → Item
sara_aa x = record x { number = x.number - 1 }

-- the number of marks above that end a text
abbrev pub count_above : List Item → ℕ
count_above out = prefix_len is_mark_above (reverse out)

-- a text and a vowel's two halves, the first before the marks above that end the text
abbrev pub with_vowel : List Item → Item → List Item
with_vowel out x =
    let before : ℕ = length out - count_above out in
    take before out ++ (nikhahit x ∷ drop before out) ++ sara_aa x ∷ []

-- a text and its next character, decomposed if it is such a vowel
abbrev pub with_character : List Item → Item → List Item
with_character out x = if is_sara_am x then with_vowel out x else out ++ x ∷ []

-- a text and the characters after it, decomposed
abbrev pub text_with_splits : List Item → List Item → List Item
text_with_splits out [] = out
text_with_splits out (x ∷ xs) = text_with_splits (with_character out x) xs

-- the number of characters that begin with one grapheme: two where the second is such a vowel, and the first no mark
-- above; else none is merged
abbrev pub vowel_rule : List Item → ℕ
vowel_rule [] = 0
vowel_rule (x ∷ []) = 0
vowel_rule (x ∷ y ∷ ys) = if is_sara_am y && not (is_mark_above x) then 2 else 0

-- the event that moves a vowel's first half at an index before that many marks above
abbrev pub move_of_vowel : ℕ → ℕ → List Event
move_of_vowel at n = if n == 0 then [] else Move InOutput (at - n) (order_of_move n 1) ∷ []

-- the events of a vowel at an index, after that many marks above
abbrev pub events_of_vowel : ℕ → ℕ → List Event
events_of_vowel at n = Replace at 1 2 ∷ move_of_vowel at n

-- the events of one character after a text
abbrev pub events_of_character : List Item → Item → List Event
events_of_character out x = if is_sara_am x then events_of_vowel (length out) (count_above out) else []

-- the events of characters after a text
abbrev pub split_events : List Item → List Item → List Event
split_events out [] = []
split_events out (x ∷ xs) = events_of_character out x ++ split_events (with_character out x) xs

-- the stage that decomposes the vowels of a text, where the result is within the limit, without a merge of graphemes
abbrev pub vowels_split : Stage
vowels_split v =
    let xs : List Item = text_with_splits [] v.items in
    if nat_le (length xs) v.max_len
    then Ok (record { view = record v { items = xs; positions = zero_positions (length xs) }; events = λ level. split_events [] v.items })
    else Err TooLong

-- the stage that decomposes the vowels of a text: graphemes are merged before anything is moved
abbrev pub vowels_decomposed : Stage
vowels_decomposed v = and_then (always (with_graphemes_merged vowel_rule) v) vowels_split
