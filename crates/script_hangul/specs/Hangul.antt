-- Hangul: a text with its syllables composed or decomposed as the font requires, and tone marks moved before their
-- syllables.
use Rattle.std.specs.Prelude.{ℕ, zero, suc, ◌+◌, ◌==◌, not, ◌&&◌, ◌||◌, Bool, false, nat_le, nat_lt, if◌then◌else◌, List, [], ◌∷◌, ◌++◌, length, drop, slice_get, Option, Some, None, Ok, Err}
use Rattle.std.specs.Int.RustNames.{bit_and}
use Rattle.buffer_glyphs.specs.declared.cause.ShapeCause.TheVariants.{TooLong}
use Rattle.buffer_glyphs.specs.declared.level.BufferClusterLevel.{BufferClusterLevel}
use Rattle.buffer_common.specs.declared.constants.BufferFlags.{BufferFlags}
use Rattle.layout_face.specs.declared.parts.FaceParts.{FaceParts}
use Rattle.buffer_glyphs.specs.Items.{Item}
use Rattle.buffer_glyphs.specs.Events.{Event}
use Rattle.buffer_core.specs.Readings.{Stage, always, and_then}
use Rattle.buffer_core.specs.Sides.{zero_positions}
use Rattle.script_syllabic.specs.Graphemes.{with_graphemes_merged}
use Rattle.script_hangul.specs.declared.actions.Action.{Action}
use Rattle.script_hangul.specs.declared.actions.Action.TheVariants.{Keep, Apart, Compose, Split}
use Rattle.script_hangul.specs.Jamo.{is_tone}
use Rattle.script_hangul.specs.Actions.{action_on}
use Rattle.script_hangul.specs.Steps.{Step, keep_step, step_of, tone_step}

-- DO_NOT_INSERT_DOTTED_CIRCLE is not set
abbrev pub wants_circles : BufferFlags → Bool
wants_circles flags = not (bit_and flags.0 16 == 16)

-- a Unicode scalar value
abbrev pub is_character : ℕ → Bool
is_character u = nat_lt u 0xD800 || (nat_le 0xE000 u && nat_le u 0x10FFFF)

-- the character of an item, if there is one and it is a scalar value
abbrev pub character_by : Option Item → Option ℕ
character_by None = None
character_by (Some x) = if is_character x.number then Some x.number else None

-- the character at an index, if there is one
abbrev pub character_at : ℕ → List Item → Option ℕ
character_at i xs = character_by (slice_get xs i)

-- the step at the next characters, by the first of them, after a text that ends with a syllable from an index on, or
-- with none
abbrev pub step_by : FaceParts → Bool → ℕ → Option ℕ → List Item → List Item → Step
step_by font circles n None out xs = keep_step false out xs
step_by font circles n (Some u) out xs = if is_tone u then tone_step font circles n u out xs else step_of (action_on font u (character_at 1 xs) (character_at 2 xs)) out xs

-- the step at the next characters of a text
abbrev pub step : FaceParts → Bool → ℕ → List Item → List Item → Step
step font circles n out xs = step_by font circles n (character_at 0 xs) out xs

-- the text after that many steps at most, by the text before and the rest
abbrev pub text_after : FaceParts → Bool → ℕ → ℕ → List Item → List Item → List Item
text_after font circles steps n out [] = out
text_after font circles zero n out (x ∷ xs) = out
text_after font circles (suc steps) n out (x ∷ xs) =
    let s : Step = step font circles n out (x ∷ xs) in
    text_after font circles steps s.start s.out (drop (s.more + 1) (x ∷ xs))

-- the events of that many steps at most
abbrev pub events_after : FaceParts → Bool → BufferClusterLevel → ℕ → ℕ → List Item → List Item → List Event
events_after font circles level steps n out [] = []
events_after font circles level zero n out (x ∷ xs) = []
events_after font circles level (suc steps) n out (x ∷ xs) =
    let s : Step = step font circles n out (x ∷ xs) in
    s.events level ++ events_after font circles level steps s.start s.out (drop (s.more + 1) (x ∷ xs))

-- the stage that forms a text's syllables, where the result is within the limit, without a merge of graphemes; each step consumes an item, so as many steps as
-- items are enough
abbrev pub syllables_formed : FaceParts → BufferFlags → Stage
syllables_formed font flags v =
    let xs : List Item = text_after font (wants_circles flags) (length v.items) 0 [] v.items in
    if nat_le (length xs) v.max_len
    then Ok (record { view = record v { items = xs; positions = zero_positions (length xs) }; events = λ level. events_after font (wants_circles flags) level (length v.items) 0 [] v.items })
    else Err TooLong

-- the number of characters of the syllable that an action leaves as several; 0 where it leaves one
abbrev pub count_apart : Action → ℕ
count_apart (Keep whole) = 0
count_apart (Apart n) = n
count_apart (Compose n u) = 0
count_apart (Split letters joins) = if joins then 2 else 0

-- the number of characters that begin with one grapheme: a syllable whose jamo stay apart
abbrev pub rule_by : FaceParts → Option ℕ → List Item → ℕ
rule_by font None xs = 0
rule_by font (Some u) xs = count_apart (action_on font u (character_at 1 xs) (character_at 2 xs))

-- that number, by the characters
abbrev pub jamo_rule : FaceParts → List Item → ℕ
jamo_rule font xs = rule_by font (character_at 0 xs) xs

-- the stage of a Hangul text: graphemes are merged before anything is moved
abbrev pub hangul_text : FaceParts → BufferFlags → Stage
hangul_text font flags v = and_then (always (with_graphemes_merged (jamo_rule font)) v) (syllables_formed font flags)
