-- One step of the walk over a Hangul text: the next characters, and the text before them.
use Rattle.std.specs.Prelude.{ℕ, ◌+◌, ◌-◌, ◌==◌, ◌&&◌, Bool, false, nat_lt, if◌then◌else◌, List, [], ◌∷◌, ◌++◌, length, map, take, drop}
use Rattle.std.specs.Option.{option_map_or}
use Rattle.buffer_glyphs.specs.declared.level.BufferClusterLevel.{BufferClusterLevel}
use Rattle.layout_face.specs.declared.parts.FaceParts.{FaceParts}
use Rattle.layout_face.specs.Glyphs.{nominal_glyph, width_of}
use Rattle.buffer_properties.specs.Properties.{properties_of}
use Rattle.buffer_glyphs.specs.Items.{Item}
use Rattle.buffer_glyphs.specs.Levels.{InOutput}
use Rattle.buffer_glyphs.specs.Events.{Event, Move, Replace}
use Rattle.buffer_glyphs.specs.Replacements.{item_numbered}
use Rattle.buffer_stages.specs.Moves.{order_of_move}
use Rattle.buffer_stages.specs.Walks.{renumbered_first}
use Rattle.script_hangul.specs.declared.jamo.Letters.{Letters}
use Rattle.script_hangul.specs.declared.jamo.Letters.TheVariants.{Two, Three}
use Rattle.script_hangul.specs.declared.actions.Action.{Action}
use Rattle.script_hangul.specs.declared.actions.Action.TheVariants.{Keep, Apart, Compose, Split}
use Rattle.script_hangul.specs.Actions.{has_character}

-- the result of one step
pub record Step : Type 0 where
  -- the text so far
  pub out : List Item
  pub events : BufferClusterLevel → List Event
  -- the number of items after the first that the step took
  pub more : ℕ
  -- the start of the syllable that ends the text and that a tone mark may follow; without one, the text's length
  pub start : ℕ

-- ---- syllables

-- a jamo with its feature: 1 ljmo, 2 vjmo, 3 tjmo
abbrev pub numbered_letter : ℕ → Item → Item
numbered_letter n x = record x { auxiliary = n }

-- jamo with features from a number on
abbrev pub letters_from : ℕ → List Item → List Item
letters_from n [] = []
letters_from n (x ∷ xs) = numbered_letter n x ∷ letters_from (n + 1) xs

-- the step that keeps the first item
abbrev pub keep_step : Bool → List Item → List Item → Step
keep_step whole out xs = record { out = out ++ take 1 xs; events = λ level. []; more = 0; start = if whole then length out else length (out ++ take 1 xs) }

-- the step that keeps that many jamo apart, as one syllable
abbrev pub apart_step : ℕ → List Item → List Item → Step
apart_step n out xs = record { out = out ++ letters_from 1 (take n xs); events = λ level. []; more = n - 1; start = length out }

-- the step that composes that many items to one syllable; only the character of the first changes
abbrev pub compose_step : ℕ → ℕ → List Item → List Item → Step
compose_step n u out xs = record { out = out ++ renumbered_first u xs; events = λ level. Replace (length out) n 1 ∷ []; more = n - 1; start = length out }

-- the characters of jamo
abbrev pub numbers_of : Letters → List ℕ
numbers_of (Two l v) = l ∷ v ∷ []
numbers_of (Three l v t) = l ∷ v ∷ t ∷ []

-- the jamo of the syllable that is first
abbrev pub letters_of_first : Letters → List Item → List Item
letters_of_first letters [] = []
letters_of_first letters (x ∷ xs) = map (item_numbered x) (numbers_of letters)

-- the step that decomposes a syllable, with that many jamo after it
abbrev pub split_step : Letters → ℕ → List Item → List Item → Step
split_step letters n out xs = record {
  out = out ++ letters_from 1 (letters_of_first letters xs ++ take n (drop 1 xs));
  events = λ level. Replace (length out) 1 (length (numbers_of letters)) ∷ [];
  more = n;
  start = length out;
}

-- the step of an action
abbrev pub step_of : Action → List Item → List Item → Step
step_of (Keep whole) out xs = keep_step whole out xs
step_of (Apart n) out xs = apart_step n out xs
step_of (Compose n u) out xs = compose_step n u out xs
step_of (Split letters joins) out xs = split_step letters (if joins then 1 else 0) out xs

-- ---- tone marks

-- the font has a glyph with advance 0 for the character
abbrev pub has_no_width : FaceParts → ℕ → Bool
has_no_width font u = option_map_or (λ glyph. width_of glyph font == 0) (nominal_glyph u font) false

-- a text with the mark inserted at an index, before its last syllable
abbrev pub with_tone_first : ℕ → List Item → List Item → List Item
with_tone_first start out xs = take start out ++ (take 1 xs ++ drop start out)

-- the step that moves a tone mark before the syllable it follows
abbrev pub before_syllable : ℕ → List Item → List Item → Step
before_syllable start out xs = record {
  out = with_tone_first start out xs;
  events = λ level. Move InOutput start (order_of_move (length out - start) 1) ∷ [];
  more = 0;
  start = length (with_tone_first start out xs);
}

-- U+25CC DOTTED CIRCLE
abbrev pub DOTTED_CIRCLE : ℕ
DOTTED_CIRCLE = 0x25CC

-- the dotted circle of a mark
abbrev pub circle_for : Item → Item
circle_for x = record x { number = DOTTED_CIRCLE; unicode_props = properties_of DOTTED_CIRCLE; class = 0 }

-- a mark and its dotted circle: a mark with advance 0 follows the circle
abbrev pub circle_beside : Bool → List Item → List Item
circle_beside thin [] = []
circle_beside thin (x ∷ xs) = if thin then circle_for x ∷ x ∷ [] else x ∷ circle_for x ∷ []

-- the step that gives a mark a dotted circle
abbrev pub with_circle : Bool → List Item → List Item → Step
with_circle thin out xs = record { out = out ++ circle_beside thin xs; events = λ level. Replace (length out) 1 2 ∷ []; more = 0; start = length (out ++ circle_beside thin xs) }

-- the step at a tone mark: one with an advance is moved before the syllable that it follows; one without a syllable
-- gets a dotted circle, unless circles are switched off or the font lacks one
abbrev pub tone_step : FaceParts → Bool → ℕ → ℕ → List Item → List Item → Step
tone_step font circles start u out xs =
    if nat_lt start (length out)
    then if has_no_width font u then keep_step false out xs else before_syllable start out xs
    else if circles && has_character font DOTTED_CIRCLE then with_circle (has_no_width font u) out xs else keep_step false out xs
