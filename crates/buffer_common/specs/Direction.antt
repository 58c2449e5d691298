-- Directions of lines, and those of scripts.
use Rattle.std.specs.Prelude.{◌==◌, if◌then◌else◌, ℕ, List, [], ◌∷◌, Bool, true, false, Option, Some, None, Result, Ok, Err}
use Rattle.std.specs.List.{list_any}
use Rattle.std.specs.Char.{to_ascii_lowercase}
use Rattle.buffer_common.specs.declared.direction.Direction.{Direction}
use Rattle.buffer_common.specs.declared.direction.Direction.TheVariants.{Invalid, LeftToRight, RightToLeft, TopToBottom, BottomToTop}
use Rattle.buffer_common.specs.declared.direction.InvalidDirection.{InvalidDirection}
use Rattle.buffer_common.specs.declared.script.Script.{Script}
use Rattle.buffer_common.specs.declared.script.TheConstants as script

-- scripts that are written from right to left
abbrev pub right_to_left_scripts : List Script
right_to_left_scripts =
    script.ARABIC ∷
    script.HEBREW ∷
    script.SYRIAC ∷
    script.THAANA ∷
    script.CYPRIOT ∷
    script.KHAROSHTHI ∷
    script.NKO ∷
    script.PHOENICIAN ∷
    script.LYDIAN ∷
    script.AVESTAN ∷
    script.IMPERIAL_ARAMAIC ∷
    script.INSCRIPTIONAL_PAHLAVI ∷
    script.INSCRIPTIONAL_PARTHIAN ∷
    script.OLD_SOUTH_ARABIAN ∷
    script.OLD_TURKIC ∷
    script.SAMARITAN ∷
    script.MANDAIC ∷
    script.MEROITIC_CURSIVE ∷
    script.MEROITIC_HIEROGLYPHS ∷
    script.MANICHAEAN ∷
    script.MENDE_KIKAKUI ∷
    script.NABATAEAN ∷
    script.OLD_NORTH_ARABIAN ∷
    script.PALMYRENE ∷
    script.PSALTER_PAHLAVI ∷
    script.HATRAN ∷
    script.ADLAM ∷
    script.HANIFI_ROHINGYA ∷
    script.OLD_SOGDIAN ∷
    script.SOGDIAN ∷
    script.ELYMAIC ∷
    script.CHORASMIAN ∷
    script.YEZIDI ∷
    script.OLD_UYGHUR ∷
    script.GARAY ∷
    []

-- old scripts that were written either way
abbrev pub either_way_scripts : List Script
either_way_scripts = script.RUNIC ∷ script.OLD_ITALIC ∷ script.TIFINAGH ∷ script.OLD_HUNGARIAN ∷ []

-- whether a script is in a list
abbrev pub is_among : List Script → Script → Bool
is_among scripts s = list_any (λ t. t.0.0 == s.0.0) scripts

-- the horizontal direction of a script, if it has only one
abbrev pub direction_of_script : Script → Option Direction
direction_of_script s =
    if is_among right_to_left_scripts s then Some RightToLeft
    else if is_among either_way_scripts s then None
    else Some LeftToRight

-- the direction whose name a letter begins, in either case
abbrev pub direction_of_letter : ℕ → Result Direction InvalidDirection
direction_of_letter letter =
    if letter == 108 then Ok LeftToRight  -- l
    else if letter == 114 then Ok RightToLeft  -- r
    else if letter == 116 then Ok TopToBottom  -- t
    else if letter == 98 then Ok BottomToTop  -- b
    else Err (record {})

-- the direction of a text, by its first letter
abbrev pub direction_of_text : List ℕ → Result Direction InvalidDirection
direction_of_text [] = Err (record {})
direction_of_text (first ∷ rest) = direction_of_letter (to_ascii_lowercase first)

-- whether a direction is horizontal
abbrev pub is_horizontal : Direction → Bool
is_horizontal LeftToRight = true
is_horizontal RightToLeft = true
is_horizontal _ = false

-- whether a direction is vertical
abbrev pub is_vertical : Direction → Bool
is_vertical TopToBottom = true
is_vertical BottomToTop = true
is_vertical _ = false

-- whether a direction runs rightward or downward
abbrev pub is_forward : Direction → Bool
is_forward LeftToRight = true
is_forward TopToBottom = true
is_forward _ = false

-- whether a direction runs leftward or upward
abbrev pub is_backward : Direction → Bool
is_backward RightToLeft = true
is_backward BottomToTop = true
is_backward _ = false

-- the opposite direction along the same line
abbrev pub opposite : Direction → Direction
opposite Invalid = Invalid
opposite LeftToRight = RightToLeft
opposite RightToLeft = LeftToRight
opposite TopToBottom = BottomToTop
opposite BottomToTop = TopToBottom
