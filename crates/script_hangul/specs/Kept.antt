-- A Hangul text that needs no change.
use Rattle.std.specs.Prelude.{ℕ, not, ◌&&◌, Bool, true, false, List, [], ◌∷◌, Option, Some, None}
use Rattle.layout_face.specs.declared.parts.FaceParts.{FaceParts}
use Rattle.buffer_glyphs.specs.Items.{Item}
use Rattle.script_hangul.specs.declared.actions.Action.{Action}
use Rattle.script_hangul.specs.declared.actions.Action.TheVariants.{Keep, Apart, Compose, Split}
use Rattle.script_hangul.specs.Jamo.{is_tone}
use Rattle.script_hangul.specs.Actions.{action_on}
use Rattle.script_hangul.specs.Hangul.{character_at}

-- an action keeps the first character as it is
abbrev pub is_keep : Action → Bool
is_keep (Keep whole) = true
is_keep (Apart n) = false
is_keep (Compose n u) = false
is_keep (Split letters joins) = false

-- the first of some characters stays as it is: it is no tone mark, and the action on it keeps it
abbrev pub keeps_by : FaceParts → Option ℕ → List Item → Bool
keeps_by font None xs = true
keeps_by font (Some u) xs = not (is_tone u) && is_keep (action_on font u (character_at 1 xs) (character_at 2 xs))

-- the first item of a list stays as it is
abbrev pub keeps_first : FaceParts → List Item → Bool
keeps_first font xs = keeps_by font (character_at 0 xs) xs

-- each item of a list stays as it is
abbrev pub is_kept : FaceParts → List Item → Bool
is_kept font [] = true
is_kept font (x ∷ xs) = keeps_first font (x ∷ xs) && is_kept font xs
