-- The actions on Thai marks and consonants in fonts with private-use presentation forms.
use Rattle.std.specs.Prelude.{ℕ, List, [], ◌∷◌, codes}
use Rattle.script_categories.specs.declared.thai_action.TheConstants as action
use Rattle.script_categories.specs.Names.{AreNumbered}

-- the names of the actions
abbrev pub thai_actions : List (List ℕ × ℕ)
thai_actions =
    (codes "SD", action.SD) ∷
    (codes "SDL", action.SDL) ∷
    (codes "SL", action.SL) ∷
    (codes "RD", action.RD) ∷
    []

-- law: the actions are numbered from 0 on, each with a name of its own
abbrev pub ThaiActionsAreNumbered : Type 0
ThaiActionsAreNumbered = AreNumbered thai_actions
