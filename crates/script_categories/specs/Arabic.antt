-- The actions of Arabic joining.
use Rattle.std.specs.Prelude.{ℕ, List, [], ◌∷◌}
use Rattle.script_categories.specs.declared.arabic_action_t.TheConstants as action
use Rattle.script_categories.specs.Names.{AreInOrder}

-- the actions of Arabic joining: the letters' forms, and the two kinds of stretching tiles
abbrev pub actions : List ℕ
actions = action.ISOL ∷ action.FINA ∷ action.FIN2 ∷ action.FIN3 ∷ action.MEDI ∷ action.MED2 ∷ action.INIT ∷ action.NONE ∷ action.STRETCHING_FIXED ∷ action.STRETCHING_REPEATING ∷ []

-- law: the actions are numbered from 0 on, without gaps
abbrev pub ActionsAreInOrder : Type 0
ActionsAreInOrder = AreInOrder actions
