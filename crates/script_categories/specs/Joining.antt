-- Arabic joining types.
use Rattle.std.specs.Prelude.{◌≡◌, ◌+◌, ℕ, List, [], ◌∷◌, codes, length}
use Rattle.script_categories.specs.declared.joining_types.hb_arabic_joining_type_t.{hb_arabic_joining_type_t}
use Rattle.script_categories.specs.declared.joining_types.hb_arabic_joining_type_t.TheVariants.{U, L, R, D, GroupAlaph, GroupDalathRish, T, X}
use Rattle.script_categories.specs.Names.{AreNumbered}

-- the joining types in the order of their numbers
abbrev pub joining_types : List hb_arabic_joining_type_t
joining_types = U ∷ L ∷ R ∷ D ∷ GroupAlaph ∷ GroupDalathRish ∷ T ∷ X ∷ []

-- the names of the types that a table row may have
abbrev pub joining_type_names : List (List ℕ × ℕ)
joining_type_names =
    (codes "U", 0) ∷
    (codes "L", 1) ∷
    (codes "R", 2) ∷
    (codes "D", 3) ∷
    (codes "ALAPH", 4) ∷
    (codes "DALATH_RISH", 5) ∷
    (codes "T", 6) ∷
    []

-- law: all types have names but the last, which is that of letters without a row
pub record JoiningTypesAreNumbered : Type 0 where
  pub numbered : AreNumbered joining_type_names
  pub all_but_last : length joining_type_names + 1 ≡ length joining_types
