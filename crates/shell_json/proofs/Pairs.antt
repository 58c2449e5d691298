-- A list of two values, and one of another length.
use Rattle.std.proofs.Common.{◌≡◌, ◌≢◌, List, [], ◌∷◌, length, get_or, Err, Result, arith, refl}
use Rattle.serde_json.specs.declared.value.Value.{Value}
use Rattle.serde_json.specs.Data.{Data}
use Rattle.serde_json.specs.View.{view, items_view}
use Rattle.shell_json.specs.declared.fault.JsonFault.{JsonFault}
use Rattle.shell_json.specs.declared.fault.JsonFault.TheVariants.{WrongShape}
use Rattle.shell_json.specs.Cell.{two_of, both}

pub two_values : {A B : Type 0} (f : Data → Result A JsonFault) (g : Data → Result B JsonFault) (vs : List Value) (d e : Value)
    → length vs ≡ 2 → both (f (view (get_or vs 0 d))) (g (view (get_or vs 1 e))) ≡ two_of f g (items_view vs)
two_values f g [] d e h = absurd (omega (arith, h))
two_values f g (v ∷ []) d e h = absurd (omega (arith, h))
two_values f g (v ∷ w ∷ []) d e h = refl
two_values f g (v ∷ w ∷ x ∷ vs) d e h = absurd (omega (arith, h))

pub not_two : {A B : Type 0} (f : Data → Result A JsonFault) (g : Data → Result B JsonFault) (vs : List Value)
    → length vs ≢ 2 → Err WrongShape ≡ two_of f g (items_view vs)
not_two f g [] h = refl
not_two f g (v ∷ []) h = refl
not_two f g (v ∷ w ∷ []) h = absurd (h refl)
not_two f g (v ∷ w ∷ x ∷ vs) h = refl
