-- Lists of values by their length.
use Rattle.std.proofs.Common.{◌≡◌, ◌≢◌, List, [], ◌∷◌, length, get_or, Ok, Err, arith, refl}
use Rattle.serde_json.specs.declared.value.Value.{Value}
use Rattle.serde_json.specs.View.{view, items_view}
use Rattle.shell_json.specs.declared.fault.JsonFault.TheVariants.{WrongShape}
use Rattle.shell_json.specs.Items.{two_in, three_in, four_in}

pub two_items : (vs : List Value) (d e : Value) → length vs ≡ 2 → two_in (items_view vs) ≡ Ok (view (get_or vs 0 d), view (get_or vs 1 e))
two_items [] d e h = absurd (omega (arith, h))
two_items (v ∷ []) d e h = absurd (omega (arith, h))
two_items (v ∷ w ∷ []) d e h = refl
two_items (v ∷ w ∷ x ∷ vs) d e h = absurd (omega (arith, h))

pub not_two_items : (vs : List Value) → length vs ≢ 2 → two_in (items_view vs) ≡ Err WrongShape
not_two_items [] h = refl
not_two_items (v ∷ []) h = refl
not_two_items (v ∷ w ∷ []) h = absurd (h refl)
not_two_items (v ∷ w ∷ x ∷ vs) h = refl

pub three_items : (vs : List Value) (d e f : Value) → length vs ≡ 3 → three_in (items_view vs) ≡ Ok (view (get_or vs 0 d), view (get_or vs 1 e), view (get_or vs 2 f))
three_items [] d e f h = absurd (omega (arith, h))
three_items (v ∷ []) d e f h = absurd (omega (arith, h))
three_items (v ∷ w ∷ []) d e f h = absurd (omega (arith, h))
three_items (v ∷ w ∷ x ∷ []) d e f h = refl
three_items (v ∷ w ∷ x ∷ y ∷ vs) d e f h = absurd (omega (arith, h))

pub not_three_items : (vs : List Value) → length vs ≢ 3 → three_in (items_view vs) ≡ Err WrongShape
not_three_items [] h = refl
not_three_items (v ∷ []) h = refl
not_three_items (v ∷ w ∷ []) h = refl
not_three_items (v ∷ w ∷ x ∷ []) h = absurd (h refl)
not_three_items (v ∷ w ∷ x ∷ y ∷ vs) h = refl

pub four_items : (vs : List Value) (d e f g : Value) → length vs ≡ 4
    → four_in (items_view vs) ≡ Ok (view (get_or vs 0 d), view (get_or vs 1 e), view (get_or vs 2 f), view (get_or vs 3 g))
four_items [] d e f g h = absurd (omega (arith, h))
four_items (v ∷ []) d e f g h = absurd (omega (arith, h))
four_items (v ∷ w ∷ []) d e f g h = absurd (omega (arith, h))
four_items (v ∷ w ∷ x ∷ []) d e f g h = absurd (omega (arith, h))
four_items (v ∷ w ∷ x ∷ y ∷ []) d e f g h = refl
four_items (v ∷ w ∷ x ∷ y ∷ z ∷ vs) d e f g h = absurd (omega (arith, h))

pub not_four_items : (vs : List Value) → length vs ≢ 4 → four_in (items_view vs) ≡ Err WrongShape
not_four_items [] h = refl
not_four_items (v ∷ []) h = refl
not_four_items (v ∷ w ∷ []) h = refl
not_four_items (v ∷ w ∷ x ∷ []) h = refl
not_four_items (v ∷ w ∷ x ∷ y ∷ []) h = absurd (h refl)
not_four_items (v ∷ w ∷ x ∷ y ∷ z ∷ vs) h = refl
