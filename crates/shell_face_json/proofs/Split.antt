-- Lists of values as their items.
use Rattle.std.proofs.Common.{◌≡◌, ◌≢◌, suc, List, [], ◌∷◌, length, drop, get_or, false, is_some, Ok, Err, ap, arith, refl}
use Rattle.serde_json.specs.declared.value.Value.{Value}
use Rattle.serde_json.specs.View.{view, items_view}
use Rattle.shell_json.specs.declared.fault.JsonFault.TheVariants.{WrongShape}
use Rattle.shell_face_json.specs.Lists.{item_count}
use Rattle.serde_json.specs.Find.{as_number}
use Rattle.shell_face_json.specs.Row.{no_more, first_in}
use Rattle.shell_face_json.specs.Substitutions.{is_ligature}

pub none_left : (vs : List Value) → length vs ≡ 0 → no_more (items_view vs) ≡ Ok tt
none_left [] h = refl
none_left (v ∷ vs) h = absurd (omega (arith, h))

pub some_left : (vs : List Value) → length vs ≢ 0 → no_more (items_view vs) ≡ Err WrongShape
some_left [] h = absurd (h refl)
some_left (v ∷ vs) h = refl

pub first_of_some : (vs : List Value) (d : Value) → length vs ≢ 0 → first_in (items_view vs) ≡ Ok (view (get_or vs 0 d), items_view (drop 1 vs))
first_of_some [] d h = absurd (h refl)
first_of_some (v ∷ vs) d h = refl

pub first_of_none : (vs : List Value) → length vs ≡ 0 → first_in (items_view vs) ≡ Err WrongShape
first_of_none [] h = refl
first_of_none (v ∷ vs) h = absurd (omega (arith, h))

pub count_is_length : (vs : List Value) → item_count (items_view vs) ≡ length vs
count_is_length [] = refl
count_is_length (v ∷ vs) = ap suc (count_is_length vs)

pub no_ligature : (vs : List Value) → length vs ≢ 2 → is_ligature (items_view vs) ≡ false
no_ligature [] h = refl
no_ligature (v ∷ []) h = refl
no_ligature (v ∷ w ∷ []) h = absurd (h refl)
no_ligature (v ∷ w ∷ x ∷ vs) h = refl

pub maybe_ligature : (vs : List Value) (d : Value) → length vs ≡ 2 → is_ligature (items_view vs) ≡ is_some (as_number (view (get_or vs 1 d)))
maybe_ligature [] d h = absurd (omega (arith, h))
maybe_ligature (v ∷ []) d h = absurd (omega (arith, h))
maybe_ligature (v ∷ w ∷ []) d h = refl
maybe_ligature (v ∷ w ∷ x ∷ vs) d h = absurd (omega (arith, h))
