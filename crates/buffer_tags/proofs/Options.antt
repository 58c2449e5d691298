-- What a value of a chain of options tells of its parts.
use Rattle.std.proofs.Common.{◌≡◌, ◌⊎◌, inl, inr, Option, Some, None, refl, ap}
use Rattle.std.specs.Option.{option_map, option_map_or, option_and_then}

pub chained : {A B : Type 0} (f : A → Option B) (o : Option A) (y : B)
    → option_and_then f o ≡ Some y → (x : A) × (o ≡ Some x) × (f x ≡ Some y)
chained f None y e = cc
chained f (Some x) y e = (x, refl, e)

pub mapped : {A B : Type 0} (f : A → B) (o : Option A) (y : B)
    → option_map f o ≡ Some y → (x : A) × (o ≡ Some x) × (f x ≡ y)
mapped f None y e = cc
mapped f (Some x) y e = (x, refl, cc)

pub chosen : {A B : Type 0} (f : A → B) (o : Option A) (d y : B)
    → option_map_or f o d ≡ y → ((x : A) × (o ≡ Some x) × (f x ≡ y)) ⊎ ((o ≡ None) × (d ≡ y))
chosen f None d y e = inr (refl, e)
chosen f (Some x) d y e = inl (x, refl, e)

pub some_is : {A : Type 0} {x y : A} → Some x ≡ Some y → x ≡ y
some_is {x = x} {y = y} e = cc

pub pair_parts : {A B : Type 0} {x y : A × B} → x ≡ y → (x.0 ≡ y.0) × (x.1 ≡ y.1)
pair_parts {A} {B} e = (ap (λ (r : A × B). r.0) e, ap (λ (r : A × B). r.1) e)

pub some_parts : {A B : Type 0} {x y : A × B} → Some x ≡ Some y → (x.0 ≡ y.0) × (x.1 ≡ y.1)
some_parts {x = x} {y = y} e = let pair : x ≡ y = cc in pair_parts pair
