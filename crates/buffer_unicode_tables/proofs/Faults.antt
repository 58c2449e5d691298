-- The fault of the first table that has one.
use Rattle.std.proofs.Common.{◌≡◌, Option, Some, None, Result, Ok, Err, ap, sym, subst, ◌∙◌}
use Rattle.std.specs.Option.{option_or}
use Rattle.std.specs.Result.{IfErr, IsErrAnd}

pub then_sound : {X : Type 0} {a : Option X} (b : Option X) {o : Option X} → a ≡ None → b ≡ o → option_or a b ≡ o
then_sound {X} {a} b {o} e rest = ap (λ x. option_or x b) e ∙ rest

pub faulty : {X : Type 0} {a : Option X} (b : Option X) {x : X} → a ≡ Some x → option_or a b ≡ Some x
faulty {X} {a} b {x} e = ap (λ o. option_or o b) e

-- what holds of a fault holds of a result that is an error of it
pub fails_with : {A E : Type 0} (r : Result A E) (f : E) (P : E → Type 0) → IsErrAnd r (λ e. e ≡ f) → P f → IfErr r P
fails_with (Ok a) f P h p = tt
fails_with (Err e) f P h p = subst P (sym h) p
