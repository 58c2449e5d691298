-- Results.
use Rattle.std.proofs.Common.{◌≡◌, Ok, Err, sym, subst}
use Rattle.std.specs.Prelude.{Result, IfErr, IsErrAnd}

pub passed_on : {A E : Type 0} (r : Result A E) (e : E) (P : E → Type 0) → IsErrAnd r (λ (f : E). f ≡ e) → P e → IfErr r P
passed_on (Ok a) e P h p = tt
passed_on (Err f) e P h p = subst P (sym h) p
