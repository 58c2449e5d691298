-- What is read after what could be read, and after what could not.
use Rattle.std.proofs.Common.{◌≡◌, Result, Ok, Err, ap, ◌∙◌}
use Rattle.shell_json.specs.declared.fault.JsonFault.{JsonFault}
use Rattle.shell_json.specs.Cell.{and_then}

pub then_read : {A B : Type 0} {r : Result A JsonFault} (next : A → Result B JsonFault) {a : A} {o : Result B JsonFault} → r ≡ Ok a → next a ≡ o → and_then r next ≡ o
then_read {A} {B} {r} next {a} {o} e rest = ap (λ x. and_then x next) e ∙ rest

pub not_read : {A B : Type 0} {r : Result A JsonFault} (next : A → Result B JsonFault) {f : JsonFault} → r ≡ Err f → and_then r next ≡ Err f
not_read {A} {B} {r} next {f} e = ap (λ x. and_then x next) e
