-- From a value back to the conditions that it needed.
use Rattle.std.proofs.Common.{◌≡◌, Bool, true, false, if◌then◌else◌, Result, Ok, Err, refl}
use Rattle.font_bytes.specs.Results.{and_then}

-- a chain that ends well began well
pub chain_ok : {A B E : Type 0} (x : Result A E) (next : A → Result B E) (b : B) → and_then x next ≡ Ok b → (a : A) × (next a ≡ Ok b)
chain_ok (Ok a) next b h = (a, h)
chain_ok (Err e) next b h = cc
