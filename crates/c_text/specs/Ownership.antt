-- What a handle owns.
use Rattle.std.specs.Prelude.{Bool, true, false, Option, Some, None}
use base.Fml.{Fml, ftrue, ffalse}

-- a live handle owns what the formula says of its value, one that is not live owns nothing
abbrev pub handle_owns : {A : Type 0} → (A → Fml) → Bool → Option A → Fml
handle_owns f true (Some x) = f x
handle_owns f true None = ffalse
handle_owns f false (Some x) = ffalse
handle_owns f false None = ftrue
