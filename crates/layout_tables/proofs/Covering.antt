-- A glyph with an entry anchor has a row.
use mathlib.Core.Bool.{false≢true}
use Rattle.std.proofs.Common.{◌≡◌, true, Option, Some, None, is_some, option_and_then, refl}

pub entry_there : {X Y : Type 0} (f : X → Option Y) (o : Option X) → is_some (option_and_then f o) ≡ true → is_some o ≡ true
entry_there f None e = absurd (false≢true e)
entry_there f (Some x) e = refl
