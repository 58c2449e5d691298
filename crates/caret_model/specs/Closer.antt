-- The closest caret to a byte, caret by caret.
use Rattle.std.specs.Prelude.{ℕ, ◌&&◌, Bool, true, false, nat_lt, Option, Some, None}
use Rattle.caret_model.specs.declared.carets.Caret.{Caret}

-- whether a byte is after another one, or where `back` before it
abbrev pub is_past : Bool → ℕ → ℕ → Bool
is_past false byte other = nat_lt byte other
is_past true byte other = nat_lt other byte

-- whether a caret is past a byte, and the best one so far is past it
abbrev pub is_closer : Bool → ℕ → Option Caret → Caret → Bool
is_closer back byte None c = is_past back byte c.byte
is_closer back byte (Some b) c = is_past back byte c.byte && is_past back c.byte b.byte
