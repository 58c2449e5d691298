-- How many rows a font may still have.
use Rattle.std.specs.Prelude.{ℕ, ◌-◌, nat_le, if◌then◌else◌, Result, Ok, Err}
use Rattle.font_bytes.specs.declared.fault.TableFault.{TableFault}
use Rattle.font_bytes.specs.declared.fault.TableFault.TheVariants.{TooLarge}

-- the room that some rows leave
abbrev pub room_after : ℕ → ℕ → Result ℕ TableFault
room_after room rows = if nat_le rows room then Ok (room - rows) else Err TooLarge
