-- The bits of features in an item's mask.
use Rattle.std.specs.Prelude.{ℕ, ◌==◌, Bool, not, bit_and}

-- whether an item has one of the bits of a lookup's mask
abbrev pub shares_mask : ℕ → ℕ → Bool
shares_mask mask m = not (bit_and m mask == 0)
