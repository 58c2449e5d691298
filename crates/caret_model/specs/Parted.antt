-- What the code that looks for stops keeps.
use Rattle.std.specs.Prelude.{ℕ, ◌≤◌, ◌<◌, List, length, slice_index_or}

-- the index of the first stop at a byte or after it
pub record IsStart (stops : List ℕ) (byte at : ℕ) : Type 0 where
  pub within : at ≤ length stops
  pub below : (i d : ℕ) → i < at → slice_index_or stops i d < byte
  pub rest : (i d : ℕ) → at ≤ i → i < length stops → byte ≤ slice_index_or stops i d
