-- Clusters that are where characters of a text begin.
use Rattle.std.specs.Prelude.{ℕ, IsTrue, List}
use Rattle.buffer_glyphs.specs.Order.{IsOrdered, BringsNone, has_number}

-- clusters that never fall or never rise, each the start of a character of the text, with 0 among them
pub record FitsText (starts clusters : List ℕ) : Type 0 where
  pub ordered : IsOrdered clusters
  pub starting : BringsNone starts clusters
  pub zero_there : IsTrue (has_number clusters 0)
