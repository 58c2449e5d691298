-- Results whose glyphs can be traced to slices of their text.
use Rattle.std.specs.Prelude.{ℕ, ◌<◌, IsTrue, List}
use Rattle.std.specs.Str.{chars}
use Rattle.buffer_glyphs.specs.Items.{clusters}
use Rattle.buffer_core.specs.Sides.{Sides, all_glyphs}
use Rattle.buffer_core.specs.Text.{offsets_from}
use Rattle.buffer_glyphs.specs.Order.{IsOrdered, has_number}
use Rattle.buffer_parts.specs.Fits.{FitsText}

-- the bytes at which the characters of a text begin
abbrev pub character_starts : List ℕ → List ℕ
character_starts text = offsets_from 0 (chars text)

-- the clusters of a result never fall or never rise, each is a byte at which a character of the text begins, and 0 is among them; a result without glyphs, as that of the empty text, has no cluster 0, so it doesn't fit
abbrev pub SlicesFit : Sides → List ℕ → Type 0
SlicesFit result text = FitsText (character_starts text) (clusters (all_glyphs result))

-- the clusters of a result never fall or never rise, each is the index of one of the `end` units of a text, as of UTF-16, and 0 is among them
pub record UnitsFit (result : Sides) (end : ℕ) : Type 0 where
  pub ordered : IsOrdered (clusters (all_glyphs result))
  pub within : (n : ℕ) → IsTrue (has_number (clusters (all_glyphs result)) n) → n < end
  pub zero_there : IsTrue (has_number (clusters (all_glyphs result)) 0)
