-- Stages that insert no glyph number.
use Rattle.std.specs.List.Sorted.{IsPermutation}
use Rattle.buffer_core.specs.Readings.{Stage}
use Rattle.buffer_core.specs.Sides.{Sides, items_of}
use Rattle.buffer_stages.specs.Stages.{IsFollowed}
use Rattle.buffer_stages.specs.SyllableLaws.{numbers_of}

-- a stage was done, and the glyph numbers are a permutation of those before
pub record IsQuiet (stage : Stage) (old new : Sides) : Type 0 where
  pub followed : IsFollowed stage old new
  pub numbers : IsPermutation (numbers_of (items_of old)) (numbers_of (items_of new))
