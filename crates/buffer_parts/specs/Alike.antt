-- Views that differ in how long a list may be, and in the scratch flags that characters alone set.
use Rattle.std.specs.Prelude.{ℕ, ◌≡◌, List, [], ◌∷◌, Ok, Err, bit_and}
use Rattle.buffer_glyphs.specs.declared.level.BufferClusterLevel.{BufferClusterLevel}
use Rattle.buffer_core.specs.Readings.{View, Read, Reading, Stage}

-- the scratch flag that glyphs are attached to others: once the characters of a text were looked at, the only one that a stage reads
abbrev pub attachment_bit : ℕ → ℕ
attachment_bit scratch_flags = bit_and scratch_flags 8

-- a view with another limit of length and other scratch flags
abbrev pub with_limit_and_flags : ℕ → ℕ → View → View
with_limit_and_flags limit scratch_flags v = record v { max_len = limit; scratch_flags = scratch_flags }

-- two views are equal, but for how long a list may be and for the scratch flags that characters set
pub record SeenAlike (a b : View) : Type 0 where
  pub scratch_flags : attachment_bit a.scratch_flags ≡ attachment_bit b.scratch_flags
  pub same : b ≡ with_limit_and_flags b.max_len b.scratch_flags a

-- two readings lead to views seen alike, by the same events at each level
pub record ReadAlike (r s : Read) : Type 0 where
  pub view : SeenAlike r.view s.view
  pub events : (level : BufferClusterLevel) → r.events level ≡ s.events level

-- readings of which neither refuses are alike
abbrev pub ReadingsAlike : Reading → Reading → Type 0
ReadingsAlike (Ok r) (Ok s) = ReadAlike r s
ReadingsAlike (Ok r) (Err e) = Unit {0}
ReadingsAlike (Err d) b = Unit {0}

-- a limit of length changes nothing of what a stage reads, but whether it refuses
abbrev pub DependsOnNoLength : Stage → Type 0
DependsOnNoLength stage = (a b : View) → SeenAlike a b → ReadingsAlike (stage a) (stage b)

-- each of some stages depends on no limit of length
abbrev pub AllDependOnNoLength : List Stage → Type 0
AllDependOnNoLength [] = Unit {0}
AllDependOnNoLength (stage ∷ stages) = DependsOnNoLength stage × AllDependOnNoLength stages
