-- Where it is unsafe to break a text.
use Rattle.std.specs.Prelude.{ℕ, ◌≡◌, ◌==◌, ◌&&◌, Bool, true, IsTrue, List, [], ◌∷◌, bit_and}
use Rattle.std.specs.List.{list_any}
use Rattle.buffer_glyphs.specs.declared.level.BufferClusterLevel.{BufferClusterLevel}
use Rattle.buffer_glyphs.specs.Levels.{IsMonotone}
use Rattle.buffer_glyphs.specs.Order.{has_number, IsOrdered}
use Rattle.buffer_glyphs.specs.Origins.{Origin, Asks, numbers, is_unsafe}

-- whether an origin is of a cluster, and unsafe to break
abbrev pub is_unsafe_of : ℕ → Origin → Bool
is_unsafe_of c o = o.cluster == c && is_unsafe o.flags

-- whether one origin of a cluster is unsafe to break
abbrev pub has_unsafe_of : ℕ → List Origin → Bool
has_unsafe_of c os = list_any (is_unsafe_of c) os

-- a text is unsafe to break at the start of a cluster: no origin has the cluster, or one that has it is unsafe to break
abbrev pub IsUnsafeAt : ℕ → List Origin → Type 0
IsUnsafeAt c os = IsTrue (has_number (numbers os) c) → IsTrue (has_unsafe_of c os)

-- whether an origin is of a cluster, and has UNSAFE_TO_BREAK
abbrev pub is_flagged_of : ℕ → Origin → Bool
is_flagged_of c o = o.cluster == c && bit_and o.flags 1 == 1

-- whether one origin of a cluster has UNSAFE_TO_BREAK
abbrev pub has_flagged_of : ℕ → List Origin → Bool
has_flagged_of c os = list_any (is_flagged_of c) os

-- the flags show that it is unsafe to break at the start of a cluster: no origin has the cluster, or one that has it has
-- UNSAFE_TO_BREAK
abbrev pub IsFlaggedAt : ℕ → List Origin → Type 0
IsFlaggedAt c os = IsTrue (has_number (numbers os) c) → IsTrue (has_flagged_of c os)

-- no origin has SAFE_TO_INSERT_TATWEEL
abbrev pub HaveNoTatweel : List Origin → Type 0
HaveNoTatweel [] = Unit {0}
HaveNoTatweel (o ∷ os) = (bit_and o.flags 4 ≡ 0) × HaveNoTatweel os

-- origins with safe breaks: PRODUCE_SAFE_BREAKS is requested, the level is monotone, and clusters are in order
pub record HaveSafeBreaks (asks : Asks) (level : BufferClusterLevel) (os : List Origin) : Type 0 where
  pub requested : asks.breaks ≡ true
  pub monotone : IsMonotone level
  pub ordered : IsOrdered (numbers os)
