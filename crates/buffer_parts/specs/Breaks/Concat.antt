-- Origins that are the same but for UNSAFE_TO_CONCAT, and events without those that set it.
use Rattle.std.specs.Prelude.{◌≡◌, List, [], ◌∷◌, bit_and}
use Rattle.buffer_glyphs.specs.Origins.{Origin}
use Rattle.buffer_glyphs.specs.Events.{Event, Merge, MergeGrapheme, Replace, Circle, Delete, Move, Arrange, Sort, Reverse, Break, Concat, Tatweel, StrictBreak, Spread, Reset}

-- two lists of origins have the same clusters, and the same flags but for UNSAFE_TO_CONCAT
abbrev pub SameButConcat : List Origin → List Origin → Type 0
SameButConcat [] [] = Unit {0}
SameButConcat [] (q ∷ qs) = ⊥
SameButConcat (o ∷ os) [] = ⊥
SameButConcat (o ∷ os) (q ∷ qs) = (o.cluster ≡ q.cluster) × (bit_and o.flags 5 ≡ bit_and q.flags 5) × SameButConcat os qs

-- events without those that set UNSAFE_TO_CONCAT
abbrev pub without_concats : List Event → List Event
without_concats [] = []
without_concats (Concat from to ∷ es) = without_concats es
without_concats (Merge how from to ∷ es) = Merge how from to ∷ without_concats es
without_concats (MergeGrapheme from to ∷ es) = MergeGrapheme from to ∷ without_concats es
without_concats (Replace at taken given ∷ es) = Replace at taken given ∷ without_concats es
without_concats (Circle after beside like ∷ es) = Circle after beside like ∷ without_concats es
without_concats (Delete at ∷ es) = Delete at ∷ without_concats es
without_concats (Move how from order ∷ es) = Move how from order ∷ without_concats es
without_concats (Arrange from order ∷ es) = Arrange from order ∷ without_concats es
without_concats (Sort from order ∷ es) = Sort from order ∷ without_concats es
without_concats (Reverse ∷ es) = Reverse ∷ without_concats es
without_concats (Break from to ∷ es) = Break from to ∷ without_concats es
without_concats (Tatweel from to ∷ es) = Tatweel from to ∷ without_concats es
without_concats (StrictBreak from to ∷ es) = StrictBreak from to ∷ without_concats es
without_concats (Spread ∷ es) = Spread ∷ without_concats es
without_concats (Reset ∷ es) = Reset ∷ without_concats es
