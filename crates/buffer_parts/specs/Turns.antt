-- Events without a reversal of the list.
use Rattle.std.specs.Prelude.{List, [], ◌∷◌}
use Rattle.buffer_glyphs.specs.Events.{Event, Merge, MergeGrapheme, Replace, Circle, Delete, Move, Arrange, Sort, Reverse, Break, Concat, Tatweel, StrictBreak, Spread, Reset}

-- no event reverses the list
abbrev pub IsUnturned : List Event → Type 0
IsUnturned [] = Unit {0}
IsUnturned (Reverse ∷ es) = ⊥
IsUnturned (Merge how from to ∷ es) = IsUnturned es
IsUnturned (MergeGrapheme from to ∷ es) = IsUnturned es
IsUnturned (Replace at taken given ∷ es) = IsUnturned es
IsUnturned (Circle after at like ∷ es) = IsUnturned es
IsUnturned (Delete at ∷ es) = IsUnturned es
IsUnturned (Move how from order ∷ es) = IsUnturned es
IsUnturned (Arrange from order ∷ es) = IsUnturned es
IsUnturned (Sort from order ∷ es) = IsUnturned es
IsUnturned (Break from to ∷ es) = IsUnturned es
IsUnturned (Concat from to ∷ es) = IsUnturned es
IsUnturned (Tatweel from to ∷ es) = IsUnturned es
IsUnturned (StrictBreak from to ∷ es) = IsUnturned es
IsUnturned (Spread ∷ es) = IsUnturned es
IsUnturned (Reset ∷ es) = IsUnturned es
