-- Events that leave as many glyphs as there were, by indices that are counted from further before.
use Rattle.std.proofs.Common.{ℕ, List, [], ◌∷◌, map}
use Rattle.buffer_glyphs.specs.Events.{Event, Merge, MergeGrapheme, Replace, Circle, Delete, Move, Arrange, Sort, Reverse, Break, Concat, Tatweel, StrictBreak, Spread, Reset}
use Rattle.buffer_glyphs.specs.Rewriting.{shifted_event}
use Rattle.buffer_parts.specs.Plainly.{AreSteady}

pub shifted_steady : (n : ℕ) (es : List Event) → AreSteady es → AreSteady (map (shifted_event n) es)
shifted_steady n [] p = tt
shifted_steady n (Replace at taken given ∷ es) p = absurd p
shifted_steady n (Circle after beside like ∷ es) p = absurd p
shifted_steady n (Delete at ∷ es) p = absurd p
shifted_steady n (Arrange from order ∷ es) p = absurd p
shifted_steady n (Reverse ∷ es) p = absurd p
shifted_steady n (Merge how from to ∷ es) p = shifted_steady n es p
shifted_steady n (MergeGrapheme from to ∷ es) p = shifted_steady n es p
shifted_steady n (Move how from order ∷ es) p = shifted_steady n es p
shifted_steady n (Sort from order ∷ es) p = (p.0, shifted_steady n es p.1)
shifted_steady n (Break from to ∷ es) p = shifted_steady n es p
shifted_steady n (Concat from to ∷ es) p = shifted_steady n es p
shifted_steady n (Tatweel from to ∷ es) p = shifted_steady n es p
shifted_steady n (StrictBreak from to ∷ es) p = shifted_steady n es p
shifted_steady n (Spread ∷ es) p = shifted_steady n es p
shifted_steady n (Reset ∷ es) p = shifted_steady n es p
