-- Events that keep the parts of a text whatever its clusters are.
use Rattle.std.specs.Prelude.{ℕ, ◌≡◌, List, [], ◌∷◌}
use Rattle.buffer_glyphs.specs.Events.{Event, Merge, MergeGrapheme, Replace, Circle, Delete, Move, Arrange, Sort, Reverse, Break, Concat, Tatweel, StrictBreak, Spread, Reset, IsPlain, StaysInSpans}
use Rattle.buffer_parts.specs.Counts.{AreGiving, count_after}
use Rattle.buffer_parts.specs.Turns.{IsUnturned}

-- no event permutes glyphs without a merge or reverses the list, each replacement gives a glyph, and `after` glyphs are left of `before`
pub record ArePlainlyKept (es : List Event) (before after : ℕ) : Type 0 where
  pub plain : IsPlain es
  pub unturned : IsUnturned es
  pub giving : AreGiving es
  pub counted : count_after es before ≡ after

-- no event adds or deletes a glyph, permutes glyphs without a merge or reverses the list
abbrev pub AreSteady : List Event → Type 0
AreSteady [] = Unit {0}
AreSteady (Replace at taken given ∷ es) = ⊥
AreSteady (Circle after beside like ∷ es) = ⊥
AreSteady (Delete at ∷ es) = ⊥
AreSteady (Arrange from order ∷ es) = ⊥
AreSteady (Reverse ∷ es) = ⊥
AreSteady (Sort from order ∷ es) = StaysInSpans order × AreSteady es
AreSteady (Merge how from to ∷ es) = AreSteady es
AreSteady (MergeGrapheme from to ∷ es) = AreSteady es
AreSteady (Move how from order ∷ es) = AreSteady es
AreSteady (Break from to ∷ es) = AreSteady es
AreSteady (Concat from to ∷ es) = AreSteady es
AreSteady (Tatweel from to ∷ es) = AreSteady es
AreSteady (StrictBreak from to ∷ es) = AreSteady es
AreSteady (Spread ∷ es) = AreSteady es
AreSteady (Reset ∷ es) = AreSteady es
