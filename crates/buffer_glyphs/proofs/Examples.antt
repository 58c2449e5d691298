-- Small lists, by computation.
use Rattle.std.proofs.Common.{ℕ, ◌≡◌, true, false, [], ◌∷◌, refl}
use Rattle.buffer_glyphs.specs.declared.level.BufferClusterLevel.TheVariants.{MonotoneGraphemes, MonotoneCharacters, Characters}
use Rattle.buffer_glyphs.specs.Origins.{Origin, Asks, InList, InOutput}
use Rattle.buffer_glyphs.specs.Events.{Merge, Replace, Circle, Delete, Move, Arrange, Concat, Tatweel, Spread, origins_after}

abbrev o : ℕ → ℕ → Origin
o c f = record { cluster = c; flags = f }

abbrev none : Asks
none = record { concat = false; tatweel = false; breaks = false }

abbrev both : Asks
both = record { concat = true; tatweel = true; breaks = false }

spread : origins_after (record { concat = false; tatweel = true; breaks = false }) MonotoneGraphemes (Spread ∷ []) (o 0 1 ∷ o 0 4 ∷ o 1 4 ∷ []) ≡ o 0 1 ∷ o 0 1 ∷ o 1 5 ∷ []
spread = refl

apart : origins_after none Characters (Merge InList 0 2 ∷ Merge InOutput 0 2 ∷ []) (o 3 0 ∷ o 1 0 ∷ []) ≡ o 3 3 ∷ o 1 0 ∷ []
apart = refl

unordered : origins_after none MonotoneCharacters (Merge InList 1 3 ∷ []) (o 5 1 ∷ o 2 4 ∷ o 5 1 ∷ o 9 1 ∷ []) ≡ o 2 0 ∷ o 2 4 ∷ o 2 0 ∷ o 9 1 ∷ []
unordered = refl

deleted : origins_after none Characters (Delete 1 ∷ []) (o 5 0 ∷ o 2 4 ∷ o 7 0 ∷ []) ≡ o 2 4 ∷ o 7 0 ∷ []
deleted = refl

moved : origins_after none MonotoneCharacters (Move InOutput 1 (2 ∷ 0 ∷ 1 ∷ []) ∷ []) (o 0 1 ∷ o 1 1 ∷ o 2 2 ∷ o 3 4 ∷ []) ≡ o 0 1 ∷ o 1 0 ∷ o 1 1 ∷ o 1 0 ∷ []
moved = refl

arranged : origins_after none Characters (Arrange 1 (1 ∷ 0 ∷ []) ∷ []) (o 0 1 ∷ o 1 1 ∷ o 2 2 ∷ []) ≡ o 0 1 ∷ o 2 2 ∷ o 1 1 ∷ []
arranged = refl

circled : origins_after none Characters (Circle true 1 0 ∷ []) (o 0 1 ∷ o 1 4 ∷ o 2 2 ∷ []) ≡ o 0 1 ∷ o 1 4 ∷ o 1 1 ∷ o 2 2 ∷ []
circled = refl

asked : origins_after both Characters (Concat 0 2 ∷ Tatweel 0 2 ∷ []) (o 0 0 ∷ o 1 0 ∷ []) ≡ o 0 2 ∷ o 1 6 ∷ []
asked = refl

not_asked : origins_after none Characters (Concat 0 2 ∷ Tatweel 0 2 ∷ []) (o 0 0 ∷ o 1 0 ∷ []) ≡ o 0 0 ∷ o 1 3 ∷ []
not_asked = refl

ligature : origins_after none MonotoneGraphemes (Replace 1 2 1 ∷ []) (o 0 1 ∷ o 1 4 ∷ o 2 2 ∷ o 3 0 ∷ []) ≡ o 0 1 ∷ o 1 4 ∷ o 3 0 ∷ []
ligature = refl

multiple : origins_after none Characters (Replace 1 0 1 ∷ Replace 1 0 1 ∷ Replace 3 1 0 ∷ []) (o 0 1 ∷ o 1 4 ∷ o 2 2 ∷ []) ≡ o 0 1 ∷ o 1 4 ∷ o 1 4 ∷ o 2 2 ∷ []
multiple = refl
