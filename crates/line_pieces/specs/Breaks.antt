-- The bytes of a text at which its lines may end.
use Rattle.std.specs.Prelude.{ℕ, ◌≤◌, ◌<◌, List, [], ◌∷◌}
use Rattle.std.specs.Str.{IsCharBoundary}

-- bytes of a text at which its lines may end, after a last one: they rise, and a character of the text ends at each
abbrev pub AreBreaks : List ℕ → ℕ → List ℕ → Type 0
AreBreaks text last [] = Unit {0}
AreBreaks text last (b ∷ bs) = last < b × IsCharBoundary text b × AreBreaks text b bs

-- indices of units at which the lines of a text of `end` units may end, after a last one: they rise, and none is past the
-- end
abbrev pub AreBreaksTo : ℕ → ℕ → List ℕ → Type 0
AreBreaksTo end last [] = Unit {0}
AreBreaksTo end last (b ∷ bs) = last < b × b ≤ end × AreBreaksTo end b bs
