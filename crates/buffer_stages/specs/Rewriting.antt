-- Lists with a rewritten range, and lists cut into syllables, each rewritten by itself.
use Rattle.std.specs.Prelude.{ℕ, ◌==◌, if◌then◌else◌, List, [], ◌∷◌, ◌++◌, map, take, drop, slice_range}
use Rattle.buffer_glyphs.specs.Items.{Item}
use Rattle.buffer_glyphs.specs.Rewriting.{Arrangement, beside, eventless_arrangement, shifted_event}

-- a rule for the range of a list from an index up to before another
abbrev pub within : ℕ → ℕ → (List Item → Arrangement) → List Item → Arrangement
within from to rule xs = record {
  items = take from xs ++ (rule (slice_range xs from to)).items ++ drop to xs;
  events = map (shifted_event from) (rule (slice_range xs from to)).events;
}

-- some lists, one after the other, each rewritten by itself
abbrev pub each_rewritten : (List Item → Arrangement) → List (List Item) → Arrangement
each_rewritten rule [] = eventless_arrangement []
each_rewritten rule (xs ∷ xss) = beside (rule xs) (each_rewritten rule xss)

-- an element before some runs: it belongs to the first of them where both have the same key
abbrev pub runs_with_first : {X : Type 0} → (X → ℕ) → X → List (List X) → List (List X)
runs_with_first key x [] = (x ∷ []) ∷ []
runs_with_first key x ([] ∷ runs) = (x ∷ []) ∷ runs
runs_with_first key x ((y ∷ ys) ∷ runs) = if key y == key x then (x ∷ y ∷ ys) ∷ runs else (x ∷ []) ∷ (y ∷ ys) ∷ runs

-- a list cut where the keys of neighbours differ
abbrev pub runs_of : {X : Type 0} → (X → ℕ) → List X → List (List X)
runs_of key [] = []
runs_of key (x ∷ xs) = runs_with_first key x (runs_of key xs)

-- the syllables of a list: neighbours with the same syllable byte are of one syllable
abbrev pub in_syllables : List Item → List (List Item)
in_syllables xs = runs_of (λ (x : Item). x.syllable) xs

-- each syllable rewritten by itself
abbrev pub by_syllable : (List Item → Arrangement) → List Item → Arrangement
by_syllable rule xs = each_rewritten rule (in_syllables xs)
