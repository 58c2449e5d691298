-- Small lists of origins, by computation: what makes a break safe that was not, and what keeps it unsafe.
use Rattle.std.proofs.Common.{ℕ, ◌≡◌, false, true, List, [], ◌∷◌, ◌++◌, map, arith, refl}
use Rattle.buffer_glyphs.specs.declared.level.BufferClusterLevel.TheVariants.{MonotoneGraphemes, Characters}
use Rattle.buffer_glyphs.specs.Rewriting.{shifted_event}
use Rattle.buffer_glyphs.specs.Origins.{Origin, Asks, InList}
use Rattle.buffer_glyphs.specs.Events.{Merge, Replace, Delete, Arrange, Sort, Break, Tatweel, StrictBreak, Spread, Reset, origins_after}
use Rattle.buffer_parts.specs.Breaks.Unsafe.{IsUnsafeAt, IsFlaggedAt}
use Rattle.buffer_parts.specs.Breaks.Bound.{Crosses}

abbrev origin : ℕ → ℕ → Origin
origin c flags = record { cluster = c; flags = flags }

-- no request, safe breaks, and safe breaks with tatweels
abbrev none : Asks
none = record { concat = false; tatweel = false; breaks = false }

abbrev breaks : Asks
breaks = record { concat = false; tatweel = false; breaks = true }

abbrev tatweels : Asks
tatweels = record { concat = false; tatweel = true; breaks = true }

-- two glyphs of cluster 1, of which the second is unsafe to break, after one of cluster 0
abbrev rising : List Origin
rising = origin 0 0 ∷ origin 1 0 ∷ origin 1 1 ∷ []

-- the same two before one of cluster 0
abbrev falling : List Origin
falling = origin 1 0 ∷ origin 1 1 ∷ origin 0 0 ∷ []

unsafe_before : IsUnsafeAt 1 rising
unsafe_before = λ h. refl

-- ---- without the request

-- the second is deleted
deletion_loses : IsUnsafeAt 1 (origins_after none MonotoneGraphemes (Delete 2 ∷ []) rising) → ⊥
deletion_loses u = let h = u refl in cc

-- both are replaced by one
replacement_loses : IsUnsafeAt 1 (origins_after none MonotoneGraphemes (Replace 1 2 1 ∷ []) rising) → ⊥
replacement_loses u = let h = u refl in cc

-- a ligature of both: they merge, and the second is deleted
ligature_loses : IsUnsafeAt 1 (origins_after none MonotoneGraphemes (Merge InList 0 2 ∷ Replace 1 1 0 ∷ []) falling) → ⊥
ligature_loses u = let h = u refl in cc

-- a range is flagged only where it is requested
strict_break_flags_none : origins_after none MonotoneGraphemes (StrictBreak 0 2 ∷ []) (origin 0 0 ∷ origin 1 0 ∷ []) ≡ origin 0 0 ∷ origin 1 0 ∷ []
strict_break_flags_none = refl

-- ---- with the request

deletion_keeps : origins_after breaks MonotoneGraphemes (Delete 2 ∷ []) rising ≡ origin 0 0 ∷ origin 1 1 ∷ []
deletion_keeps = refl

replacement_keeps : origins_after breaks MonotoneGraphemes (Replace 1 2 1 ∷ []) rising ≡ origin 0 0 ∷ origin 1 1 ∷ []
replacement_keeps = refl

ligature_keeps : origins_after breaks MonotoneGraphemes (Merge InList 0 2 ∷ Replace 1 1 0 ∷ []) falling ≡ origin 1 1 ∷ origin 0 0 ∷ []
ligature_keeps = refl

-- the neighbour before gets the flags, and no other of its cluster
one_before_keeps : origins_after breaks MonotoneGraphemes (Delete 3 ∷ []) (origin 0 0 ∷ origin 1 0 ∷ origin 1 0 ∷ origin 1 1 ∷ []) ≡ rising
one_before_keeps = refl

-- the neighbour after gets them, where the one before is of another cluster
one_after_keeps : origins_after breaks MonotoneGraphemes (Delete 1 ∷ []) (origin 0 0 ∷ origin 1 1 ∷ origin 1 0 ∷ []) ≡ origin 0 0 ∷ origin 1 1 ∷ []
one_after_keeps = refl

-- glyphs of two clusters are replaced by one of the first, and the second goes on after it
second_keeps : origins_after breaks Characters (Replace 0 2 1 ∷ []) (origin 0 0 ∷ origin 1 0 ∷ origin 1 0 ∷ []) ≡ origin 0 0 ∷ origin 1 3 ∷ []
second_keeps = refl

-- a range across the start of cluster 1
across : Crosses 1 0 2 (0 ∷ 1 ∷ 2 ∷ [])
across = record { low = 0; high = 1; has_low = refl; has_high = refl; below = omega arith; above = omega arith }

strict_break_flags : origins_after breaks MonotoneGraphemes (StrictBreak 0 2 ∷ []) (origin 0 0 ∷ origin 1 0 ∷ []) ≡ origin 0 0 ∷ origin 1 3 ∷ []
strict_break_flags = refl

-- a sort across the start of cluster 1 unites what it exchanges, or flags it
sort_unites : origins_after none MonotoneGraphemes (Sort 0 (1 ∷ 0 ∷ []) ∷ []) (origin 0 0 ∷ origin 1 0 ∷ []) ≡ origin 0 0 ∷ origin 0 0 ∷ []
sort_unites = refl

sort_flags : origins_after none Characters (Sort 0 (1 ∷ 0 ∷ []) ∷ []) (origin 0 0 ∷ origin 1 0 ∷ []) ≡ origin 1 3 ∷ origin 0 0 ∷ []
sort_flags = refl

-- ---- SAFE_TO_INSERT_TATWEEL is unsafe to break, and a spread shows it

-- the glyph with that flag is deleted, and the neighbour of its cluster gets it
tatweel_stays : origins_after tatweels MonotoneGraphemes (Delete 2 ∷ []) (origin 0 0 ∷ origin 1 0 ∷ origin 1 4 ∷ []) ≡ origin 0 0 ∷ origin 1 4 ∷ []
tatweel_stays = refl

tatweel_shows : origins_after tatweels MonotoneGraphemes (Tatweel 0 2 ∷ Spread ∷ []) (origin 0 0 ∷ origin 1 0 ∷ []) ≡ origin 0 0 ∷ origin 1 5 ∷ []
tatweel_shows = refl

-- where that isn't requested, it would stay as it is
tatweel_hides : IsFlaggedAt 1 (origins_after breaks MonotoneGraphemes (Spread ∷ []) (origin 0 0 ∷ origin 1 4 ∷ [])) → ⊥
tatweel_hides u = let h = u refl in cc

-- ---- what the laws exclude

-- all flags are cleared
reset_loses : IsUnsafeAt 1 (origins_after breaks MonotoneGraphemes (Reset ∷ []) rising) → ⊥
reset_loses u = let h = u refl in cc

-- an order that has an index twice, and another not at all
order_loses : IsUnsafeAt 1 (origins_after breaks MonotoneGraphemes (Arrange 1 (0 ∷ 0 ∷ []) ∷ []) rising) → ⊥
order_loses u = let h = u refl in cc

-- clusters out of order, as a level that isn't monotone leaves them: the last run before a deleted glyph takes its
-- cluster, and its own cluster is left in a glyph before
disorder_loses : IsUnsafeAt 5 (origins_after breaks Characters (Delete 3 ∷ []) (origin 5 0 ∷ origin 3 0 ∷ origin 5 1 ∷ origin 4 0 ∷ [])) → ⊥
disorder_loses u = let h = u refl in cc

-- ---- events within one of two lists

-- a ligature in the first list, and a range that is flagged in the second
first_alone : origins_after breaks MonotoneGraphemes (Merge InList 0 2 ∷ Replace 1 1 0 ∷ map (shifted_event 1) (Break 0 2 ∷ [])) (origin 0 0 ∷ origin 1 0 ∷ origin 2 0 ∷ origin 3 0 ∷ [])
    ≡ origins_after breaks MonotoneGraphemes (Merge InList 0 2 ∷ Replace 1 1 0 ∷ []) (origin 0 0 ∷ origin 1 0 ∷ []) ++ origins_after breaks MonotoneGraphemes (Break 0 2 ∷ []) (origin 2 0 ∷ origin 3 0 ∷ [])
first_alone = refl

-- the same, backward: the second list first
second_alone : origins_after breaks MonotoneGraphemes (map (shifted_event 2) (Break 0 2 ∷ []) ++ (Merge InList 0 2 ∷ Replace 1 1 0 ∷ [])) (origin 0 0 ∷ origin 1 0 ∷ origin 2 0 ∷ origin 3 0 ∷ [])
    ≡ origins_after breaks MonotoneGraphemes (Merge InList 0 2 ∷ Replace 1 1 0 ∷ []) (origin 0 0 ∷ origin 1 0 ∷ []) ++ origins_after breaks MonotoneGraphemes (Break 0 2 ∷ []) (origin 2 0 ∷ origin 3 0 ∷ [])
second_alone = refl

-- the only glyph before the cut is deleted: the one after takes its cluster, so that no cluster begins at the cut
only_glyph : origins_after breaks MonotoneGraphemes (Delete 0 ∷ []) (origin 0 0 ∷ origin 1 0 ∷ origin 2 0 ∷ []) ≡ origin 0 0 ∷ origin 2 0 ∷ []
only_glyph = refl
