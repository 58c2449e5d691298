-- Small lists of events, by computation.
use Rattle.std.proofs.Common.{◌≡◌, ◌==◌, true, false, [], ◌∷◌, refl}
use Rattle.buffer_glyphs.specs.Origins.{InList}
use Rattle.buffer_glyphs.specs.Events.{Delete, Move, Arrange, Reverse}
use Rattle.buffer_lists.specs.Events.{order_of, groups_reversed, deletions}

-- equal keys keep their order
sorted : order_of (3 ∷ 1 ∷ 1 ∷ []) ≡ 1 ∷ 2 ∷ 0 ∷ []
sorted = refl

-- an index counts those that are left
deleted : deletions (λ n. n == 1) (1 ∷ 2 ∷ 1 ∷ 1 ∷ []) ≡ Delete 0 ∷ Delete 1 ∷ Delete 1 ∷ []
deleted = refl

-- two groups, merged or not
merged : groups_reversed true (λ m n. m == n) (5 ∷ 5 ∷ 7 ∷ []) ≡ Move InList 0 (1 ∷ 0 ∷ []) ∷ Move InList 2 (0 ∷ []) ∷ Reverse ∷ []
merged = refl

kept : groups_reversed false (λ m n. m == n) (5 ∷ 5 ∷ 7 ∷ []) ≡ Arrange 0 (1 ∷ 0 ∷ []) ∷ Arrange 2 (0 ∷ []) ∷ Reverse ∷ []
kept = refl
