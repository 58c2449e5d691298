-- The indices of a match, once a lookup nested at one of them made the list longer or shorter.
use Rattle.std.specs.Prelude.{ℕ, zero, suc, ◌+◌, ◌-◌, max, List, [], ◌∷◌, ◌++◌, take, drop, map, get_or}

-- n indices that follow one
abbrev pub following : ℕ → ℕ → List ℕ
following p zero = []
following p (suc n) = (p + 1) ∷ following (p + 1) n

-- the indices of a match, once the list's length changed at the i-th: as many are inserted after it as items were, or
-- as many deleted there as items were, later ones move, and those past 64 are left out
abbrev pub indices_after_resize : ℕ → ℕ → ℕ → List ℕ → List ℕ
indices_after_resize i before after ps =
    take 64 (take (i + 1) ps ++ following (get_or ps i 0) (after - before) ++ map (λ q. q + after - before) (drop (before - after) (drop (i + 1) ps)))

-- the end of the match then: never before the index of the lookup
abbrev pub moved_end : ℕ → ℕ → ℕ → ℕ → ℕ
moved_end p before after end = max p (end + after - before)
