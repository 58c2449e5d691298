-- Tests of clusters.
use Rattle.std.specs.Prelude.{ℕ, ◌&&◌, ◌||◌, Bool, true, nat_le, nat_lt, List, [], ◌∷◌}
use Rattle.std.specs.List.{list_all}
use Rattle.buffer_glyphs.specs.Order.{has_number}
use Rattle.buffer_parts.specs.Slices.{first_or}

-- numbers never decrease, and the first is no less than `last`
abbrev pub rise_from : ℕ → List ℕ → Bool
rise_from last [] = true
rise_from last (n ∷ ns) = nat_le last n && rise_from n ns

-- numbers never increase, and the first is no greater than `last`
abbrev pub fall_from : ℕ → List ℕ → Bool
fall_from last [] = true
fall_from last (n ∷ ns) = nat_le n last && fall_from n ns

-- clusters never decrease or never increase
abbrev pub are_ordered : List ℕ → Bool
are_ordered ns = rise_from 0 ns || fall_from (first_or 0 ns) ns

-- clusters never decrease or never increase, each is one of the starts, and 0 is among them
abbrev pub are_fitting : List ℕ → List ℕ → Bool
are_fitting starts ns = (are_ordered ns && list_all (λ n. has_number starts n) ns) && has_number ns 0

-- clusters never decrease or never increase, each is below `end`, and 0 is among them
abbrev pub are_fitting_units : ℕ → List ℕ → Bool
are_fitting_units end ns = (are_ordered ns && list_all (λ n. nat_lt n end) ns) && has_number ns 0
