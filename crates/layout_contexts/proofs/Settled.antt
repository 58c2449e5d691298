-- Places and their ends that are settled.
use Rattle.std.proofs.Common.{ℕ, ◌≡◌, ◌<◌, ◌+◌, ◌^◌, List, length, Some, slice_get, arith}
use Rattle.std.specs.List.{All}
use Rattle.std.proofs.lemmas.Option.{slice_get_within}
use Rattle.layout_contexts.specs.MatchIndices.{AreRising}
use Rattle.layout_contexts.proofs.Lemmas.Rising.{rising_below}

pub in_places : (ps : List ℕ) (i p : ℕ) → slice_get ps i ≡ Some p → i < length ps
in_places ps i p e = slice_get_within ps i p e

pub room_to_settle : (before after : ℕ) (ps : List ℕ) → AreRising 0 (before + 1) ps → before < 2 ^ 60 → after < 2 ^ 60 → All (λ q. q + after + 1 < 2 ^ 64) ps
room_to_settle before after ps r lt less = λ k d within. let one = rising_below 0 (before + 1) ps r k d within in omega (arith, one, lt, less)
