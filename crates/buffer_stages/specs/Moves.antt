-- Glyphs that are moved before others, and merged with them.
use Rattle.std.specs.Prelude.{ℕ, ◌≡◌, ◌≤◌, ◌+◌, ◌==◌, Bool, true, List, [], ◌∷◌, ◌++◌, length}
use Rattle.std.specs.List.{list_all, range_with_len}
use Rattle.buffer_glyphs.specs.declared.info.hb_glyph_info_t.{hb_glyph_info_t}
use Rattle.buffer_glyphs.specs.declared.level.BufferClusterLevel.{BufferClusterLevel}
use Rattle.buffer_glyphs.specs.Levels.{InList, manner}
use Rattle.buffer_glyphs.specs.Origins.{Asks, Origin, origins_merged_as}
use Rattle.buffer_glyphs.specs.Events.{Event, Move, origins_after}
pub use Rattle.buffer_core.specs.Moving.{with_range_moved}
use Rattle.buffer_core.specs.Readings.{View, Read, with_events}

-- whether glyphs are of one cluster
abbrev pub are_one_cluster : List hb_glyph_info_t → Bool
are_one_cluster [] = true
are_one_cluster (g ∷ gs) = list_all (λ h. h.cluster == g.cluster) gs

-- the order of the elements after such a move
abbrev pub order_of_move : ℕ → ℕ → List ℕ
order_of_move n k = range_with_len n k ++ range_with_len 0 n

-- the reading of such a move of items, which merges what it permutes
abbrev pub with_move : ℕ → ℕ → ℕ → View → Read
with_move start n k v = with_events (Move InList start (order_of_move n k) ∷ []) (record v { items = with_range_moved start n k v.items })

-- ---- moves to the front of one range

-- elements moved to the front: how many they pass, and how many they are
pub record MoveToFront : Type 0 where
  pub passed : ℕ
  pub taken : ℕ

-- such moves one after another, to one index
abbrev pub all_moved : {X : Type 0} → ℕ → List MoveToFront → List X → List X
all_moved start [] xs = xs
all_moved start (m ∷ ms) xs = all_moved start ms (with_range_moved start m.passed m.taken xs)

-- the events of such moves: each merges what it permutes
abbrev pub move_events : ℕ → List MoveToFront → List Event
move_events start [] = []
move_events start (m ∷ ms) = Move InList start (order_of_move m.passed m.taken) ∷ move_events start ms

-- how many elements the last of the moves permutes, or n where there is none
abbrev pub reach : ℕ → List MoveToFront → ℕ
reach n [] = n
reach n (m ∷ ms) = reach (m.passed + m.taken) ms

-- each move permutes at least n elements, and at least as many as those before it
abbrev pub IsGrowing : ℕ → List MoveToFront → Type 0
IsGrowing n [] = Unit {0}
IsGrowing n (m ∷ ms) = (n ≤ m.passed + m.taken) × IsGrowing (m.passed + m.taken) ms

-- such moves leave, at every level, what one merge of the longest range leaves, in the order to which they move
abbrev pub MovesMergeOnce : Type 0
MovesMergeOnce = (asks : Asks) (level : BufferClusterLevel) (start : ℕ) (ms : List MoveToFront) (os : List Origin) → IsGrowing 1 ms → start + reach 1 ms ≤ length os
    → origins_after asks level (move_events start ms) os ≡ all_moved start ms (origins_merged_as (manner InList level) start (start + reach 1 ms) os)
