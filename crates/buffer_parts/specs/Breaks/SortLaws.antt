-- What holds of the orders of sorts, and of walks over a list.
use Rattle.std.specs.Prelude.{ℕ, ◌≤◌, ◌+◌, Bool, List, length}
use Rattle.buffer_glyphs.specs.Items.{Item}
use Rattle.buffer_lists.specs.Events.{order_of, deletions, groups_reversed}
use Rattle.buffer_properties.specs.Ordering.{sorted_order}
use Rattle.buffer_parts.specs.Breaks.Lossless.{IsPermuting, AreLossless}

-- the order of a sort by keys permutes
abbrev pub SortsPermute : Type 0
SortsPermute = (from : ℕ) (keys : List ℕ) (n : ℕ) → from + length keys ≤ n → IsPermuting from (order_of keys) n

-- the order of combining marks by their classes permutes
abbrev pub MarkOrdersPermute : Type 0
MarkOrdersPermute = (from : ℕ) (classes : List ℕ) (n : ℕ) → from + length classes ≤ n → IsPermuting from (sorted_order classes) n

-- the events of deletions and of a reversal of groups are lossless
abbrev pub WalksAreLossless : Type 0
WalksAreLossless = (goes : Item → Bool) (merge : Bool) (joins : Item → Item → Bool) (xs : List Item) → AreLossless (deletions goes xs) (length xs) × AreLossless (groups_reversed merge joins xs) (length xs)
