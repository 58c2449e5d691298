-- The copies of tiles.
use Rattle.std.specs.Prelude.{ℕ, zero, suc, ◌+◌, nat_le, if◌then◌else◌, List, [], ◌∷◌, ◌++◌, Option, None, Some, Ok, Err, length, replicate}
use Rattle.buffer_glyphs.specs.declared.cause.ShapeCause.TheVariants.{TooLong}
use Rattle.buffer_glyphs.specs.Events.{Event, Replace}
use Rattle.buffer_core.specs.Readings.{Stage, with_events}
use Rattle.buffer_core.specs.Sides.{zero_positions}
use Rattle.script_arabic.specs.declared.tile.Tile.{Tile}

-- the number of copies of an item, 0 where it is no tile
abbrev pub copies_in : Option Tile → ℕ
copies_in None = 0
copies_in (Some t) = t.copies

-- a list with the copies of each element beside it, as many as its tile has
abbrev pub with_tile_copies : {X : Type 0} → List X → List (Option Tile) → List X
with_tile_copies [] ts = []
with_tile_copies (x ∷ xs) [] = []
with_tile_copies (x ∷ xs) (t ∷ ts) = replicate (copies_in t + 1) x ++ with_tile_copies xs ts

-- the insertion of that many copies before the glyph at an index, each with its cluster and flags
abbrev pub copy_events : ℕ → ℕ → List Event
copy_events at zero = []
copy_events at (suc n) = Replace at 0 1 ∷ copy_events (at + 1) n

-- the insertions of all copies, from an index on
abbrev pub events_from : ℕ → List (Option Tile) → List Event
events_from at [] = []
events_from at (t ∷ ts) = copy_events at (copies_in t) ++ events_from (at + (copies_in t + 1)) ts

-- the stage that inserts the tiles' copies, where the list is within the limit; it sets no positions
abbrev pub tiles_copied : List (Option Tile) → Stage
tiles_copied ts v =
    if nat_le (length (with_tile_copies v.items ts)) v.max_len
    then Ok (with_events (events_from 0 ts) (record v { items = with_tile_copies v.items ts; positions = zero_positions (length (with_tile_copies v.items ts)) }))
    else Err TooLong
