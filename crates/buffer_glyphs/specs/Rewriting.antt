-- Items that arrange others, and the events on the way to them.
use Rattle.std.specs.Prelude.{ℕ, ◌+◌, ◌==◌, ◌&&◌, if◌then◌else◌, List, [], ◌∷◌, ◌++◌, length, map}
use Rattle.buffer_glyphs.specs.Items.{Item}
use Rattle.buffer_glyphs.specs.Events.{Event, Merge, MergeGrapheme, Replace, Circle, Delete, Move, Arrange, Sort, Reverse, Break, Concat, Tatweel, StrictBreak, Spread, Reset}

-- a list of items, and the events on the way to it from the items before
pub record Arrangement : Type 0 where
  pub items : List Item
  pub events : List Event

-- the items of an arrangement
abbrev pub items : Arrangement → List Item
items a = a.items

-- items that stay as they are, with no event
abbrev pub eventless_arrangement : List Item → Arrangement
eventless_arrangement xs = record { items = xs; events = [] }

-- the first n items replaced by others
abbrev pub replacement : ℕ → List Item → Arrangement
replacement taken given = record { items = given; events = if taken == 1 && length given == 1 then [] else Replace 0 taken (length given) ∷ [] }

-- an event with n added to its indices
abbrev pub shifted_event : ℕ → Event → Event
shifted_event n (Merge how from to) = Merge how (n + from) (n + to)
shifted_event n (MergeGrapheme from to) = MergeGrapheme (n + from) (n + to)
shifted_event n (Replace at taken given) = Replace (n + at) taken given
shifted_event n (Circle after beside like) = Circle after (n + beside) (n + like)
shifted_event n (Delete at) = Delete (n + at)
shifted_event n (Move how from order) = Move how (n + from) order
shifted_event n (Arrange from order) = Arrange (n + from) order
shifted_event n (Sort from order) = Sort (n + from) order
shifted_event n Reverse = Reverse
shifted_event n (Break from to) = Break (n + from) (n + to)
shifted_event n (Concat from to) = Concat (n + from) (n + to)
shifted_event n (Tatweel from to) = Tatweel (n + from) (n + to)
shifted_event n (StrictBreak from to) = StrictBreak (n + from) (n + to)
shifted_event n Spread = Spread
shifted_event n Reset = Reset

-- one range, and another after it
abbrev pub beside : Arrangement → Arrangement → Arrangement
beside a b = record { items = a.items ++ b.items; events = a.events ++ map (shifted_event (length a.items)) b.events }

-- ranges one after another
abbrev pub in_turn : List Arrangement → Arrangement
in_turn [] = eventless_arrangement []
in_turn (a ∷ rest) = beside a (in_turn rest)

-- one arrangement, and then another of what it leaves
abbrev pub and_arranged : Arrangement → (List Item → Arrangement) → Arrangement
and_arranged a next = record { items = (next a.items).items; events = a.events ++ (next a.items).events }
