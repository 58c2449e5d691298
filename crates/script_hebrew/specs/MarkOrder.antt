-- The arrangement of a run of Hebrew marks by itself.
use Rattle.std.specs.Prelude.{ℕ, ◌+◌, ◌≡◌, List, [], ◌∷◌, Option, None, Some, length}
use Rattle.buffer_glyphs.specs.Items.{Item}
use Rattle.buffer_glyphs.specs.Levels.{InList}
use Rattle.buffer_glyphs.specs.Events.{Move}
use Rattle.buffer_parts.specs.Plainly.{AreSteady}
use Rattle.buffer_glyphs.specs.Rewriting.{Arrangement, eventless_arrangement}
use Rattle.buffer_stages.specs.Moves.{with_range_moved, order_of_move}
use Rattle.script_hebrew.specs.Hebrew.{first_three}

-- the arrangement with the last two of three marks at an index swapped
abbrev pub with_marks_swapped : Option ℕ → List Item → Arrangement
with_marks_swapped None run = eventless_arrangement run
with_marks_swapped (Some n) run = record { items = with_range_moved (n + 1) 1 1 run; events = Move InList (n + 1) (order_of_move 1 1) ∷ [] }

-- the Hebrew order: of the first three neighbours that are patah or qamats, sheva or hiriq, and meteg or another mark
-- below, the last two are swapped
abbrev pub hebrew_order : List Item → Arrangement
hebrew_order run = with_marks_swapped (first_three run) run

-- ---- laws

-- law: the order has as many marks as the run
abbrev pub HebrewOrderKeepsCount : Type 0
HebrewOrderKeepsCount = (run : List Item) → length (hebrew_order run).items ≡ length run

-- law: the order adds and deletes no mark, and moves none without a merge
abbrev pub HebrewOrderIsSteady : Type 0
HebrewOrderIsSteady = (run : List Item) → AreSteady (hebrew_order run).events
