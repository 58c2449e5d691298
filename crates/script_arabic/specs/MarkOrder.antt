-- The arrangement of a run of Arabic marks by itself (UTR 53).
use Rattle.std.specs.Prelude.{ℕ, ◌==◌, ◌≡◌, if◌then◌else◌, List, [], ◌∷◌, ◌++◌, drop, length, map, take}
use Rattle.buffer_glyphs.specs.declared.level.BufferClusterLevel.{BufferClusterLevel}
use Rattle.buffer_glyphs.specs.Items.{Item}
use Rattle.buffer_glyphs.specs.Levels.{InList}
use Rattle.buffer_glyphs.specs.Events.{Move}
use Rattle.buffer_parts.specs.Plainly.{AreSteady}
use Rattle.buffer_core.specs.Readings.{View}
use Rattle.buffer_glyphs.specs.Origins.{with_range_changed}
use Rattle.buffer_glyphs.specs.Rewriting.{Arrangement, eventless_arrangement, shifted_event, and_arranged}
use Rattle.buffer_stages.specs.Moves.{with_range_moved, order_of_move}
use Rattle.script_arabic.specs.Marks.{item_with_class, count_below, count_leading, marks_reordered}

-- that many modifier marks, after that many others, are moved to the start of the run and have another class; all marks
-- up to their end are merged
abbrev pub leading_marks : ℕ → ℕ → ℕ → List Item → Arrangement
leading_marks class below leading run =
    if leading == 0 then eventless_arrangement run
    else record { items = with_range_changed (item_with_class class) 0 leading (with_range_moved 0 below leading run); events = Move InList 0 (order_of_move below leading) ∷ [] }

-- the modifier marks that lead those of a class are moved to the start of the run
abbrev pub leading_first : ℕ → ℕ → List Item → Arrangement
leading_first class new run = leading_marks new (count_below class run) (count_leading class run) run

-- an arrangement of the items after a number of first ones
abbrev pub rest_arranged : ℕ → (List Item → Arrangement) → List Item → Arrangement
rest_arranged n order run = record { items = take n run ++ (order (drop n run)).items; events = map (shifted_event n) (order (drop n run)).events }

-- the Arabic order: class 220 first, with class CCC22 for its modifiers; then class 230, with class CCC26 (UTR 53)
abbrev pub arabic_order : List Item → Arrangement
arabic_order run = and_arranged (leading_first 220 25 run) (rest_arranged (count_leading 220 run) (leading_first 230 26))

-- ---- laws

-- law: the order has as many marks as the run
abbrev pub ArabicOrderKeepsCount : Type 0
ArabicOrderKeepsCount = (run : List Item) → length (arabic_order run).items ≡ length run

-- law: the order of a run adds and deletes no mark, and moves none without a merge
abbrev pub ArabicOrderIsSteady : Type 0
ArabicOrderIsSteady = (run : List Item) → AreSteady (arabic_order run).events

-- law: the order of marks adds and deletes no glyph, and permutes none without a merge
abbrev pub MarksAreSteady : Type 0
MarksAreSteady = (start end : ℕ) (v : View) (level : BufferClusterLevel) → AreSteady ((marks_reordered start end v).events level)
