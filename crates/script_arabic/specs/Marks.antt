-- The order of Arabic marks (UTR 53, Unicode Arabic mark rendering).
use Rattle.std.specs.Prelude.{ℕ, ◌+◌, ◌==◌, ◌&&◌, Bool, nat_lt, if◌then◌else◌, List, [], ◌∷◌, drop, slice_range}
use Rattle.std.specs.List.{list_any, prefix_len}
use Rattle.buffer_properties.specs.Characters.{mark_class}
use Rattle.buffer_glyphs.specs.Items.{Item}
use Rattle.buffer_glyphs.specs.Origins.{with_range_changed}
use Rattle.buffer_core.specs.Readings.{View, Read, then_read, with_events}
use Rattle.buffer_stages.specs.Moves.{with_move}

-- the modifier combining marks (UTR 53; HarfBuzz: MODIFIER_COMBINING_MARKS)
abbrev pub modifier_marks : List ℕ
modifier_marks =
    0x0654 ∷ 0x0655 ∷ 0x0658 ∷ 0x06DC ∷ 0x06E3 ∷ 0x06E7 ∷ 0x06E8 ∷ 0x08CA ∷ 0x08CB ∷ 0x08CD ∷ 0x08CE ∷ 0x08CF ∷ 0x08D3 ∷ 0x08F3 ∷ []

-- an item has the class and is a modifier combining mark
abbrev pub is_modifier_of : ℕ → Item → Bool
is_modifier_of class x = mark_class x == class && list_any (λ u. u == x.number) modifier_marks

-- the number of marks of a run before those of a class
abbrev pub count_below : ℕ → List Item → ℕ
count_below class run = prefix_len (λ x. nat_lt (mark_class x) class) run

-- the number of modifier marks that lead those of a class
abbrev pub count_leading : ℕ → List Item → ℕ
count_leading class run = prefix_len (is_modifier_of class) (drop (count_below class run) run)

-- an item with a combining class
abbrev pub item_with_class : ℕ → Item → Item
item_with_class class x = record x { class = class }

-- a reading whose items in a range have a combining class
abbrev pub with_range_classed : ℕ → ℕ → ℕ → Read → Read
with_range_classed class from to r = record r { view = record r.view { items = with_range_changed (item_with_class class) from to r.view.items } }

-- the view where that many modifier marks, after that many others, are moved to the start of the run and have another
-- class; the marks from the run's start to their end are merged
abbrev pub with_leading_marks : ℕ → ℕ → ℕ → ℕ → View → Read
with_leading_marks class start below leading v = if leading == 0 then with_events [] v else with_range_classed class start (start + leading) (with_move start below leading v)

-- the items of a run
abbrev pub run_of_items : ℕ → ℕ → View → List Item
run_of_items start end v = slice_range v.items start end

-- the view where the modifier marks that lead those of a class are at the start of the run
abbrev pub with_leading : ℕ → ℕ → ℕ → ℕ → View → Read
with_leading class new start end v = with_leading_marks new start (count_below class (run_of_items start end v)) (count_leading class (run_of_items start end v)) v

-- the view of a run of marks reordered: class 220 first, with class CCC22 for its modifiers; then class 230, with class
-- CCC26 (HarfBuzz: reorder_marks_arabic)
abbrev pub marks_reordered : ℕ → ℕ → View → Read
marks_reordered start end v =
    let below : Read = with_leading 220 25 start end v in
    then_read below (with_leading 230 26 (start + count_leading 220 (run_of_items start end v)) end below.view)
