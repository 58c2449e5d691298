-- The marks of a text, each around the base before it.
use Rattle.std.specs.Prelude.{ℕ, ◌≤◌, ◌+◌, ◌==◌, ◌||◌, Bool, true, false, if◌then◌else◌, List, [], ◌∷◌, ◌++◌, Option, Some, None, unwrap_or}
use Rattle.buffer_common.specs.declared.direction.Direction.{Direction}
use Rattle.buffer_common.specs.declared.direction.Direction.TheVariants.{LeftToRight}
use Rattle.buffer_common.specs.declared.script.Script.{Script}
use Rattle.buffer_common.specs.Direction.{direction_of_script, is_horizontal}
use Rattle.layout_common.specs.Rows.{value_of}
use Rattle.layout_face.specs.declared.parts.FaceParts.{FaceParts}
use Rattle.buffer_glyphs.specs.Items.{Item, Position}
use Rattle.buffer_glyphs.specs.Events.{Break, Event}
use Rattle.buffer_core.specs.Readings.{Read, View, with_events}
use Rattle.buffer_glyphs.specs.LigatureWords.{component_bound}
use Rattle.buffer_properties.specs.Characters.{is_mark}
use Rattle.buffer_properties.specs.Categories.{is_nonspacing_mark}
use Rattle.shape_fallback.specs.Boxes.{Box}
use Rattle.layout_offsets.specs.Zeroing.{zeroed_position}
use Rattle.shape_fallback.specs.declared.around.Placed.{Placed}
use Rattle.shape_fallback.specs.declared.around.Placing.{Placing}
use Rattle.shape_fallback.specs.declared.marks.Before.{Before}
use Rattle.shape_fallback.specs.declared.marks.Before.TheVariants.{Nothing, Boxless, Boxed}
use Rattle.shape_fallback.specs.declared.marks.Step.{Step}
use Rattle.shape_fallback.specs.Bases.{base_of}
use Rattle.shape_fallback.specs.Around.{initial_around, mark_around}

-- ---- flags: a base and its marks are unsafe to break

-- the number of marks that a list begins with
abbrev pub marks : List Item → ℕ
marks [] = 0
marks (x ∷ xs) = if is_mark x then marks xs + 1 else 0

-- the flag of a first item that is a base with marks
abbrev pub first_event : ℕ → List Item → List Event
first_event at [] = []
first_event at (x ∷ xs) = if is_mark x || marks xs == 0 then [] else Break at (at + 1 + marks xs) ∷ []

-- the flags of all bases with marks
abbrev pub base_events : ℕ → List Item → List Event
base_events at [] = []
base_events at (x ∷ xs) = first_event at (x ∷ xs) ++ base_events (at + 1) xs

-- ---- positions

-- what is before the marks of a base
abbrev pub after_base : FaceParts → Direction → Item → Position → Option Box → Before
after_base font d x p None = Boxless
after_base font d x p (Some e) = Boxed (initial_around d p (base_of font x p e))

-- the step of a positioned mark
abbrev pub step_around : Placed → Step
step_around s = record { position = s.position; before = Boxed s.around }

-- the position of a nonspacing mark at a base without extents: its advance is zeroed
abbrev pub without_box : Placing → Item → Position → Position
without_box by x p = if is_nonspacing_mark x then zeroed_position by.adjust_offsets p else p

-- the step at a mark; one without a base is unchanged
abbrev pub step_of_mark : FaceParts → Placing → Item → Position → Before → Step
step_of_mark font by x p Nothing = record { position = p; before = Nothing }
step_of_mark font by x p Boxless = record { position = without_box by x p; before = Boxless }
step_of_mark font by x p (Boxed s) = step_around (mark_around font by x p s)

-- the step at an item; one that is no mark is a base, and unchanged
abbrev pub step : FaceParts → Placing → Item → Position → Before → Step
step font by x p before =
    if is_mark x then step_of_mark font by x p before
    else record { position = p; before = after_base font by.direction x p (value_of x.number font.extents) }

-- the positions of items, with marks positioned around their bases
abbrev pub positioned_marks : FaceParts → Placing → Before → List Item → List Position → List Position
positioned_marks font by before [] ps = []
positioned_marks font by before (x ∷ xs) [] = []
positioned_marks font by before (x ∷ xs) (p ∷ ps) = (step font by x p before).position ∷ positioned_marks font by (step font by x p before).before xs ps

-- ---- the stage

-- the direction of ligature components in a vertical text: the script's, else left to right
abbrev pub script_direction : Option Script → Direction
script_direction None = LeftToRight
script_direction (Some s) = unwrap_or (direction_of_script s) LeftToRight

-- the direction of ligature components, by the text's direction and script
abbrev pub components_direction : Direction → Option Script → Direction
components_direction d script = if is_horizontal d then d else script_direction script

-- a direction is from left to right
abbrev pub is_left_to_right : Direction → Bool
is_left_to_right LeftToRight = true
is_left_to_right _ = false

-- the view with marks positioned around their bases (HarfBuzz: _hb_ot_shape_fallback_mark_position)
abbrev pub with_positioned_marks : FaceParts → Direction → Bool → View → Read
with_positioned_marks font components adjust v = with_events (base_events 0 v.items) (record v {
  positions = positioned_marks font (record { direction = v.direction; left_to_right = is_left_to_right components; adjust_offsets = adjust }) Nothing v.items v.positions;
})

-- a base has at most as many components as a ligature word can count
abbrev pub HasBound : Before → Type 0
HasBound Nothing = Unit {0}
HasBound Boxless = Unit {0}
HasBound (Boxed s) = s.base.components ≤ component_bound
