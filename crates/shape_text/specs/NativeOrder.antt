-- The direction of a text's script.
use Rattle.std.specs.Prelude.{◌&&◌, ◌||◌, Bool, true, false, not, if◌then◌else◌, List, [], unwrap_or, Option, Some, None}
use Rattle.std.specs.List.{list_any}
use Rattle.buffer_common.specs.Direction.{direction_of_script, opposite}
use Rattle.buffer_common.specs.declared.direction.Direction.{Direction}
use Rattle.buffer_common.specs.declared.direction.Direction.TheVariants.{Invalid, LeftToRight, RightToLeft, BottomToTop}
use Rattle.buffer_common.specs.declared.script.Script.{Script}
use Rattle.buffer_properties.specs.Properties.{CONTINUATION, without_bits}
use Rattle.buffer_glyphs.specs.Items.{Item}
use Rattle.buffer_core.specs.Readings.{View, Read, then_read, with_events}
use Rattle.buffer_lists.specs.Turning.{groups_reversed_list}
use Rattle.buffer_lists.specs.Facts.{positions_turned}
use Rattle.buffer_lists.specs.Events.{groups_reversed}
use Rattle.buffer_core.specs.Graphemes.{continues}
use Rattle.buffer_properties.specs.Categories.{is_letter, is_decimal_number}
use Rattle.buffer_stages.specs.LayoutStages.{merges_graphemes}
use Rattle.buffer_stages.specs.Stages.{with_items_mapped}
use Rattle.shape_text.specs.Graphemes.{is_regional_indicator}

-- a decimal number or a regional indicator: they run from left to right in every script
abbrev pub is_numeral : Item → Bool
is_numeral x = is_regional_indicator x.number || is_decimal_number x

-- a text has numerals and no letter
abbrev pub is_number_text : List Item → Bool
is_number_text xs = list_any is_numeral xs && not (list_any is_letter xs)

-- the horizontal direction of a script, invalid where it has none (HarfBuzz: hb_script_get_horizontal_direction)
abbrev pub script_direction : Option Script → Direction
script_direction None = Invalid
script_direction (Some s) = unwrap_or (direction_of_script s) Invalid

-- the script's direction, but left to right for numbers alone in a left-to-right text
abbrev pub with_numbers : Bool → Direction → Direction → Direction
with_numbers true LeftToRight RightToLeft = LeftToRight
with_numbers _ text d = d

-- a text's direction is against its script's; a vertical text is when it runs from bottom to top
abbrev pub runs_against : Direction → Direction → Bool
runs_against LeftToRight RightToLeft = true
runs_against RightToLeft LeftToRight = true
runs_against BottomToTop _ = true
runs_against _ _ = false

-- a text is reversed: its direction is against its script's, or that of numbers alone
abbrev pub is_reversed : Option Script → Direction → List Item → Bool
is_reversed script text xs = runs_against text (with_numbers (is_number_text xs) text (script_direction script))

-- two neighbours are in one grapheme: the second continues it
abbrev pub continues_grapheme : Item → Item → Bool
continues_grapheme x y = continues y

-- the view with its graphemes reversed, each in its own order, and the direction reversed
abbrev pub reversed_text : View → Read
reversed_text v = record {
  view = record v { items = groups_reversed_list continues_grapheme v.items; positions = positions_turned continues_grapheme v.items v.positions; direction = opposite v.direction };
  events = λ level. groups_reversed (merges_graphemes level) continues_grapheme v.items;
}

-- an item without the continuation bit, which no later stage reads
abbrev pub without_continuation : Item → Item
without_continuation x = record x { unicode_props = without_bits CONTINUATION x.unicode_props }

-- the view of a text that is reversed if its direction is against its script's
abbrev pub in_native_order : Option Script → View → Read
in_native_order script v = if is_reversed script v.direction v.items then reversed_text v else with_events [] v

-- the view of a text in its script's direction (HarfBuzz: hb_ensure_native_direction)
abbrev pub native_order : Option Script → View → Read
native_order script v = then_read (in_native_order script v) (with_items_mapped without_continuation (in_native_order script v).view)
