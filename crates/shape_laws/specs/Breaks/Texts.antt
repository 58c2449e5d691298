-- A text before it is shaped, and the two texts that it is broken into.
use Rattle.std.specs.Prelude.{ℕ, ◌≡◌, ◌≤◌, ◌<◌, Bool, false, IsTrue, List, Option, Ok, ◌++◌, length}
use Rattle.std.specs.Int.RustNames.{bit_and}
use Rattle.buffer_common.specs.declared.direction.Direction.{Direction}
use Rattle.buffer_common.specs.declared.script.Script.{Script}
use Rattle.buffer_glyphs.specs.Order.{has_number}
use Rattle.buffer_glyphs.specs.Origins.{numbers}
use Rattle.buffer_unicode_tables.specs.Tables.{Tables}
use Rattle.buffer_parts.specs.Groups.{AreSingle}
use Rattle.buffer_core.specs.Readings.{BufferState, Read, View}
use Rattle.buffer_core.specs.Sides.{zero_positions}
use Rattle.buffer_stages.specs.Settings.{TextSettings}
use Rattle.buffer_parts.specs.Breaks.Fragments.{AreGiven, IsWhole, IsFragmentOf}
use Rattle.buffer_parts.specs.Breaks.Divisible.{IsBreakable, StaysDivided}
use Rattle.layout_face.specs.declared.parts.FaceParts.{FaceParts}
use Rattle.shape_text.specs.Circle.{first_circle}
use Rattle.shape_text.specs.Clusters.{grapheme_lengths, has_non_ascii}
use Rattle.shape_text.specs.Properties.{with_properties}
use Rattle.shape_pipeline.specs.Shaping.{Shaping}
use Rattle.buffer_common.specs.declared.constants.BufferFlags.{BufferFlags}
use Rattle.shape_text.specs.NativeOrder.{runs_against, script_direction, with_numbers}

-- no glyph has a position yet
abbrev pub IsUnplaced : BufferState → Type 0
IsUnplaced s = s.view.positions ≡ zero_positions (length s.view.items)

-- two texts are those that a text is broken into at the start of cluster c: the characters of the clusters below c, and
-- those of c and above it. There are both, with the clusters that they have in the whole, and none has a ligature number
-- or a position. Flags of glyphs, budgets, limits and scratch flags are free
pub record AreBroken (c : ℕ) (whole earlier later : BufferState) : Type 0 where
  pub items : whole.view.items ≡ earlier.view.items ++ later.view.items
  pub clusters : numbers whole.origins ≡ numbers earlier.origins ++ numbers later.origins
  pub below : (n : ℕ) → IsTrue (has_number (numbers earlier.origins) n) → n < c
  pub above : (n : ℕ) → IsTrue (has_number (numbers later.origins) n) → c ≤ n
  pub early_some : 0 < length earlier.origins
  pub late_some : 0 < length later.origins
  pub early_unnumbered : AreGiven 0 earlier.view.items
  pub late_unnumbered : AreGiven 0 later.view.items
  pub unplaced : IsUnplaced whole
  pub early_unplaced : IsUnplaced earlier
  pub late_unplaced : IsUnplaced later
  pub early_whole : IsWhole earlier
  pub late_whole : IsWhole later
  pub early_of : IsFragmentOf whole earlier
  pub late_of : IsFragmentOf whole later

-- a line in a direction is not against its script, whether its text is of numbers alone or not
abbrev pub IsNativeLine : Option Script → Direction → Type 0
IsNativeLine script d = (number : Bool) → runs_against d (with_numbers number d (script_direction script)) ≡ false

-- the settings of the earlier text and of the later one are those of the whole, but for the contexts between them, and
-- BEGINNING_OF_TEXT (1) and END_OF_TEXT (2), which the ends between them lack
pub record AreBrokenSettings (whole early late : TextSettings) : Type 0 where
  pub early_is : early ≡ record whole { post_context = early.post_context; flags = early.flags }
  pub late_is : late ≡ record whole { pre_context = late.pre_context; flags = late.flags }
  pub early_requests : bit_and early.flags.0 0x3C ≡ bit_and whole.flags.0 0x3C
  pub late_requests : bit_and late.flags.0 0x3C ≡ bit_and whole.flags.0 0x3C
  pub begins : bit_and early.flags.0 1 ≡ bit_and whole.flags.0 1
  pub begins_inside : bit_and late.flags.0 1 ≡ 0
  pub ends : bit_and late.flags.0 2 ≡ bit_and whole.flags.0 2
  pub ends_inside : bit_and early.flags.0 2 ≡ 0

-- two fragments are shaped as the whole is, but for their settings
pub record AreBrokenShapings (whole early late : Shaping) : Type 0 where
  pub early_is : early ≡ record whole { settings = early.settings }
  pub late_is : late ≡ record whole { settings = late.settings }
  pub settings : AreBrokenSettings whole.settings early.settings late.settings

-- where no scratch flag says that a text has characters above U+007F, each of its graphemes is one character
abbrev pub IsKnown : View → Type 0
IsKnown v = has_non_ascii v.scratch_flags ≡ false → AreSingle (grapheme_lengths v.items)

-- of each text with its properties and its first circle it is known so which graphemes have more than one character
abbrev pub KnowsGraphemes : Tables → Type 0
KnowsGraphemes t = (font : FaceParts) (flags : BufferFlags) (context : List ℕ) (v : View) (r : Read) → first_circle t font flags context (with_properties t v).view ≡ Ok r → IsKnown r.view

-- no ligature number was given in a text, nor in its fragments
pub record AreUnnumbered (whole earlier later : View) : Type 0 where
  pub whole_none : whole.lig_id ≡ 0
  pub early_none : earlier.lig_id ≡ 0
  pub late_none : later.lig_id ≡ 0

-- a text stays broken into two at the start of cluster c before its glyphs are substituted: it is unsafe to break there, or
-- they are its fragments; it is breakable, and no ligature has a number
pub record StaysBroken (c : ℕ) (whole earlier later : BufferState) : Type 0 where
  pub breakable : IsBreakable whole
  pub given : AreGiven 0 whole.view.items
  pub numbers : AreUnnumbered whole.view earlier.view later.view
  pub divided : StaysDivided false c whole earlier later
