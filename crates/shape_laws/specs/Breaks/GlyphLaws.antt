-- What holds of the glyphs of a text that is broken into two.
use Rattle.std.specs.Prelude.{ℕ, ◌≡◌, ◌⊎◌, Bool, true, false, Option, Ok}
use Rattle.buffer_common.specs.Direction.{is_backward}
use Rattle.buffer_common.specs.declared.constants.BufferFlags.{BufferFlags}
use Rattle.buffer_glyphs.specs.Origins.{numbers}
use Rattle.buffer_glyphs.specs.Order.{IsInOrder}
use Rattle.buffer_core.specs.Readings.{BufferState, Read, always, state_after}
use Rattle.buffer_parts.specs.Breaks.Divisible.{IsBreakable, IsFreelyDivisible, IsSpared, StaysDivided}
use Rattle.buffer_parts.specs.Breaks.Fragments.{AreFragments}
use Rattle.buffer_parts.specs.Breaks.Unsafe.{HaveNoTatweel}
use Rattle.layout_face.specs.declared.parts.FaceParts.{FaceParts}
use Rattle.layout_gsub.specs.GlyphClasses.{with_font_classes}
use Rattle.layout_offsets.specs.Finishing.{links_followed}
use Rattle.layout_offsets.specs.Starting.{links_cleared}
use Rattle.shape_fallback.specs.Classes.{with_fallback_classes}
use Rattle.shape_fallback.specs.Spaces.{with_spaces}
use Rattle.shape_glyphs.specs.Advances.{with_default_positions}
use Rattle.shape_glyphs.specs.Glyphs.{with_glyphs, with_synthesized_classes}
use Rattle.shape_glyphs.specs.Ignorables.{ignorables_hidden}
use Rattle.shape_glyphs.specs.Selectors.{with_selectors}
use Rattle.shape_glyphs.specs.Widths.{zero_widths}
use Rattle.shape_pipeline.specs.Budget.{before_reset}
use Rattle.shape_pipeline.specs.Positioning.{marks_positioned, marks_zeroed, visual_order, with_zero_positions}
use Rattle.shape_pipeline.specs.Shaping.{Shaping}
use Rattle.shape_laws.specs.Breaks.Apart.{AreLinkedApart, EndsPlainly, GlyphsApart, Seam}
use Rattle.shape_laws.specs.Breaks.InLine.{MayBeCutAt, ShowsBoth, final_state}
use Rattle.shape_laws.specs.Breaks.Texts.{AreBrokenShapings, StaysBroken}

-- the pipeline stages from glyphs on: a text that is still broken into two shows at the end what these show, wherever it
-- may be cut there, if the shaper's last stage leaves all three as they are, and the limits were enough for them
abbrev pub GlyphsShowBoth : Type 0
GlyphsShowBoth = (seam : Seam) (p p1 p2 : Shaping) (c : ℕ) (whole earlier later : BufferState) (r e l : Read) (falls : Bool) → AreBrokenShapings p p1 p2 → StaysBroken c whole earlier later → GlyphsApart seam p p1 p2 → EndsPlainly p whole.view → EndsPlainly p1 earlier.view → EndsPlainly p2 later.view
    → before_reset p whole.view ≡ Ok r → before_reset p1 earlier.view ≡ Ok e → before_reset p2 later.view ≡ Ok l
    → IsSpared whole.level whole.view r → IsSpared earlier.level earlier.view e → IsSpared later.level later.view l → (whole.asks.tatweel ≡ true) ⊎ HaveNoTatweel whole.origins
    → MayBeCutAt c (final_state p r whole) → IsInOrder falls (numbers (final_state p r whole).origins) → ShowsBoth falls (final_state p r whole) (final_state p1 e earlier) (final_state p2 l later)

-- stages that change glyphs and positions each by itself: classes of marks for fallback positions, glyphs for characters,
-- GDEF classes, synthesized classes, zero positions, advances, spaces, links, advances of marks, default ignorables, and
-- variation selectors
pub record GlyphStagesDivide : Type 0 where
  pub fallback_classes : (falls : Bool) → IsFreelyDivisible falls falls (always with_fallback_classes) (always with_fallback_classes) (always with_fallback_classes)
  pub glyphs : (falls : Bool) → IsFreelyDivisible falls falls (always with_glyphs) (always with_glyphs) (always with_glyphs)
  pub font_classes : (falls : Bool) (font : FaceParts) → IsFreelyDivisible falls falls (always (with_font_classes font)) (always (with_font_classes font)) (always (with_font_classes font))
  pub synthesized_classes : (falls : Bool) → IsFreelyDivisible falls falls (always with_synthesized_classes) (always with_synthesized_classes) (always with_synthesized_classes)
  pub zero_positions : (falls : Bool) → IsFreelyDivisible falls falls (always with_zero_positions) (always with_zero_positions) (always with_zero_positions)
  pub advances : (falls : Bool) (font : FaceParts) → IsFreelyDivisible falls falls (always (with_default_positions font)) (always (with_default_positions font)) (always (with_default_positions font))
  pub spaces : (falls : Bool) (font : FaceParts) → IsFreelyDivisible falls falls (always (with_spaces font)) (always (with_spaces font)) (always (with_spaces font))
  pub links : (falls : Bool) → IsFreelyDivisible falls falls (always links_cleared) (always links_cleared) (always links_cleared)
  pub zeroing : (falls : Bool) (p : Shaping) → IsFreelyDivisible falls falls (always (marks_zeroed p)) (always (marks_zeroed p)) (always (marks_zeroed p))
  pub widths : (falls : Bool) (flags : BufferFlags) → IsFreelyDivisible falls falls (always (zero_widths flags)) (always (zero_widths flags)) (always (zero_widths flags))
  pub selectors : (falls : Bool) (set : Option ℕ) → IsFreelyDivisible falls falls (always (with_selectors set)) (always (with_selectors set)) (always (with_selectors set))

-- default ignorables are hidden, or deleted, in a text as in its fragments
abbrev pub IgnorablesDivide : Type 0
IgnorablesDivide = (falls : Bool) (flags : BufferFlags) (set : Option ℕ) (font : FaceParts) → IsFreelyDivisible falls falls (always (ignorables_hidden flags set font)) (always (ignorables_hidden flags set font)) (always (ignorables_hidden flags set font))

-- the links of a text are followed as those of its fragments, where these lead inside
abbrev pub LinksDivide : Type 0
LinksDivide = (falls : Bool) (c : ℕ) (whole earlier later : BufferState) → AreFragments falls c whole earlier later → AreLinkedApart whole.view earlier.view later.view
    → AreFragments falls c (state_after (links_followed whole.view) whole) (state_after (links_followed earlier.view) earlier) (state_after (links_followed later.view) later)

-- marks get the fallback positions around their bases in a text that they get in its fragments
abbrev pub FallbackMarksDivide : Type 0
FallbackMarksDivide = (p : Shaping) → IsFreelyDivisible false false (always (marks_positioned p)) (always (marks_positioned p)) (always (marks_positioned p))

-- glyphs are put in visual order in a text as in its fragments: clusters that rose fall after it where the line is backward
abbrev pub VisualOrderDivides : Type 0
VisualOrderDivides = (c : ℕ) (whole earlier later : BufferState) → IsBreakable whole → StaysDivided false c whole earlier later
    → StaysDivided (is_backward whole.view.direction) c (state_after (visual_order whole.view) whole) (state_after (visual_order earlier.view) earlier) (state_after (visual_order later.view) later)
