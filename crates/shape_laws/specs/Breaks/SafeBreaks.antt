-- What the two texts show that a shaped text may be cut into (PRODUCE_SAFE_BREAKS).
use Rattle.std.specs.Prelude.{ℕ, ◌≡◌, ◌≤◌, Bool, true, Ok, IfOk}
use Rattle.buffer_glyphs.specs.Origins.{numbers}
use Rattle.buffer_glyphs.specs.Order.{IsInOrder}
use Rattle.buffer_parts.specs.Counting.{is_left}
use Rattle.buffer_core.specs.Readings.{BufferState, Follows, Read, state_after}
use Rattle.buffer_parts.specs.Breaks.Concat.{without_concats}
use Rattle.buffer_parts.specs.Breaks.Divisible.{merges}
use Rattle.shape_text.specs.Ranges.{with_ranges}
use Rattle.shape_pipeline.specs.Budget.{budget_left, reading_before_reset}
use Rattle.shape_pipeline.specs.Reading.{before_ranges, reading}
use Rattle.shape_pipeline.specs.Shaping.{Shaping}
use Rattle.shape_laws.specs.Breaks.Apart.{EndsPlainly, GlyphsApart, Seam}
use Rattle.shape_laws.specs.Breaks.InLine.{MayBeCutAt, ShowsBoth}
use Rattle.shape_laws.specs.Breaks.Texts.{AreBrokenShapings, StaysBroken}

-- the limits are enough for a text: shaping it leaves some of the budget of nested lookups, and merges no more ranges than
-- there are ligature numbers
pub record HasEnough (p : Shaping) (text : BufferState) : Type 0 where
  pub budget : IfOk (budget_left p text) (λ n. is_left n ≡ true)
  pub numbers : IfOk (reading_before_reset p text) (λ r. merges (without_concats (r.events text.level)) ≤ 7)

-- a text stays broken into two up to the masks of ranges
abbrev pub TextsStayBroken : (p p1 p2 : Shaping) → ℕ → (whole earlier later : BufferState) → Type 0
TextsStayBroken p p1 p2 c whole earlier later = (r e l : Read) → before_ranges p whole.view ≡ Ok r → before_ranges p1 earlier.view ≡ Ok e → before_ranges p2 later.view ≡ Ok l
    → StaysBroken c (state_after r whole) (state_after e earlier) (state_after l later)

-- the shaper's last stage leaves a text as it is
abbrev pub TextEndsPlainly : Shaping → BufferState → Type 0
TextEndsPlainly p text = (r : Read) → before_ranges p text.view ≡ Ok r → EndsPlainly p (with_ranges p.map p.features (numbers (state_after r text).origins) r.view).view

-- a text that stays broken into two up to the masks of ranges, and whose glyphs are substituted and positioned apart,
-- shows what the two show, wherever it may be cut
abbrev pub TextsShowBoth : Type 0
TextsShowBoth = (seam : Seam) (p p1 p2 : Shaping) (c : ℕ) (whole earlier later result first second : BufferState) (falls : Bool) → AreBrokenShapings p p1 p2 → TextsStayBroken p p1 p2 c whole earlier later → GlyphsApart seam p p1 p2
    → TextEndsPlainly p whole → TextEndsPlainly p1 earlier → TextEndsPlainly p2 later
    → HasEnough p whole → HasEnough p1 earlier → HasEnough p2 later → Follows (reading p whole) whole result → Follows (reading p1 earlier) earlier first → Follows (reading p2 later) later second
    → MayBeCutAt c result → IsInOrder falls (numbers result.origins) → ShowsBoth falls result first second
