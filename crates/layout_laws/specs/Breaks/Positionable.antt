-- Stages of positioning that do to a text what they do to its two fragments.
use Rattle.std.specs.Prelude.{ℕ, ◌≡◌, ◌⊎◌, Bool, reverse, Ok}
use Rattle.buffer_glyphs.specs.Parts.{first_of}
use Rattle.buffer_core.specs.Readings.{Read, Stage, BufferState, state_after}
use Rattle.buffer_parts.specs.Breaks.Unsafe.{IsUnsafeAt}
use Rattle.buffer_parts.specs.Breaks.Fragments.{standing_first, standing_last, AreFragments}
use Rattle.buffer_parts.specs.Breaks.Divisible.{IsSpared, IsBreakable, OnlySpends, StaysBreakable, KeepsUnsafe}
use Rattle.layout_laws.specs.Breaks.Positioned.{LeadInside, AreFlagged, AreApart}

-- where the scratch flags of a state say that no glyph was attached, no position has a link
abbrev pub IsFlagged : BufferState → Type 0
IsFlagged s = AreFlagged s.view.scratch_flags s.view.positions

-- a whole and its two fragments can be positioned: links lead inside each fragment, the item that stands first after the break is no
-- later component of the one before it, and where no glyph was attached, there are no links
pub record ArePositionable (falls : Bool) (whole earlier later : BufferState) : Type 0 where
  pub early_links : LeadInside earlier.view.positions
  pub late_links : LeadInside later.view.positions
  pub apart : AreApart (first_of (reverse (standing_first falls earlier.view.items later.view.items))) (first_of (standing_last falls earlier.view.items later.view.items))
  pub flagged : IsFlagged whole
  pub early_flagged : IsFlagged earlier
  pub late_flagged : IsFlagged later

-- after a stage it is unsafe to break the whole at c, or two states are still its fragments there, and can be positioned further
abbrev pub StaysPositionable : Bool → ℕ → BufferState → BufferState → BufferState → Type 0
StaysPositionable falls c whole earlier later = IsUnsafeAt c whole.origins ⊎ (AreFragments falls c whole earlier later × ArePositionable falls whole earlier later)

-- what a stage does to a breakable text, it does to its fragments that can be positioned apart, where none is refused and each is
-- spared
abbrev pub DividesPositions : Bool → Stage → Type 0
DividesPositions falls stage = (c : ℕ) (whole earlier later : BufferState) (r e l : Read) → IsBreakable whole → AreFragments falls c whole earlier later → ArePositionable falls whole earlier later
    → stage whole.view ≡ Ok r → stage earlier.view ≡ Ok e → stage later.view ≡ Ok l → IsSpared whole.level whole.view r → IsSpared earlier.level earlier.view e → IsSpared later.level later.view l
    → StaysPositionable falls c (state_after r whole) (state_after e earlier) (state_after l later)

-- a stage of positioning divides texts, leaves them breakable, keeps what is unsafe to break unsafe, and gives no budget back
pub record IsDivisiblePositioning (falls : Bool) (stage : Stage) : Type 0 where
  pub divides : DividesPositions falls stage
  pub breakable : StaysBreakable stage
  pub unsafe : KeepsUnsafe stage
  pub spends : OnlySpends stage
