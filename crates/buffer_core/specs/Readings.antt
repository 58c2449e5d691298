-- The reading of a text: its glyphs, and the events that say where they come from, or the cause of a refusal.
use Rattle.std.specs.Prelude.{ℕ, ℤ, ◌≡◌, List, [], ◌++◌, Result, Ok, Err}
use Rattle.buffer_glyphs.specs.declared.cause.ShapeCause.{ShapeCause}
use Rattle.buffer_glyphs.specs.declared.level.BufferClusterLevel.{BufferClusterLevel}
use Rattle.buffer_common.specs.declared.direction.Direction.{Direction}
pub use Rattle.buffer_glyphs.specs.Levels.{IsMonotone}
use Rattle.buffer_glyphs.specs.Items.{Item, Position}
use Rattle.buffer_glyphs.specs.Origins.{Origin, Asks}
use Rattle.buffer_glyphs.specs.Events.{Event, origins_after}

-- what the stages of shaping see and change; it has no cluster, no level and no glyph flag
pub record View : Type 0 where
  pub items : List Item
  pub positions : List Position
  -- the last ligature number given out
  pub lig_id : ℕ
  -- how many nested lookups may still be applied
  pub max_ops : ℤ
  -- the state of the random numbers for alternates (`random_state`)
  pub random : ℕ
  -- how many items each side of the list may hold
  pub max_len : ℕ
  pub direction : Direction
  -- the scratch flags, without HAS_GLYPH_FLAGS
  pub scratch_flags : ℕ

-- the view after a pipeline stage, and the events on the way to it at each level
pub record Read : Type 0 where
  pub view : View
  pub events : BufferClusterLevel → List Event

-- the outcome of pipeline stages: what was read, or the first cause of a refusal
abbrev pub Reading : Type 0
Reading = Result Read ShapeCause

-- a pipeline stage: a reading for each view
abbrev pub Stage : Type 0
Stage = View → Reading

-- what the second stage read, with the events of both
abbrev pub then_read : Read → Read → Read
then_read r s = record { view = s.view; events = λ level. r.events level ++ s.events level }

-- a reading with the events of another before its own
abbrev pub then_reading : Read → Reading → Reading
then_reading r (Ok s) = Ok (then_read r s)
then_reading r (Err e) = Err e

-- a reading followed by a stage
abbrev pub and_then : Reading → Stage → Reading
and_then (Ok r) next = then_reading r (next r.view)
and_then (Err e) next = Err e

-- a view with the same events at every level
abbrev pub with_events : List Event → View → Read
with_events es v = record { view = v; events = λ level. es }

-- the stage that changes nothing
abbrev pub as_it_is : Stage
as_it_is v = Ok (with_events [] v)

-- a stage that never refuses
abbrev pub always : (View → Read) → Stage
always f v = Ok (f v)

-- the state of a buffer as pipeline stages know it: view, origins, settings
pub record BufferState : Type 0 where
  pub view : View
  pub origins : List Origin
  pub level : BufferClusterLevel
  pub asks : Asks

-- the state after what was read
abbrev pub state_after : Read → BufferState → BufferState
state_after r run = record { view = r.view; origins = origins_after run.asks run.level (r.events run.level) run.origins; level = run.level; asks = run.asks }

-- the new state is `state_after` of the reading and the old one; where the reading refuses, there is no new state
abbrev pub Follows : Reading → BufferState → BufferState → Type 0
Follows (Ok r) old new = new ≡ state_after r old
Follows (Err e) old new = ⊥

-- a stage, at the view of a state
abbrev pub reading_of : Stage → BufferState → Reading
reading_of stage run = stage run.view
