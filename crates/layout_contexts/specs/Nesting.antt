-- What calls that apply nested lookups do to a buffer whose output is open.
use Rattle.std.specs.Prelude.{ℕ, ◌≡◌, ◌≢◌, Bool, true, false, List, Result, Ok, Err}
use Rattle.buffer_glyphs.specs.declared.cause.ShapeCause.{ShapeCause}
use Rattle.buffer_glyphs.specs.declared.cause.ShapeCause.TheVariants.{OutOfMemory}
use Rattle.buffer_glyphs.specs.Events.{Event}
use Rattle.buffer_core.specs.Sides.{Sides, items_of}
use Rattle.buffer_stages.specs.Actions.{Cut, Outcome, Passes, Acts, Refuses}
use Rattle.buffer_stages.specs.Buffers.{are_glyphs, IsStill, HasHappened, IsPassed}
use Rattle.buffer_stages.specs.Performing.{cut_with}
use Rattle.layout_contexts.specs.Nested.{RecordsOutcome, Walks, Stops}

-- a buffer became another cut, with a random state outside it, after events on clusters and flags; the cursor may be
-- anywhere
pub record IsLeft (cut : Cut) (events : List Event) (random : ℕ) (old new : Sides) : Type 0 where
  pub cut_is : cut_with random new ≡ cut
  pub happened : HasHappened events old new
  pub still : IsStill old new
  pub numbers : are_glyphs (items_of old) ≡ true → are_glyphs (items_of new) ≡ true

-- a call does what a rule does, from one random state to another, or refuses: for want of memory, or with the rule's own cause
abbrev pub Nests : Outcome → Result Bool ShapeCause → ℕ → ℕ → Sides → Sides → Type 0
Nests (Passes events) (Ok acted) before after old new = (acted ≡ false) × (after ≡ before) × IsPassed events old new
Nests (Acts cut events) (Ok acted) before after old new = (acted ≡ true) × IsLeft cut events after old new
Nests (Refuses cause) (Ok acted) before after old new = ⊥
Nests o (Err cause) before after old new = cause ≢ OutOfMemory → o ≡ Refuses cause

-- a call applied records, and answers where the match then ends
abbrev pub Walking : RecordsOutcome → Result ℕ ShapeCause → List ℕ → ℕ → Sides → Sides → Type 0
Walking (Walks cut indices end events) (Ok at) now after old new = (at ≡ end) × (now ≡ indices) × IsLeft cut events after old new
Walking (Stops cause) (Ok at) now after old new = ⊥
Walking w (Err cause) now after old new = cause ≢ OutOfMemory → w ≡ Stops cause
