-- Calls that perform a rule on a buffer: one relation over the buffer and the answer.
use Rattle.std.specs.Prelude.{ℕ, ◌≡◌, ◌≢◌, ◌≤◌, ◌<◌, Bool, true, false, List, length, Result, Ok, Err}
use Rattle.buffer_glyphs.specs.declared.cause.ShapeCause.{ShapeCause}
use Rattle.buffer_glyphs.specs.declared.cause.ShapeCause.TheVariants.{OutOfMemory}
use Rattle.buffer_glyphs.specs.Events.{Event}
use Rattle.buffer_core.specs.Sides.{Sides, items_of}
use Rattle.buffer_stages.specs.Actions.{Cut, Outcome, Passes, Acts, Refuses}
use Rattle.buffer_stages.specs.Buffers.{cut_of, are_glyphs, IsStill, HasHappened, IsPassed}

-- the buffer's list cut at the cursor, with the state of the random numbers, which is outside the buffer
abbrev pub cut_with : ℕ → Sides → Cut
cut_with random s = record (cut_of s) { random = random }

-- a rule made a cut of a buffer and left a random state, after events on clusters and flags; fewer glyphs are ahead,
-- and the items already done stay
pub record IsMade (cut : Cut) (events : List Event) (random : ℕ) (old new : Sides) : Type 0 where
  pub cut_is : cut_with random new ≡ cut
  pub happened : HasHappened events old new
  pub still : IsStill old new
  pub fewer : length new.ahead < length old.ahead
  pub kept : length old.behind ≤ length new.behind
  pub numbers : are_glyphs (items_of old) ≡ true → are_glyphs (items_of new) ≡ true

-- a call answers whether a rule acted, and did what the rule does, from one random state to another
abbrev pub IsPerformed : Outcome → Bool → ℕ → ℕ → Sides → Sides → Type 0
IsPerformed (Passes events) acted before after old new = (acted ≡ false) × (after ≡ before) × IsPassed events old new
IsPerformed (Acts cut events) acted before after old new = (acted ≡ true) × IsMade cut events after old new
IsPerformed (Refuses cause) acted before after old new = ⊥

-- a call performs a rule, or refuses: for want of memory, or with the rule's own cause
abbrev pub Performs : Outcome → Result Bool ShapeCause → ℕ → ℕ → Sides → Sides → Type 0
Performs o (Ok acted) before after old new = IsPerformed o acted before after old new
Performs o (Err cause) before after old new = cause ≢ OutOfMemory → o ≡ Refuses cause

-- a rule made a cut of a list without an output, in place: the cursor stays, and so do the positions
pub record IsPutWithoutOutput (cut : Cut) (events : List Event) (old new : Sides) : Type 0 where
  pub cut_is : cut_of new ≡ cut
  pub happened : HasHappened events old new
  pub still : IsStill old new
  pub read : new.read ≡ old.read
  pub positions : new.positions ≡ old.positions
  pub numbers : are_glyphs (items_of old) ≡ true → are_glyphs (items_of new) ≡ true

-- a call performs in place a rule that never refuses, and takes no memory
abbrev pub PerformsWithoutOutput : Outcome → Bool → Sides → Sides → Type 0
PerformsWithoutOutput (Passes events) acted old new = (acted ≡ false) × IsPassed events old new
PerformsWithoutOutput (Acts cut events) acted old new = (acted ≡ true) × IsPutWithoutOutput cut events old new
PerformsWithoutOutput (Refuses cause) acted old new = ⊥
