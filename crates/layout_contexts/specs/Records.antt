-- One record of a rule, before its lookup is applied.
use Rattle.std.specs.Prelude.{ℕ, pos, ◌-ℤ◌, ◌≡◌, ◌≢◌, ◌<◌, ◌⊎◌, false, List, [], length, Option, Some, None, Result, Ok, Err, slice_get}
use Rattle.buffer_glyphs.specs.declared.cause.ShapeCause.{ShapeCause}
use Rattle.buffer_glyphs.specs.declared.cause.ShapeCause.TheVariants.{OutOfMemory, TooLong}
use Rattle.buffer_core.specs.Settings.{with_max_ops}
use Rattle.buffer_core.specs.Sides.{Sides}
use Rattle.layout_tables.specs.declared.context.SequenceLookupRecord.{SequenceLookupRecord}
use Rattle.buffer_stages.specs.Actions.{Cut, Action, whole}
use Rattle.buffer_stages.specs.Buffers.{cut_of}
use Rattle.buffer_stages.specs.Performing.{cut_with}
use Rattle.layout_contexts.specs.Nested.{Walks, Stops, cut_at, holds, nested_outcome, one_record, with_budget_spent}
use Rattle.layout_contexts.specs.Nesting.{IsLeft}

-- the cursor was moved to an index, and nothing else changed
abbrev pub IsMoved : ℕ → Sides → Sides → Type 0
IsMoved p old new = (random : ℕ) → IsLeft (cut_at p (cut_with random old)) [] random old new

-- a refusal for want of memory, or since the side that grows would be too long
abbrev pub IsMoveRefusal : ℕ → Cut → ShapeCause → Type 0
IsMoveRefusal p c cause = (cause ≡ OutOfMemory) ⊎ ((cause ≡ TooLong) × (holds p c ≡ false))

-- a buffer with one step of its budget fewer
abbrev pub after_spending : Sides → Sides
after_spending s = with_max_ops (s.max_ops -ℤ pos 1) s

-- a step was taken, and nothing else changed
abbrev pub IsSpent : Sides → Sides → Type 0
IsSpent old new = (random : ℕ) → IsLeft (with_budget_spent (cut_with random old)) [] random old new

-- a record's index exists, a step was taken, and the cursor is at the index: the record's lookup is then to be applied
pub record IsRecordBegun (r : SequenceLookupRecord) (indices : List ℕ) (p : ℕ) (old new : Sides) : Type 0 where
  pub index : slice_get indices r.sequence_index ≡ Some p
  pub behind : length new.behind ≡ p
  pub count : length (whole (cut_of new)) ≡ length (whole (cut_of old))
  pub ahead : 0 < length new.ahead
  pub left : (random : ℕ) → IsLeft (cut_at p (with_budget_spent (cut_with random old))) [] random old new
  pub does : (random : ℕ) (act : ℕ → Action) (end : ℕ) → one_record act r (cut_with random old) indices end ≡ nested_outcome r.sequence_index p (cut_with random new) indices end (act r.lookup_index (cut_with random new))

-- a record is begun; or it does nothing, whatever the lookups do; or the cursor cannot be moved to its index
abbrev pub RecordBegins : SequenceLookupRecord → List ℕ → Result (Option ℕ) ShapeCause → Sides → Sides → Type 0
RecordBegins r indices (Ok None) old new = (new ≡ old) × ((random : ℕ) (act : ℕ → Action) (end : ℕ) → one_record act r (cut_with random old) indices end ≡ Walks (cut_with random old) indices end [])
RecordBegins r indices (Ok (Some p)) old new = IsRecordBegun r indices p old new
RecordBegins r indices (Err cause) old new = cause ≢ OutOfMemory → (random : ℕ) (act : ℕ → Action) (end : ℕ) → one_record act r (cut_with random old) indices end ≡ Stops cause
