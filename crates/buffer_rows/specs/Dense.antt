-- Records with a slot for each number from the first record's to the last one's.
use Rattle.std.specs.Prelude.{◌≡◌, ℕ, ◌<◌, true, List, length, None}
use Rattle.buffer_rows.specs.Keys.{numbers_rise, row_of}
use Rattle.buffer_rows.specs.Pages.{IsBlock}

-- no number below the first one has a record, and none above the last one
pub record AreWithin {R : Type 0} (number : R → ℕ) (rows : List R) (first last : ℕ) : Type 0 where
  pub below : (k : ℕ) → k < first → row_of number k rows ≡ None
  pub above : (k : ℕ) → last < k → row_of number k rows ≡ None

-- the records rise, they are within the first and the last number, and the slots are those of the numbers from the
-- first one on
pub record IsDense {R : Type 0} (number : R → ℕ) (rows : List R) (slots : List ℕ) (first last : ℕ) : Type 0 where
  pub rising : numbers_rise number rows ≡ true
  pub within : AreWithin number rows first last
  pub found : IsBlock number rows slots 0 first (length slots)
