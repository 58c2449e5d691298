-- The index of records by their numbers, by pages of 128 numbers.
use Rattle.std.specs.Prelude.{◌≡◌, ◌≢◌, ℕ, ◌+◌, ◌-◌, ◌*◌, ◌==◌, ◌<◌, ◌≤◌, true, if◌then◌else◌, List, length, slice_get, Option, Some, None, option_map, get_or}
use Rattle.buffer_rows.specs.Keys.{numbers_rise, row_of}

-- the index of the first record whose number is at least `first`
pub record IsStart {R : Type 0} (number : R → ℕ) (rows : List R) (first start : ℕ) : Type 0 where
  pub within : start ≤ length rows
  pub below : (i : ℕ) (d : R) → i < start → number (get_or rows i d) < first
  pub rest : (i : ℕ) (d : R) → start ≤ i → i < length rows → first ≤ number (get_or rows i d)

-- the record of a slot: 0 means none, any other number is one more than an index
abbrev pub record_in : {R : Type 0} → List R → ℕ → Option R
record_in rows slot = if slot == 0 then None else slice_get rows (slot - 1)

-- the slots from an index on are those of the numbers from a first one on
abbrev pub IsBlock : {R : Type 0} → (R → ℕ) → List R → List ℕ → ℕ → ℕ → ℕ → Type 0
IsBlock number rows slots at first count =
    (low : ℕ) → low < count → option_map (record_in rows) (slice_get slots (at + low)) ≡ Some (row_of number (first + low) rows)

-- a page has no records, or a block of 128 slots; blocks count from 1
pub record IsPage {R : Type 0} (number : R → ℕ) (rows : List R) (slots : List ℕ) (first block : ℕ) : Type 0 where
  pub none : block ≡ 0 → (k : ℕ) → first ≤ k → k < first + 128 → row_of number k rows ≡ None
  pub some : block ≢ 0 → IsBlock number rows slots ((block - 1) * 128) first 128

-- all pages are so
abbrev pub ArePages : {R : Type 0} → (R → ℕ) → List R → List ℕ → List ℕ → Type 0
ArePages number rows pages slots = (page block : ℕ) → slice_get pages page ≡ Some block → IsPage number rows slots (page * 128) block

-- pages and slots are an index of the records
pub record IsPaged {R : Type 0} (number : R → ℕ) (rows : List R) (pages slots : List ℕ) : Type 0 where
  pub rising : numbers_rise number rows ≡ true
  pub found : ArePages number rows pages slots

-- a list has all elements of another at their indices
abbrev pub Extends : List ℕ → List ℕ → Type 0
Extends old new = (i x : ℕ) → slice_get old i ≡ Some x → slice_get new i ≡ Some x
