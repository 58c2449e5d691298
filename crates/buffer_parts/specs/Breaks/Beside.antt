-- What is read of a text, where it is what is read of its two fragments, one beside the other.
use Rattle.std.specs.Prelude.{ℕ, ◌≡◌, ◌<◌, ◌⊎◌, Bool, true, false, List, ◌++◌, length, map, Ok}
use Rattle.buffer_glyphs.specs.declared.level.BufferClusterLevel.{BufferClusterLevel}
use Rattle.buffer_glyphs.specs.Events.{Event}
use Rattle.buffer_glyphs.specs.Rewriting.{shifted_event}
use Rattle.buffer_parts.specs.Counts.{count_after}
use Rattle.buffer_core.specs.Readings.{Read, Stage, BufferState, state_after}
use Rattle.buffer_parts.specs.Breaks.Unsafe.{IsUnsafeAt}
use Rattle.buffer_parts.specs.Breaks.Concat.{without_concats}
use Rattle.buffer_parts.specs.Breaks.Sides.{AreBounded}
use Rattle.buffer_parts.specs.Breaks.Fragments.{AreNamed, with_ligature_renamed, as_they_stand, AreFragments}
use Rattle.buffer_parts.specs.Breaks.Divisible.{IsBreakable, IsSpared}

-- the events of a fragment of m glyphs, and then those of the one after it, with the indices of both; where a reading
-- runs backward, those of the second come first
abbrev pub events_in_line : Bool → List Event → List Event → ℕ → List Event
events_in_line false es fs m = es ++ map (shifted_event (count_after es m)) fs
events_in_line true es fs m = map (shifted_event m) fs ++ es

-- the events of the earlier fragment, of m glyphs, and of the later one, of n glyphs, as the line is read
abbrev pub events_as_they_stand : (backward falls : Bool) → List Event → List Event → ℕ → ℕ → List Event
events_as_they_stand backward false es fs m n = events_in_line backward es fs m
events_as_they_stand backward true es fs m n = events_in_line backward fs es n

-- the events of a fragment of n glyphs have indices of these, but for those that set UNSAFE_TO_CONCAT, and leave some item,
-- and a position and an origin for each
pub record IsReadAlone (level : BufferClusterLevel) (n : ℕ) (r : Read) : Type 0 where
  pub bounded : AreBounded (without_concats (r.events level)) n
  pub positions : length r.view.positions ≡ length r.view.items
  pub counted : count_after (r.events level) n ≡ length r.view.items
  pub some : 0 < length r.view.items

-- what is read of a text is what is read of its fragments, of m glyphs and of n: the items, but for ligature numbers, the
-- positions, the events, but for those that set UNSAFE_TO_CONCAT, and the direction
pub record IsReadBeside (backward falls : Bool) (level : BufferClusterLevel) (m n : ℕ) (r e l : Read) : Type 0 where
  pub early_name : ℕ → ℕ
  pub late_name : ℕ → ℕ
  pub names : AreNamed early_name late_name r.view e.view l.view
  pub items : r.view.items ≡ as_they_stand falls (map (with_ligature_renamed early_name) e.view.items) (map (with_ligature_renamed late_name) l.view.items)
  pub positions : r.view.positions ≡ as_they_stand falls e.view.positions l.view.positions
  pub events : without_concats (r.events level) ≡ events_as_they_stand backward falls (without_concats (e.events level)) (without_concats (l.events level)) m n
  pub early_direction : e.view.direction ≡ r.view.direction
  pub late_direction : l.view.direction ≡ r.view.direction
  pub early : IsReadAlone level m e
  pub late : IsReadAlone level n l

-- a stage reads a breakable text as two others read its fragments, one beside the other, or makes it unsafe to break
-- there, where none is refused and each is spared
abbrev pub ReadsBeside : (backward falls : Bool) → Stage → Stage → Stage → Type 0
ReadsBeside backward falls stage early late = (c : ℕ) (whole earlier later : BufferState) (r e l : Read) → IsBreakable whole → AreFragments falls c whole earlier later
    → stage whole.view ≡ Ok r → early earlier.view ≡ Ok e → late later.view ≡ Ok l → IsSpared whole.level whole.view r → IsSpared earlier.level earlier.view e → IsSpared later.level later.view l
    → IsUnsafeAt c (state_after r whole).origins ⊎ IsReadBeside backward falls whole.level (length earlier.origins) (length later.origins) r e l

-- a stage reads so whatever it spends
abbrev pub ReadsBesideFreely : (backward falls : Bool) → Stage → Stage → Stage → Type 0
ReadsBesideFreely backward falls stage early late = (c : ℕ) (whole earlier later : BufferState) (r e l : Read) → IsBreakable whole → AreFragments falls c whole earlier later
    → stage whole.view ≡ Ok r → early earlier.view ≡ Ok e → late later.view ≡ Ok l
    → IsUnsafeAt c (state_after r whole).origins ⊎ IsReadBeside backward falls whole.level (length earlier.origins) (length later.origins) r e l
