-- What a lookup over a buffer leaves, or one step of it.
use Rattle.std.specs.Prelude.{ℕ, suc, ◌≡◌, true, length}
use Rattle.buffer_core.specs.Readings.{View, BufferState, Follows}
use Rattle.buffer_core.specs.Sides.{Sides, all_glyphs, items_of, state_of, zero_positions}
use Rattle.buffer_stages.specs.Actions.{Action}
use Rattle.buffer_stages.specs.Buffers.{are_glyphs, IsStill}
use Rattle.buffer_stages.specs.Performing.{cut_with}
use Rattle.layout_substitution.specs.Lookups.{backward_trials}

-- a rule was tried in place at an index; the reading from here of the indices before it is that from before
pub record IsStepBack (act : Action) (at : ℕ) (old new : Sides) : Type 0 where
  pub still : IsStill old new
  pub count : length (all_glyphs new) ≡ length (all_glyphs old)
  pub numbers : are_glyphs (items_of old) ≡ true → are_glyphs (items_of new) ≡ true
  pub follows : (r : ℕ) (v : View) (final : BufferState) → Follows (backward_trials act v at (cut_with r new)) (state_of new) final → Follows (backward_trials act v (suc at) (cut_with r old)) (state_of old) final

-- all positions are zero
abbrev pub HasZeroPositions : Sides → Type 0
HasZeroPositions s = s.positions ≡ zero_positions (length s.positions)
