-- What one step of a lookup over a buffer leaves, or a run of glyphs that it isn't tried at.
use Rattle.std.specs.Prelude.{ℕ, suc, ◌≡◌, ◌<◌, ◌≤◌, ◌+◌, ◌-◌, true, false, nat_le, length, take, slice_get, Err, Some}
use Rattle.buffer_glyphs.specs.declared.cause.ShapeCause.{ShapeCause}
use Rattle.buffer_glyphs.specs.declared.info.hb_glyph_info_t.{hb_glyph_info_t}
use Rattle.buffer_glyphs.specs.Items.{item_of, strip}
use Rattle.buffer_core.specs.Readings.{View, BufferState, Follows}
use Rattle.buffer_core.specs.Sides.{Sides, after_next_glyphs, items_of, state_of}
use Rattle.buffer_stages.specs.Actions.{Action}
use Rattle.buffer_stages.specs.Buffers.{are_glyphs, IsStill}
use Rattle.buffer_stages.specs.Performing.{cut_with}
use Rattle.layout_match.specs.Skipping.{PassesAll}
use Rattle.layout_match.specs.Applied.{ApplyContext}
use Rattle.layout_match.specs.Trying.{meets, trials}

-- a rule was tried at the cursor, which then moved on where it could, from one random state to another; the reading
-- from here, or its refusal, is that from before
pub record IsStep (act : Action) (before after : ℕ) (old new : Sides) : Type 0 where
  pub still : IsStill old new
  pub less : length new.ahead ≤ length old.ahead - 1
  pub numbers : are_glyphs (items_of old) ≡ true → are_glyphs (items_of new) ≡ true
  pub follows : (v : View) (n : ℕ) (final : BufferState) → Follows (trials act v n (cut_with after new)) (state_of new) final → Follows (trials act v (suc n) (cut_with before old)) (state_of old) final
  pub refuses : (v : View) (n : ℕ) (cause : ShapeCause) → trials act v n (cut_with after new) ≡ Err cause → trials act v (suc n) (cut_with before old) ≡ Err cause

-- a rule refused at the cursor, or the items done have no room for one more
abbrev pub IsGivenUp : Action → ℕ → Sides → ShapeCause → Type 0
IsGivenUp act before old cause = (v : View) (n : ℕ) → trials act v (suc n) (cut_with before old) ≡ Err cause

-- the cursor moved over glyphs at each of which a rule passes and flags nothing; the items done have room for them
pub record IsIdleRun (act : Action) (old new : Sides) : Type 0 where
  pub count : ℕ
  pub within : count ≤ length old.ahead
  pub passes : PassesAll act (take count (strip old.ahead))
  pub room : 0 < count → nat_le (length old.behind + count) old.max_len ≡ true
  pub moved : new ≡ after_next_glyphs count old

-- a rule passes and flags nothing at each of some glyphs ahead, for which the items done have no room
pub record IsIdleRunTooLong (act : Action) (old : Sides) : Type 0 where
  pub count : ℕ
  pub some : 0 < count
  pub within : count ≤ length old.ahead
  pub passes : PassesAll act (take count (strip old.ahead))
  pub full : nat_le (length old.behind + count) old.max_len ≡ false

-- a lookup applies to the glyph ahead at an index, if there is one
abbrev pub MeetsGlyph : ApplyContext → ℕ → Sides → Type 0
MeetsGlyph a k s = (g : hb_glyph_info_t) → slice_get s.ahead k ≡ Some g → meets a (item_of g) ≡ true
