-- What a rule does to a buffer.
use Rattle.std.specs.Prelude.{ℕ, ◌≡◌, ◌≤◌, ◌<◌, ◌+◌, Bool, true, false, nat_le, List, length}
use Rattle.std.specs.List.{list_all}
use Rattle.buffer_common.specs.declared.direction.Direction.{Direction}
use Rattle.buffer_glyphs.specs.Items.{Item, strip}
use Rattle.buffer_glyphs.specs.Events.{Event}
use Rattle.buffer_core.specs.Sides.{Sides, Settings, settings_of, items_of, origins_of, origins_by, stage_flags}
use Rattle.buffer_stages.specs.Actions.{Cut, Outcome, Passes, Acts, Refuses}

-- the buffer's items cut at the cursor, with the positions where no output is open; each lookup draws random numbers
-- from the state 1
abbrev pub cut_of : Sides → Cut
cut_of s = record { front = strip s.behind; rest = strip s.ahead; positions = s.positions; lig_id = s.lig_id; max_ops = s.max_ops; random = 1; max_len = s.max_len; scratch_flags = stage_flags s.scratch_flags }

-- each item has a glyph number below 2^16
abbrev pub are_glyphs : List Item → Bool
are_glyphs xs = list_all (λ (x : Item). nat_le x.number 65535) xs

-- the fields of a buffer that no rule changes
pub record Frame : Type 0 where
  pub settings : Settings
  pub is_open : Bool
  pub has_refused : Bool
  pub max_len : ℕ
  pub direction : Direction

-- the frame of a buffer
abbrev pub frame_of : Sides → Frame
frame_of s = record { settings = settings_of s; is_open = s.is_open; has_refused = s.has_refused; max_len = s.max_len; direction = s.direction }

-- the fields that no rule changes are as before
abbrev pub IsStill : Sides → Sides → Type 0
IsStill old new = frame_of new ≡ frame_of old

-- the clusters and flags follow some events
abbrev pub HasHappened : List Event → Sides → Sides → Type 0
HasHappened events old new = origins_of new ≡ origins_by events old

-- glyphs were read, and no more than were read were output
pub record IsRead (old new : Sides) : Type 0 where
  pub forth : old.read < new.read
  pub total : new.read + length new.ahead ≡ old.read + length old.ahead
  pub front : length new.behind + old.read ≤ length old.behind + new.read
  pub kept : length old.behind ≤ length new.behind

-- a rule made a cut of a buffer, after events on clusters and flags
pub record IsActed (cut : Cut) (events : List Event) (old new : Sides) : Type 0 where
  pub cut_is : cut_of new ≡ cut
  pub happened : HasHappened events old new
  pub still : IsStill old new
  pub counts : IsRead old new
  pub numbers : are_glyphs (items_of old) ≡ true → are_glyphs (items_of new) ≡ true

-- a rule passed, after events on clusters and flags
pub record IsPassed (events : List Event) (old new : Sides) : Type 0 where
  pub cut_is : cut_of new ≡ cut_of old
  pub happened : HasHappened events old new
  pub still : IsStill old new
  pub read : new.read ≡ old.read

-- a call does what a rule does, and answers whether it acted
abbrev pub Does : Outcome → Bool → Sides → Sides → Type 0
Does (Passes events) acted old new = (acted ≡ false) × IsPassed events old new
Does (Acts cut events) acted old new = (acted ≡ true) × IsActed cut events old new
Does (Refuses cause) acted old new = ⊥
