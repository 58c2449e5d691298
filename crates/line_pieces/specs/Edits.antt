-- Where the results of a text before and after an edit have the same glyphs.
use Rattle.std.specs.Prelude.{ℕ, ◌≡◌, ◌≤◌, ◌<◌, ◌+◌, ◌^◌, ◌&&◌, Bool, true}
use Rattle.kuspveli.specs.buffer_common.declared.direction.Direction.{Direction}
use Rattle.kuspveli.specs.shaping_buffer.buffer_core.Sides.{Sides}
use Rattle.line_pieces.specs.declared.edits.Edit.{Edit}
use Rattle.line_pieces.specs.declared.edits.EditRange.{EditRange}
use Rattle.line_pieces.specs.Lines.{IsInLine, is_safe_at}
use Rattle.line_pieces.specs.Steps.{text_steps}

-- how many bytes the text has before an edit
abbrev pub old_length : Edit → ℕ
old_length e = e.old_end + e.rest

-- how many bytes the text has after an edit
abbrev pub new_length : Edit → ℕ
new_length e = e.new_end + e.rest

-- an edit of a text that has fewer than 2^64 bytes: its bytes are in order
pub record IsEdit (e : Edit) : Type 0 where
  pub old_ordered : e.start ≤ e.old_end
  pub new_ordered : e.start ≤ e.new_end
  pub old_fits : old_length e < 2 ^ 64
  pub new_fits : new_length e < 2 ^ 64

-- the results of a text before and after an edit may be compared: their clusters are in order along a direction
pub record MayBeCompared (d : Direction) (old new : Sides) (e : Edit) : Type 0 where
  pub edit : IsEdit e
  pub old_line : IsInLine d old
  pub new_line : IsInLine d new

-- whether breaks at a byte of the old text and at one of the new text are safe
abbrev pub are_safe_at : Direction → Sides → Sides → Edit → ℕ → ℕ → Bool
are_safe_at d old new e a b = is_safe_at (text_steps d old) (old_length e) a && is_safe_at (text_steps d new) (new_length e) b

-- a byte is the last one up to the edit at which breaks are safe in both texts
pub record IsLastBefore (d : Direction) (old new : Sides) (e : Edit) (from : ℕ) : Type 0 where
  pub before : from ≤ e.start
  pub safe : are_safe_at d old new e from from ≡ true
  pub last : (byte : ℕ) → byte ≤ e.start → are_safe_at d old new e byte byte ≡ true → byte ≤ from

-- a number of bytes after the edit is the least one after which breaks are safe in both texts
pub record IsFirstAfter (d : Direction) (old new : Sides) (e : Edit) (count : ℕ) : Type 0 where
  pub within : count ≤ e.rest
  pub safe : are_safe_at d old new e (e.old_end + count) (e.new_end + count) ≡ true
  pub first : (n : ℕ) → n ≤ e.rest → are_safe_at d old new e (e.old_end + n) (e.new_end + n) ≡ true → count ≤ n

-- the bytes of both texts outside of which their results are to have the same glyphs
pub record IsEditRange (d : Direction) (old new : Sides) (e : Edit) (r : EditRange) : Type 0 where
  pub from : IsLastBefore d old new e r.from
  pub count : ℕ
  pub to : IsFirstAfter d old new e count
  pub old_to : r.old_to ≡ e.old_end + count
  pub new_to : r.new_to ≡ e.new_end + count
