-- What the code that compares two results keeps.
use Rattle.std.specs.Prelude.{ℕ, ◌≡◌, ◌&&◌, if◌then◌else◌, length}
use Rattle.kuspveli.specs.buffer_common.declared.direction.Direction.{Direction}
use Rattle.kuspveli.specs.shaping_buffer.buffer_core.Sides.{Sides, all_glyphs}
use Rattle.line_pieces.specs.declared.edits.Cuts.{Cuts}
use Rattle.line_pieces.specs.declared.edits.Edit.{Edit}
use Rattle.line_pieces.specs.Cuts.{IsCut}
use Rattle.line_pieces.specs.Edits.{MayBeCompared, new_length, old_length}
use Rattle.line_pieces.specs.Steps.{text_steps}

-- the results of a text before and after an edit that are compared: each of their glyphs has a position
pub record AreCompared (d : Direction) (old new : Sides) (e : Edit) : Type 0 where
  pub may : MayBeCompared d old new e
  pub old_placed : length old.positions ≡ length (all_glyphs old)
  pub new_placed : length new.positions ≡ length (all_glyphs new)

-- both texts up to two bytes, by their glyphs
pub record AreCuts (d : Direction) (old new : Sides) (e : Edit) (c : Cuts) : Type 0 where
  pub before_cut : IsCut (text_steps d old) (old_length e) c.before
  pub after_cut : IsCut (text_steps d new) (new_length e) c.after

-- a byte, if breaks at both of two cuts are safe, else another one
abbrev pub byte_if_safe : Cuts → ℕ → ℕ → ℕ
byte_if_safe c byte other = if c.before.is_safe && c.after.is_safe then byte else other
