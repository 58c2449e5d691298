-- What a text hands on to the glyphs that it is shaped to.
use Rattle.std.specs.Prelude.{◌≡◌, ◌≢◌, ◌↔◌, false, length, Err}
use Rattle.buffer_glyphs.specs.declared.cause.ShapeCause.{ShapeCause}
use Rattle.buffer_glyphs.specs.declared.cause.ShapeCause.TheVariants.{OutOfMemory}
use Rattle.buffer_core.specs.Readings.{Follows}
use Rattle.buffer_common.specs.declared.direction.Direction.{Direction}
use Rattle.buffer_core.specs.Settings.{after_leave}
use Rattle.buffer_core.specs.Sides.{Sides, all_glyphs, items_of, state_of, settings_of}
use Rattle.buffer_wrappers.specs.Wrappers.{AreGlyphs}
use Rattle.shape_pipeline.specs.Shaped.{text_reading}
use Rattle.shape_pipeline.specs.Shaping.{Shaping}

-- a buffer as shaping leaves it: it has the direction of its line, and the limits are as at first
pub record IsLeft (line : Direction) (s : Sides) : Type 0 where
  pub direction : s.direction ≡ line
  pub limits : s ≡ after_leave s

-- the result of a text: it has the text's level, script, language, contexts, glyphs set for what is not to be seen, and requests; each of its glyphs has a number that a glyph can have, and a position; no refusal for length is recorded, and the limits are as at first
pub record IsResultOf (text result : Sides) : Type 0 where
  pub settings : settings_of result ≡ settings_of text
  pub glyphs : AreGlyphs result
  pub placed : length result.positions ≡ length (all_glyphs result)
  pub unrefused : result.has_refused ≡ false
  pub limits : result ≡ after_leave result

-- ---- what a text is shaped to

-- a result has the glyphs and positions of the text's reading, with the clusters and flags that its events leave
abbrev pub IsShapedBy : Shaping → Sides → Sides → Type 0
IsShapedBy p text result = Follows (text_reading p (state_of text)) (state_of text) (state_of result)

-- the text's reading is refused
abbrev pub IsRefusedBy : Shaping → Sides → ShapeCause → Type 0
IsRefusedBy p text cause = text_reading p (state_of text) ≡ Err cause

-- a text isn't shaped for a cause: it is want of memory, or the reading is refused for it
abbrev pub IsRefusedFor : Shaping → Sides → ShapeCause → Type 0
IsRefusedFor p text cause = cause ≢ OutOfMemory → IsRefusedBy p text cause

-- two results show the same: glyphs with their clusters and flags, and positions, on lines of one direction
pub record AreSame (a b : Sides) : Type 0 where
  pub glyphs : all_glyphs a ≡ all_glyphs b
  pub positions : a.positions ≡ b.positions
  pub direction : a.direction ≡ b.direction

-- two results show the same but for clusters and glyph flags
pub record AreSameItems (a b : Sides) : Type 0 where
  pub items : items_of a ≡ items_of b
  pub positions : a.positions ≡ b.positions
  pub direction : a.direction ≡ b.direction

-- a text is shaped to the same by two ways, or is refused by both for one cause
pub record AgreeOn (text : Sides) (p q : Shaping) : Type 0 where
  pub results : (a b : Sides) → IsShapedBy p text a → IsShapedBy q text b → AreSame a b
  pub causes : (cause : ShapeCause) → IsRefusedBy p text cause ↔ IsRefusedBy q text cause
