-- The state of a buffer before and after a stage of lookups.
use Rattle.std.specs.Prelude.{ℕ, ◌≡◌, ◌≢◌, ◌<◌, true, false, [], length, Result, Ok, Err}
use Rattle.buffer_glyphs.specs.declared.cause.ShapeCause.{ShapeCause}
use Rattle.buffer_glyphs.specs.declared.cause.ShapeCause.TheVariants.{OutOfMemory}
use Rattle.buffer_core.specs.Readings.{BufferState, Stage, Follows, reading_of}
use Rattle.buffer_core.specs.Sides.{Sides, settings_of, all_glyphs, items_of, view_of, state_of}
use Rattle.buffer_stages.specs.Buffers.{are_glyphs}

-- a buffer without an output, with the cursor before all glyphs and a position for each
pub record IsReady (s : Sides) : Type 0 where
  pub closed : s.is_open ≡ false
  pub front : s.behind ≡ []
  pub unread : s.read ≡ 0
  pub placed : length s.positions ≡ length (all_glyphs s)
  pub unrefused : s.has_refused ≡ false

-- a ready buffer that has a first glyph
pub record HasFirst (s : Sides) : Type 0 where
  pub ready : IsReady s
  pub current : 0 < length s.ahead

-- a ready buffer in which each number is a glyph's: the state between two stages on glyphs
pub record HoldsGlyphs (s : Sides) : Type 0 where
  pub ready : IsReady s
  pub numbers : are_glyphs (items_of s) ≡ true

-- the cursor is at a glyph, and each number is a glyph's; an output may be open
pub record HasGlyphAtCursor (s : Sides) : Type 0 where
  pub current : 0 < length s.ahead
  pub numbers : are_glyphs (items_of s) ≡ true

-- an output is open, the input has a current glyph, and each number is a glyph's
pub record HasCurrentGlyph (s : Sides) : Type 0 where
  pub opened : s.is_open ≡ true
  pub current : 0 < length s.ahead
  pub numbers : are_glyphs (items_of s) ≡ true

-- no output is open, the cursor is at a glyph, and each number is a glyph's
pub record HasCurrentGlyphInPlace (s : Sides) : Type 0 where
  pub closed : s.is_open ≡ false
  pub current : 0 < length s.ahead
  pub numbers : are_glyphs (items_of s) ≡ true

-- the state in which a substitution is tried: an output is open, the input has a current glyph, no call was refused for
-- length, and each number is a glyph's
pub record IsAtGlyph (s : Sides) : Type 0 where
  pub opened : s.is_open ≡ true
  pub current : 0 < length s.ahead
  pub unrefused : s.has_refused ≡ false
  pub numbers : are_glyphs (items_of s) ≡ true

-- the state in which a positioning lookup is tried: no output is open, the cursor is at a glyph, no call was refused for
-- length, and each number is a glyph's
pub record IsAtGlyphInPlace (s : Sides) : Type 0 where
  pub closed : s.is_open ≡ false
  pub current : 0 < length s.ahead
  pub unrefused : s.has_refused ≡ false
  pub numbers : are_glyphs (items_of s) ≡ true

-- the state in which the records of a substituting context are applied: an output is open, no call was refused for length,
-- and each number is a glyph's; the cursor may be after all glyphs
pub record IsAmongGlyphs (s : Sides) : Type 0 where
  pub opened : s.is_open ≡ true
  pub unrefused : s.has_refused ≡ false
  pub numbers : are_glyphs (items_of s) ≡ true

-- the state in which the records of a positioning context are applied: no output is open, no call was refused for length,
-- and each number is a glyph's; the cursor may be after all glyphs
pub record IsAmongGlyphsInPlace (s : Sides) : Type 0 where
  pub closed : s.is_open ≡ false
  pub unrefused : s.has_refused ≡ false
  pub numbers : are_glyphs (items_of s) ≡ true

-- no output is open, and each number is a glyph's; the cursor is anywhere
pub record HasGlyphsInPlace (s : Sides) : Type 0 where
  pub closed : s.is_open ≡ false
  pub numbers : are_glyphs (items_of s) ≡ true

-- no output is open, the cursor is at a glyph, and each glyph has a position
pub record IsAtPosition (s : Sides) : Type 0 where
  pub closed : s.is_open ≡ false
  pub current : 0 < length s.ahead
  pub placed : length s.positions ≡ length (all_glyphs s)

-- the state in which a positioning subtable is applied: no output is open, the cursor is at a glyph, each glyph has a
-- position, and each number is a glyph's
pub record IsAtGlyphPosition (s : Sides) : Type 0 where
  pub closed : s.is_open ≡ false
  pub current : 0 < length s.ahead
  pub placed : length s.positions ≡ length (all_glyphs s)
  pub numbers : are_glyphs (items_of s) ≡ true

-- a stage was done on a buffer: view, clusters and flags follow its reading, and the settings stay
pub record IsDone (stage : Stage) (old new : Sides) : Type 0 where
  pub follows : Follows (reading_of stage (state_of old)) (state_of old) (state_of new)
  pub settings : settings_of new ≡ settings_of old
  pub ready : IsReady new
  pub numbers : are_glyphs (items_of old) ≡ true → are_glyphs (items_of new) ≡ true

-- what a call that does a stage on glyphs leaves: where it answers Ok, the stage was done; where it answers Err, the
-- cause is the reading's own or want of memory
abbrev pub DoesGlyphStage : {X : Type 0} → Stage → Result X ShapeCause → Sides → Sides → Type 0
DoesGlyphStage stage (Ok x) old new = IsDone stage old new
DoesGlyphStage stage (Err e) old new = e ≢ OutOfMemory → reading_of stage (state_of old) ≡ Err e

-- the state of a buffer, with the state of the random numbers, which is outside the buffer
abbrev pub state_with : ℕ → Sides → BufferState
state_with random s = record (state_of s) { view = record (view_of s) { random = random } }

-- a stage was done, from one state of the random numbers to another
pub record IsDoneFrom (before after : ℕ) (stage : Stage) (old new : Sides) : Type 0 where
  pub follows : Follows (reading_of stage (state_with before old)) (state_with before old) (state_with after new)
  pub settings : settings_of new ≡ settings_of old
  pub ready : IsReady new
  pub numbers : are_glyphs (items_of old) ≡ true → are_glyphs (items_of new) ≡ true

-- what a call that does a stage on glyphs leaves, from one state of the random numbers to another
abbrev pub DoesGlyphStageFrom : {X : Type 0} → ℕ → ℕ → Stage → Result X ShapeCause → Sides → Sides → Type 0
DoesGlyphStageFrom before after stage (Ok x) old new = IsDoneFrom before after stage old new
DoesGlyphStageFrom before after stage (Err e) old new = e ≢ OutOfMemory
    → reading_of stage (state_with before old) ≡ Err e
