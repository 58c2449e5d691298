-- Script and direction of a text where none was set.
use Rattle.std.specs.Prelude.{ℕ, Bool, not, ◌&&◌, if◌then◌else◌, List, [], ◌∷◌, Option, Some, None, unwrap_or}
use lib.Utf8.{scalar}
use Rattle.buffer_glyphs.specs.declared.info.hb_glyph_info_t.{hb_glyph_info_t}
use Rattle.buffer_common.specs.Direction.{direction_of_script, is_among}
use Rattle.buffer_common.specs.declared.direction.Direction.{Direction}
use Rattle.buffer_common.specs.declared.direction.Direction.TheVariants.{Invalid, LeftToRight, RightToLeft, TopToBottom, BottomToTop}
use Rattle.buffer_common.specs.declared.script.Script.{Script}
use Rattle.buffer_common.specs.declared.script.TheConstants.{COMMON, INHERITED, UNKNOWN}
use Rattle.buffer_unicode.specs.Scripts.{script_of}
use Rattle.buffer_glyphs.specs.Parts.{or}
use Rattle.buffer_core.specs.Sides.{Sides, all_glyphs}

-- whether a script belongs to no one writing system: Common, Inherited or Unknown (UAX 24)
abbrev pub is_shared : Script → Bool
is_shared s = is_among (COMMON ∷ INHERITED ∷ UNKNOWN ∷ []) s

-- whether a number is a character with a script of its own
abbrev pub has_own_script : ℕ → Bool
has_own_script n = scalar n && not (is_shared (script_of n))

-- the script of the first character that has one of its own
abbrev pub first_script : List hb_glyph_info_t → Option Script
first_script [] = None
first_script (g ∷ gs) = if has_own_script g.glyph_id then Some (script_of g.glyph_id) else first_script gs

-- the script that was set, else that of the characters
abbrev pub guessed_script : Sides → Option Script
guessed_script s = or s.script (first_script (all_glyphs s))

-- the direction of a script, left to right where it has none or there is no script
abbrev pub direction_of : Option Script → Direction
direction_of None = LeftToRight
direction_of (Some s) = unwrap_or (direction_of_script s) LeftToRight

-- the direction that was set, else that of the script
abbrev pub guessed_direction : Direction → Option Script → Direction
guessed_direction Invalid s = direction_of s
guessed_direction LeftToRight s = LeftToRight
guessed_direction RightToLeft s = RightToLeft
guessed_direction TopToBottom s = TopToBottom
guessed_direction BottomToTop s = BottomToTop

-- a buffer with a direction and a script
abbrev pub with_segment : Direction → Option Script → Sides → Sides
with_segment d script s = record s { direction = d; script = script }

-- script and direction guessed where none was set (`guess_segment_properties`)
abbrev pub after_guess_segment_properties : Sides → Sides
after_guess_segment_properties s = with_segment (guessed_direction s.direction (guessed_script s)) (guessed_script s) s
