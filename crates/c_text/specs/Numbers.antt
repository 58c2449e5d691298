-- C's numbers of settings and of faults.
use Rattle.std.specs.Prelude.{ℕ, ◌==◌, if◌then◌else◌, Option, Some, None, Result, Ok, Err, bit_and}
use Rattle.buffer_common.specs.declared.constants.BufferFlags.{BufferFlags}
use Rattle.buffer_common.specs.declared.direction.Direction.{Direction}
use Rattle.buffer_common.specs.declared.direction.Direction.TheVariants.{Invalid, LeftToRight, RightToLeft, TopToBottom, BottomToTop}
use Rattle.buffer_common.specs.declared.script.Script.{Script}
use Rattle.buffer_common.specs.Script.{script_of_tag}
use Rattle.buffer_glyphs.specs.declared.level.BufferClusterLevel.{BufferClusterLevel}
use Rattle.buffer_glyphs.specs.declared.level.BufferClusterLevel.TheVariants as level
use Rattle.buffer_glyphs.specs.declared.cause.ShapeCause.TheVariants as cause
use Rattle.c_characters.specs.declared.characters.Encoding.{Encoding}
use Rattle.c_characters.specs.declared.characters.Encoding.TheVariants.{Utf16, Utf32, Characters}
use Rattle.font_bytes.specs.declared.font_fault.FontFault.{FontFault}
use Rattle.font_file.specs.declared.parts.FontParts.{FontParts}
use Rattle.font_bytes.specs.declared.fault.TableFault.{TableFault}
use Rattle.font_bytes.specs.declared.fault.TableFault.TheVariants as table
use Rattle.shell_json.specs.declared.fault.JsonFault.TheVariants as json
use Rattle.shell_readers.specs.declared.fault.RunFault.{RunFault}
use Rattle.shell_readers.specs.declared.fault.RunFault.TheVariants as run

-- the direction of a number (`hb_direction_t`): 4 to 7; another number sets none
abbrev pub direction_numbered : ℕ → Direction
direction_numbered n =
    if n == 4 then LeftToRight else if n == 5 then RightToLeft else if n == 6 then TopToBottom else if n == 7 then BottomToTop else Invalid

-- the script of a number (`hb_script_t`), which is an ISO 15924 tag in any case; 0 sets none
abbrev pub script_numbered : ℕ → Option Script
script_numbered n = script_of_tag (record { 0 = n })

-- the number of a direction (`hb_direction_t`), 0 where there is none
abbrev pub direction_number : Direction → ℕ
direction_number Invalid = 0
direction_number LeftToRight = 4
direction_number RightToLeft = 5
direction_number TopToBottom = 6
direction_number BottomToTop = 7

-- the number of a script (`hb_script_t`), 0 where there is none
abbrev pub script_number : Option Script → ℕ
script_number None = 0
script_number (Some s) = s.0.0

-- the cluster level of a number (`hb_buffer_cluster_level_t`); a number above 3 is the default's
abbrev pub level_numbered : ℕ → BufferClusterLevel
level_numbered n = if n == 1 then level.MonotoneCharacters else if n == 2 then level.Characters else if n == 3 then level.Graphemes else level.MonotoneGraphemes

-- the encoding that the bits 16 to 18 of a text's flags name, the least of those that are set; none of them: UTF-8
abbrev pub encoding_numbered : ℕ → Option Encoding
encoding_numbered flags =
    if bit_and flags 0x1_0000 == 0
    then (if bit_and flags 0x2_0000 == 0 then (if bit_and flags 0x4_0000 == 0 then None else Some Characters) else Some Utf32)
    else Some Utf16

-- the requests among a text's flags (`hb_buffer_flags_t`): all bits but those that name an encoding
abbrev pub requests_numbered : ℕ → BufferFlags
requests_numbered flags = record { 0 = bit_and flags 0xFFF8_FFFF }

-- the number of a font file's cause: 20 to 25, 1 for lack of memory
abbrev pub font_fault_number : TableFault → ℕ
font_fault_number table.OutOfMemory = 1
font_fault_number (table.Short at) = 20
font_fault_number (table.Kind at) = 21
font_fault_number (table.Order at) = 22
font_fault_number table.Index = 23
font_fault_number table.Missing = 24
font_fault_number table.TooLarge = 25

-- the number of a fault: 1 for lack of memory, in whichever step, and one for each other cause; 15 for those of the program's
-- words, files and lines, which no call has
abbrev pub fault_number : RunFault → ℕ
fault_number run.OutOfMemory = 1
fault_number (run.Json json.OutOfMemory) = 1
fault_number (run.Shape cause.OutOfMemory) = 1
fault_number (run.Json json.NotJson) = 2
fault_number (run.Json json.WrongShape) = 3
fault_number (run.Json json.FloatNumber) = 4
fault_number (run.Json json.UnknownName) = 5
fault_number (run.Json json.OutOfOrder) = 6
fault_number (run.Json json.OutOfRange) = 7
fault_number (run.Json json.SplitDepth) = 8
fault_number run.Unlawful = 9
fault_number run.NotUtf8 = 10
fault_number (run.Shape cause.TooLong) = 12
fault_number (run.Shape cause.StretchRange) = 13
fault_number (run.Shape cause.UnknownSyllableKind) = 14
fault_number (run.Font fault) = font_fault_number fault.cause
fault_number run.Words = 15
fault_number run.Read = 15
fault_number run.ReadLimit = 15
fault_number (run.Line _ _) = 15
fault_number run.Write = 15

-- the parts of a font that are read without those of numbers: 1 for boxes, 2 for names
abbrev pub parts_without : ℕ → FontParts
parts_without number = record { extents = bit_and number 1 == 0; names = bit_and number 2 == 0 }

-- how many fonts a file has, 0 where it is no font file
abbrev pub count_of : Result ℕ FontFault → ℕ
count_of (Ok count) = count
count_of (Err e) = 0
