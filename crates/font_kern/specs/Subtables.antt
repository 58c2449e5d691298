-- The subtables of the table kern (OpenType, chapter kern, version 0; Apple's version 1.0).
use Rattle.std.specs.Prelude.{ℕ, zero, suc, ◌+◌, ◌==◌, ◌&&◌, ◌||◌, Bool, true, false, if◌then◌else◌, List, [], ◌∷◌, Result, Ok, Err, bit_and}
use Rattle.font_bytes.specs.declared.fault.TableFault.{TableFault}
use Rattle.font_bytes.specs.Results.{and_then}
use Rattle.font_bytes.specs.Room.{room_after}
use Rattle.font_bytes.specs.Words.{need, byte, word, long}
use Rattle.font_common.specs.Offsets.{after}
use Rattle.font_kern.specs.declared.subtables.Directory.{Directory}
use Rattle.font_kern.specs.declared.subtables.Subtable.{Subtable}

-- ---- the table's header

-- version 1.0 of Apple: a uint32, then nTables, a uint32
abbrev pub apple_directory : List ℕ → Result Directory TableFault
apple_directory table = and_then (need table 0 8) (λ _. Ok (record { is_apple = true; at = 8; count = long table 4 }))

-- version 0 of OpenType: a uint16, then nTables, a uint16; of any other version no subtable is known
abbrev pub opentype_directory : List ℕ → Directory
opentype_directory table = record { is_apple = false; at = 4; count = if word table 0 == 0 then word table 2 else 0 }

-- the table's form, where its subtables begin, and how many there are
abbrev pub directory_at : List ℕ → Result Directory TableFault
directory_at table = and_then (need table 0 4) (λ _. if word table 0 == 1 then apple_directory table else Ok (opentype_directory table))

-- ---- a subtable's header

-- Apple: length (uint32), coverage (uint8), format (uint8), tupleIndex (uint16). OpenType: version (uint16), length (uint16), format
-- (uint8), coverage (uint8)
abbrev pub header_size : Bool → ℕ
header_size is_apple = if is_apple then 8 else 6

-- how far the next subtable is from this one; fonts have lengths that are too small, so a subtable may have bytes past its own
abbrev pub length_at : Bool → List ℕ → ℕ → ℕ
length_at is_apple table at = if is_apple then long table at else word table (at + 2)

-- a subtable's format
abbrev pub format_at : Bool → List ℕ → ℕ → ℕ
format_at is_apple table at = if is_apple then byte table (at + 5) else byte table (at + 4)

-- the bits of a subtable's coverage
abbrev pub coverage_bits_at : Bool → List ℕ → ℕ → ℕ
coverage_bits_at is_apple table at = if is_apple then byte table (at + 4) else byte table (at + 5)

-- whether a subtable kerns a horizontal line. Apple: neither vertical (0x80), nor cross-stream (0x40), nor a variation (0x20).
-- OpenType: horizontal (1), neither minimum (2) nor cross-stream (4)
abbrev pub kerns_line : Bool → ℕ → Bool
kerns_line is_apple bits = if is_apple then bit_and bits 0xE0 == 0 else bit_and bits 7 == 1

-- a subtable of format 0 (pairs of glyphs) or 2 (classes) that kerns a horizontal line; others are left out
abbrev pub subtable_taken : Bool → List ℕ → ℕ → List Subtable
subtable_taken is_apple table at =
    if (format_at is_apple table at == 0 || format_at is_apple table at == 2) && kerns_line is_apple (coverage_bits_at is_apple table at)
    then record { body = at + header_size is_apple; header = header_size is_apple; by_classes = format_at is_apple table at == 2 } ∷ []
    else []

-- the subtables that are taken of n from an offset on; each takes 64 rows of room
unfoldable pub subtables_from : Bool → List ℕ → ℕ → ℕ → ℕ → Result (List Subtable × ℕ) TableFault
subtables_from is_apple table room at zero = Ok ([], room)
subtables_from is_apple table room at (suc count) = and_then (room_after room 64) (λ left. and_then (need table at (header_size is_apple))
    (λ _. after (subtable_taken is_apple table at) (subtables_from is_apple table left (at + length_at is_apple table at) count)))

-- the subtables that are taken, in the table's order, with the room that is left
abbrev pub subtables_at : ℕ → List ℕ → Result (List Subtable × ℕ) TableFault
subtables_at room table = and_then (directory_at table) (λ d. subtables_from d.is_apple table room d.at d.count)
