-- The fonts of a file and the tables of a font (OpenType, chapter 4, table directory).
use Rattle.std.specs.Prelude.{ℕ, ◌+◌, ◌*◌, ◌==◌, ◌||◌, nat_lt, Bool, if◌then◌else◌, List, slice_range, find, Option, Some, None, Result, Ok, Err}
use Rattle.font_bytes.specs.declared.directory.TableRecord.{TableRecord}
use Rattle.font_bytes.specs.declared.fault.TableFault.{TableFault}
use Rattle.font_bytes.specs.declared.fault.TableFault.TheVariants.{Kind, Index}
use Rattle.font_bytes.specs.Results.{and_then}
use Rattle.font_bytes.specs.Words.{need, word, long}
use Rattle.font_bytes.specs.Records.{records}

-- `ttcf`, the tag of a collection
abbrev pub is_collection : List ℕ → Bool
is_collection bytes = long bytes 0 == 0x74746366

-- 1.0, `true` or `OTTO`
abbrev pub is_font_version : ℕ → Bool
is_font_version version = version == 0x00010000 || version == 0x74727565 || version == 0x4f54544f

-- how many fonts a file has (TTC header: numFonts at 8)
abbrev pub font_count : List ℕ → Result ℕ TableFault
font_count bytes = and_then (need bytes 0 12) (λ _. if is_collection bytes then Ok (long bytes 8)
    else (if is_font_version (long bytes 0) then Ok 1 else Err (Kind 0)))

-- the offset of a font's table directory (TTC header: numFonts at 8, then an offset for each font)
abbrev pub font_start : List ℕ → ℕ → Result ℕ TableFault
font_start bytes index = and_then (need bytes 0 12) (λ _. if is_collection bytes
    then and_then (need bytes 12 (4 * long bytes 8)) (λ _. if nat_lt index (long bytes 8) then Ok (long bytes (12 + 4 * index)) else Err Index)
    else (if index == 0 then Ok 0 else Err Index))

-- a table directory at an offset: the version at 0, numTables at 4, from 12 on records of 16 bytes
abbrev pub directory_at : List ℕ → ℕ → Result (ℕ × ℕ) TableFault
directory_at bytes start = and_then (need bytes start 12) (λ _. if is_font_version (long bytes start)
    then and_then (need bytes (start + 12) (16 * word bytes (start + 4))) (λ _. Ok (start, word bytes (start + 4)))
    else Err (Kind start))

-- the table directory of a font: its offset, and how many tables it has
abbrev pub directory : List ℕ → ℕ → Result (ℕ × ℕ) TableFault
directory bytes index = and_then (font_start bytes index) (directory_at bytes)

-- a table record: the tag at 0, the offset at 8, the length at 12
abbrev pub table_record : List ℕ → ℕ → TableRecord
table_record bytes at = record { tag = long bytes at; offset = long bytes (at + 8); length = long bytes (at + 12) }

-- the bytes of a table
abbrev pub table_bytes : List ℕ → TableRecord → Result (List ℕ) TableFault
table_bytes bytes r = and_then (need bytes r.offset r.length) (λ _. Ok (slice_range bytes r.offset (r.offset + r.length)))

-- the bytes of a table, if there is a record of it
abbrev pub bytes_of_record : List ℕ → Option TableRecord → Result (Option (List ℕ)) TableFault
bytes_of_record bytes None = Ok None
bytes_of_record bytes (Some r) = and_then (table_bytes bytes r) (λ t. Ok (Some t))

-- the bytes of the first table with a tag of a font
abbrev pub table_of : List ℕ → ℕ → ℕ → Result (Option (List ℕ)) TableFault
table_of bytes index tag = and_then (directory bytes index) (λ d. bytes_of_record bytes (find (λ r. r.tag == tag) (records (table_record bytes) 16 (d.0 + 12) d.1)))
