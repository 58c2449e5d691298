-- The sections of tables in binary form. All numbers are big-endian. The header has for each of 19 sections the offset
-- of its first record and how many records it has, both uint32, and then for each of four machines the number of its
-- states, a uint16: 160 bytes.
use Rattle.std.specs.Prelude.{ℕ, ◌+◌, ◌*◌, if◌then◌else◌, List, Result, Ok, Err}
use Rattle.font_bytes.specs.Words.{fits, long}
use Rattle.font_bytes.specs.Records.{records}
use Rattle.shell_tables_bytes.specs.declared.fault.BinaryFault.{BinaryFault}
use Rattle.shell_tables_bytes.specs.declared.fault.BinaryFault.TheVariants.{Short}

-- the offset of a section's first record
abbrev pub section_start : List ℕ → ℕ → ℕ
section_start bytes number = long bytes (8 * number)

-- how many records a section has
abbrev pub record_count : List ℕ → ℕ → ℕ
record_count bytes number = long bytes (8 * number + 4)

-- the records of a section, of one width; refused where the bytes end before they do
abbrev pub section : {R : Type 0} → (List ℕ → ℕ → R) → ℕ → ℕ → List ℕ → Result (List R) BinaryFault
section read width number bytes =
    if fits bytes (section_start bytes number) (width * record_count bytes number)
    then Ok (records (read bytes) width (section_start bytes number) (record_count bytes number))
    else Err Short
