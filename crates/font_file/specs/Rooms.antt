-- How many rows a font may have (docs/TOOLS.md, Limits).
use Rattle.std.specs.Prelude.{ℕ, ◌+◌, ◌*◌, nat_lt, if◌then◌else◌, List, length}

-- the characters and variants of cmap
abbrev pub character_room : ℕ
character_room = 1310720

-- the rows of each of GDEF, GSUB and GPOS
abbrev pub layout_room : ℕ
layout_room = 4194304

-- the bytes of a table of outlines that count: no table is longer, since its length is in 32 bits
abbrev pub counted_bytes : ℕ → ℕ
counted_bytes bytes = if nat_lt bytes 4294967296 then bytes else 4294967296

-- the steps of charstrings, where the boxes of all glyphs are read: some, and 16 for each byte of the table
abbrev pub outline_room : List ℕ → ℕ
outline_room table = 1048576 + 16 * counted_bytes (length table)
