-- The bytes of a font's tables.
use Rattle.std.specs.Prelude.{ℕ, List, Option, Some, None, Result, Ok, Err}
use Rattle.font_bytes.specs.declared.fault.TableFault.TheVariants.{Missing}
use Rattle.font_bytes.specs.Results.{and_then}
use Rattle.font_bytes.specs.Directory.{table_of}
use Rattle.font_bytes.specs.declared.font_fault.FontFault.{FontFault}
use Rattle.font_bytes.specs.declared.table_names.FontTable.{FontTable}
use Rattle.font_bytes.specs.Tables.{tag_of_table}
use Rattle.font_bytes.specs.Fault.{in_table}

-- the bytes of a table of the font with an index, if it has the table
abbrev pub table_in : List ℕ → ℕ → FontTable → Result (Option (List ℕ)) FontFault
table_in bytes index table = in_table None (table_of bytes index (tag_of_table table))

-- a table that a font has to have
abbrev pub present : FontTable → Option (List ℕ) → Result (List ℕ) FontFault
present table (Some bytes) = Ok bytes
present table None = Err (record { table = Some table; cause = Missing })

-- the bytes of a table that a font has to have
abbrev pub required_table : List ℕ → ℕ → FontTable → Result (List ℕ) FontFault
required_table bytes index table = and_then (table_in bytes index table) (present table)
