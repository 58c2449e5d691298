-- How many fonts a file has.
use Rattle.std.specs.Prelude.{ℕ, List, None, Result}
use Rattle.font_bytes.specs.Directory as directory
use Rattle.font_bytes.specs.declared.font_fault.FontFault.{FontFault}
use Rattle.font_bytes.specs.Fault.{in_table}

-- how many fonts a file has: as many as a collection says, one in any other font file
abbrev pub font_count : List ℕ → Result ℕ FontFault
font_count bytes = in_table None (directory.font_count bytes)
