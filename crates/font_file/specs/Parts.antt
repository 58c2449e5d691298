-- Which parts of a font are read.
use Rattle.std.specs.Prelude.{true}
use Rattle.font_file.specs.declared.parts.FontParts.{FontParts}

-- all parts
abbrev pub all_parts : FontParts
all_parts = record { extents = true; names = true }
