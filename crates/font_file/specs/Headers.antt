-- The headers of a font (OpenType, chapter 5, head, maxp, hhea, OS/2).
use Rattle.std.specs.Prelude.{ℕ, List, Some, None, Result, Ok}
use Rattle.font_bytes.specs.declared.font_fault.FontFault.{FontFault}
use Rattle.font_bytes.specs.declared.table_names.FontTable.TheVariants.{Head, Maxp, Hhea, Os2}
use Rattle.font_bytes.specs.Fault.{in_table}
use Rattle.font_bytes.specs.Results.{and_then}
use Rattle.font_metrics.specs.declared.line.LineMetrics.{LineMetrics}
use Rattle.font_metrics.specs.Header.{glyph_count, has_long_offsets, units_per_em}
use Rattle.font_metrics.specs.Line.{line_metrics}
use Rattle.font_file.specs.declared.headers.Headers.{Headers}
use Rattle.font_file.specs.Found.{required_table, table_in}

-- the ascender and the descender of a line, by OS/2 and hhea; a fault of OS/2 comes first
abbrev pub line_in : List ℕ → ℕ → Result LineMetrics FontFault
line_in bytes index =
    and_then (table_in bytes index Os2) (λ os2.
    and_then (in_table (Some Os2) (line_metrics os2 None)) (λ _.
    and_then (table_in bytes index Hhea) (λ hhea.
    in_table (Some Hhea) (line_metrics os2 hhea))))

-- units of the em and the form of loca (head), the number of glyphs (maxp), the line
abbrev pub headers_in : List ℕ → ℕ → Result Headers FontFault
headers_in bytes index =
    and_then (required_table bytes index Head) (λ head.
    and_then (in_table (Some Head) (units_per_em head)) (λ upem.
    and_then (in_table (Some Head) (has_long_offsets head)) (λ is_long.
    and_then (required_table bytes index Maxp) (λ maxp.
    and_then (in_table (Some Maxp) (glyph_count maxp)) (λ count.
    and_then (line_in bytes index) (λ line.
    Ok (record { upem = upem; is_long = is_long; count = count; line = line })))))))
