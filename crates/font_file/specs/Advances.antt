-- The advances of glyphs (OpenType, chapter 5, hmtx and vmtx).
use Rattle.std.specs.Prelude.{ℕ, List, [], Option, Some, None, Result, Ok}
use Rattle.layout_common.specs.declared.glyph_row.GlyphRow.{GlyphRow}
use Rattle.font_bytes.specs.declared.font_fault.FontFault.{FontFault}
use Rattle.font_bytes.specs.declared.table_names.FontTable.{FontTable}
use Rattle.font_bytes.specs.Fault.{in_table}
use Rattle.font_bytes.specs.Results.{and_then}
use Rattle.font_metrics.specs.Advances.{advance_rows, height_rows, long_metrics}
use Rattle.font_file.specs.declared.headers.Headers.{Headers}
use Rattle.font_file.specs.Found.{table_in}

-- the bytes of a table, none without it
abbrev pub bytes_or_none : Option (List ℕ) → List ℕ
bytes_or_none None = []
bytes_or_none (Some bytes) = bytes

-- a table of metrics, if there is one, and how many long metrics it has by its header
abbrev pub metrics_in : List ℕ → ℕ → FontTable → FontTable → Result (Option (List ℕ) × ℕ) FontFault
metrics_in bytes index header table =
    and_then (table_in bytes index header) (λ h.
    and_then (table_in bytes index table) (λ t.
    and_then (in_table (Some header) (long_metrics h t)) (λ long.
    Ok (t, long))))

-- the advances of a line downwards: those of vmtx; without it each glyph has the height of the line
abbrev pub vertical_rows : Headers → Option (List ℕ) → ℕ → List (GlyphRow ℕ)
vertical_rows h None long = height_rows h.line h.upem h.count
vertical_rows h (Some table) long = advance_rows table long h.count
