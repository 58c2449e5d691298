-- Advances and side bearings (OpenType, chapter 5, hhea, hmtx, vhea, vmtx).
use Rattle.std.specs.Prelude.{ℕ, ◌+◌, ◌-◌, ◌*◌, ◌/◌, ◌==◌, ◌||◌, not, nat_lt, min, ℤ, pos, ◌-ℤ◌, int_le, int_lt, Bool, if◌then◌else◌, List, [], length, Option, Some, None, Result, Ok, nat_abs}
use Rattle.layout_common.specs.declared.glyph_row.GlyphRow.{GlyphRow}
use Rattle.font_bytes.specs.declared.fault.TableFault.{TableFault}
use Rattle.font_bytes.specs.Results.{and_then}
use Rattle.font_bytes.specs.Words.{fits, need, word, signed_word}
use Rattle.font_metrics.specs.declared.line.LineMetrics.{LineMetrics}
use Rattle.font_metrics.specs.Values.{value_rows}

-- numberOfHMetrics (numOfLongVerMetrics) at 34 of hhea (vhea), as far as the table of metrics has them, each 4 bytes; 0
-- without one of both
abbrev pub long_metrics : Option (List ℕ) → Option (List ℕ) → Result ℕ TableFault
long_metrics None table = Ok 0
long_metrics (Some header) None = Ok 0
long_metrics (Some header) (Some table) = and_then (need header 0 36) (λ _. Ok (min (word header 34) (length table / 4)))

-- LongHorMetric: advanceWidth at 0, lsb at 2; the last advance is also that of the glyphs after it
abbrev pub advance_at : List ℕ → ℕ → ℕ → ℕ
advance_at table long g = word table (4 * min g (long - 1))

-- the side bearing of a glyph: of its long metric, else of the array after these, as far as it is there
abbrev pub bearing_at : List ℕ → ℕ → ℕ → Option ℤ
bearing_at table long g = if nat_lt g long then Some (signed_word table (4 * g + 2))
    else (if long == 0 || not (fits table (4 * long + 2 * (g - long)) 2) then None else Some (signed_word table (4 * long + 2 * (g - long))))

-- the advances of n glyphs
unfoldable pub advance_rows : List ℕ → ℕ → ℕ → List (GlyphRow ℕ)
advance_rows table long count = if long == 0 then [] else value_rows (λ g. Some (advance_at table long g)) 0 count

-- ascender less descender, where 16 bits hold it
abbrev pub line_height : LineMetrics → Option ℕ
line_height line = if int_lt (line.ascender -ℤ line.descender) (pos 0) || int_lt (pos 65535) (line.ascender -ℤ line.descender) then None else Some (nat_abs (line.ascender -ℤ line.descender))

-- one height for each glyph, unless it is the one that a missing row means
abbrev pub rows_of_height : Option ℕ → ℕ → ℕ → List (GlyphRow ℕ)
rows_of_height None upem count = []
rows_of_height (Some height) upem count = if height == upem then [] else value_rows (λ _. Some height) 0 count

-- the advances downwards of a font without vmtx
unfoldable pub height_rows : LineMetrics → ℕ → ℕ → List (GlyphRow ℕ)
height_rows line upem count = rows_of_height (line_height line) upem count
