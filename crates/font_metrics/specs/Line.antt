-- The ascender and the descender of a line (OpenType, chapter 5, hhea and OS/2).
use Rattle.std.specs.Prelude.{ℕ, ◌/◌, ◌%◌, ◌==◌, ◌&&◌, not, nat_le, ℤ, pos, neg_ℤ, Bool, true, false, if◌then◌else◌, List, Option, Some, None, Result, Ok}
use Rattle.std.specs.Ordering.{int_eq}
use Rattle.font_bytes.specs.declared.fault.TableFault.{TableFault}
use Rattle.font_bytes.specs.Results.{and_then}
use Rattle.font_bytes.specs.Words.{need, word, signed_word}
use Rattle.font_metrics.specs.declared.line.LineMetrics.{LineMetrics}
use Rattle.font_metrics.specs.declared.line.WindowsMetrics.{WindowsMetrics}

-- no metrics
abbrev pub no_line : LineMetrics
no_line = record { ascender = pos 0; descender = pos 0 }

-- a uint16 as a height, at most 32767
abbrev pub height_of : ℕ → ℤ
height_of n = if nat_le n 32767 then pos n else pos 32767

-- OS/2: fsSelection at 62 (bit 7: USE_TYPO_METRICS), sTypoAscender at 68, sTypoDescender at 70, usWinAscent at 74,
-- usWinDescent, which runs downwards, at 76
unfoldable pub windows_at : List ℕ → WindowsMetrics
windows_at table = record {
  prefers = word table 62 / 128 % 2 == 1;
  typographic = record { ascender = signed_word table 68; descender = signed_word table 70 };
  windows = record { ascender = height_of (word table 74); descender = neg_ℤ (height_of (word table 76)) };
}

-- the metrics of OS/2, zeros without it
abbrev pub windows_metrics : Option (List ℕ) → Result WindowsMetrics TableFault
windows_metrics None = Ok (record { prefers = false; typographic = no_line; windows = no_line })
windows_metrics (Some table) = and_then (need table 0 78) (λ _. Ok (windows_at table))

-- hhea: ascender at 4, descender at 6; zeros without it
abbrev pub header_metrics : Option (List ℕ) → Result LineMetrics TableFault
header_metrics None = Ok no_line
header_metrics (Some table) = and_then (need table 0 36) (λ _. Ok (record { ascender = signed_word table 4; descender = signed_word table 6 }))

-- whether a number is 0
abbrev pub is_zero : ℤ → Bool
is_zero n = int_eq n (pos 0)

-- the typographic metric where the font prefers it, else that of hhea, else the typographic one, else that of Windows;
-- each where it isn't 0
unfoldable pub line_metric : Bool → ℤ → ℤ → ℤ → ℤ
line_metric prefers typographic header windows = if prefers && not (is_zero typographic) then typographic
    else (if not (is_zero header) then header else (if not (is_zero typographic) then typographic else windows))

-- the metrics of the line by those of both tables
abbrev pub line_of : WindowsMetrics → LineMetrics → LineMetrics
line_of os2 header = record {
  ascender = line_metric os2.prefers os2.typographic.ascender header.ascender os2.windows.ascender;
  descender = line_metric os2.prefers os2.typographic.descender header.descender os2.windows.descender;
}

-- the metrics of the line by OS/2 and hhea
abbrev pub line_metrics : Option (List ℕ) → Option (List ℕ) → Result LineMetrics TableFault
line_metrics os2 hhea = and_then (windows_metrics os2) (λ w. and_then (header_metrics hhea) (λ h. Ok (line_of w h)))
