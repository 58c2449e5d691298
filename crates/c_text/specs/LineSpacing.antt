-- Ascender, descender and line gap of a font file's font (OpenType, chapter 5, hhea and OS/2).
use Rattle.std.specs.Prelude.{ℕ, ◌/◌, ◌%◌, ◌==◌, ◌&&◌, ◌||◌, not, ℤ, pos, Bool, false, if◌then◌else◌, List, Option, Some, None, is_some, Result, Ok, Err}
use Rattle.font_bytes.specs.declared.fault.TableFault.{TableFault}
use Rattle.font_bytes.specs.declared.table_names.FontTable.TheVariants.{Hhea, Os2}
use Rattle.font_bytes.specs.Directory.{table_of}
use Rattle.font_bytes.specs.Results.{and_then}
use Rattle.font_bytes.specs.Tables.{tag_of_table}
use Rattle.font_bytes.specs.Words.{fits, word, signed_word}
use Rattle.font_metrics.specs.declared.line.LineMetrics.{LineMetrics}
use Rattle.font_metrics.specs.Line.{is_zero, line_metrics}
use Rattle.c_text.specs.declared.line_spacing.Gap.{Gap}
use Rattle.c_text.specs.declared.line_spacing.LineSpacing.{LineSpacing}

-- no line gap
abbrev pub no_gap : Gap
no_gap = record { prefers = false; ascender = pos 0; line_gap = pos 0 }

-- OS/2: fsSelection at 62 (bit 7: USE_TYPO_METRICS), sTypoAscender at 68, sTypoLineGap at 72
abbrev pub typographic_gap : Option (List ℕ) → Gap
typographic_gap None = no_gap
typographic_gap (Some table) =
    if fits table 0 78 then record { prefers = word table 62 / 128 % 2 == 1; ascender = signed_word table 68; line_gap = signed_word table 72 } else no_gap

-- hhea: ascender at 4, lineGap at 8
abbrev pub header_gap : Option (List ℕ) → Gap
header_gap None = no_gap
header_gap (Some table) = if fits table 0 36 then record { prefers = false; ascender = signed_word table 4; line_gap = signed_word table 8 } else no_gap

-- the line gap of those metrics that the ascender is of: the typographic ones where the font prefers them, else those of hhea,
-- else the typographic ones, each where its ascender isn't 0; those of Windows have none
abbrev pub gap_of : Gap → Gap → ℤ
gap_of typographic header =
    if typographic.prefers && not (is_zero typographic.ascender) then typographic.line_gap
    else (if not (is_zero header.ascender) then header.line_gap else (if not (is_zero typographic.ascender) then typographic.line_gap else pos 0))

-- ascender and descender with a line gap
abbrev pub spacing_of : ℤ → Result LineMetrics TableFault → Option LineSpacing
spacing_of gap (Ok line) = Some (record { ascender = line.ascender; descender = line.descender; line_gap = gap })
spacing_of gap (Err e) = None

-- the metrics of a line by OS/2 and hhea, none where the font has neither
abbrev pub spacing_by : Option (List ℕ) → Option (List ℕ) → Option LineSpacing
spacing_by os2 hhea =
    if is_some os2 || is_some hhea then spacing_of (gap_of (typographic_gap os2) (header_gap hhea)) (line_metrics os2 hhea) else None

-- the metrics of a line by tables that were found
abbrev pub spacing_found : Result (Option (List ℕ)) TableFault → Result (Option (List ℕ)) TableFault → Option LineSpacing
spacing_found (Err e) hhea = None
spacing_found (Ok os2) (Err e) = None
spacing_found (Ok os2) (Ok hhea) = spacing_by os2 hhea

-- the metrics of a line of the font with an index of a font file, none where it has neither table
abbrev pub spacing_in : List ℕ → ℕ → Option LineSpacing
spacing_in bytes index = spacing_found (table_of bytes index (tag_of_table Os2)) (table_of bytes index (tag_of_table Hhea))
