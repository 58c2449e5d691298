-- The y coordinates of vertical origins (OpenType, chapter 5, VORG; HarfBuzz, hb_ot_get_glyph_v_origin).
use Rattle.std.specs.Prelude.{ℕ, ◌+◌, ◌*◌, ◌==◌, ◌||◌, not, ℤ, pos, ◌+ℤ◌, ◌-ℤ◌, int_div, Bool, true, if◌then◌else◌, List, slice_get, Option, Some, None, Result, Ok, Err}
use Rattle.std.specs.Ordering.{int_eq}
use Rattle.std.specs.Int.{int_div_euclid}
use Rattle.layout_common.specs.declared.glyph_row.GlyphRow.{GlyphRow}
use Rattle.layout_common.specs.Rows.{value_of}
use Rattle.buffer_rows.specs.Keys.{numbers_rise}
use Rattle.font_bytes.specs.declared.fault.TableFault.{TableFault}
use Rattle.font_bytes.specs.declared.fault.TableFault.TheVariants.{Order}
use Rattle.font_bytes.specs.Results.{and_then}
use Rattle.font_bytes.specs.Words.{need, word, signed_word}
use Rattle.font_bytes.specs.Records.{records}
use Rattle.font_metrics.specs.declared.boxes.GlyphBox.{GlyphBox}
use Rattle.font_metrics.specs.declared.line.LineMetrics.{LineMetrics}
use Rattle.font_metrics.specs.declared.origins.Heights.{Heights}
use Rattle.font_metrics.specs.Values.{value_rows}
use Rattle.font_metrics.specs.Advances.{bearing_at}
use Rattle.font_metrics.specs.Extents.{narrow}

-- a height, unless it is the ascender
abbrev pub other_height : ℤ → Option ℤ → Option ℤ
other_height ascender None = None
other_height ascender (Some height) = if int_eq height ascender then None else Some height

-- a height that has a row: 16 bits hold it, and it isn't the ascender
unfoldable pub unusual : ℤ → ℤ → Option ℤ
unusual height ascender = other_height ascender (narrow height)

-- half of a number, rounded down
abbrev pub half : ℤ → ℤ
half n = int_div_euclid n (pos 2)

-- ---- by boxes

-- the top side bearing above the box
abbrev pub bearing_origin : GlyphBox → ℤ → ℤ → Option ℤ
bearing_origin b bearing ascender = unusual (b.top +ℤ bearing) ascender

-- the box in the middle of the line's height
unfoldable pub centred_origin : GlyphBox → LineMetrics → Option ℤ
centred_origin b line = unusual (b.top +ℤ half ((line.ascender -ℤ line.descender) -ℤ (b.top -ℤ b.bottom))) line.ascender

-- the origin of a glyph with a box, by its top side bearing where it has one
abbrev pub box_origin : LineMetrics → Option GlyphBox → Option ℤ → Option ℤ
box_origin line None bearing = None
box_origin line (Some b) None = centred_origin b line
box_origin line (Some b) (Some bearing) = bearing_origin b bearing line.ascender

-- the origin of a glyph by the boxes of glyphs and vmtx with its long metrics
abbrev pub box_origin_at : List GlyphBox → List ℕ → ℕ → LineMetrics → ℕ → Option ℤ
box_origin_at boxes vmtx long line g = box_origin line (slice_get boxes g) (bearing_at vmtx long g)

-- the origins of n glyphs
abbrev pub box_origins : List GlyphBox → List ℕ → ℕ → LineMetrics → ℕ → List (GlyphRow ℤ)
box_origins boxes vmtx long line count = value_rows (box_origin_at boxes vmtx long line) 0 count

-- ---- by VORG

-- vertOriginYMetrics: glyphIndex at 0, vertOriginY at 2
abbrev pub origin_record : List ℕ → ℕ → GlyphRow ℤ
origin_record table at = record { glyph = word table at; value = signed_word table (at + 2) }

-- rows whose glyphs rise
abbrev pub rising_records : List (GlyphRow ℤ) → Result (List (GlyphRow ℤ)) TableFault
rising_records rows = if numbers_rise (λ r. r.glyph) rows then Ok rows else Err (Order 0)

-- VORG: numVertOriginYMetrics at 6, vertOriginYMetrics at 8, whose glyphs rise
unfoldable pub origin_records : List ℕ → Result (List (GlyphRow ℤ)) TableFault
origin_records table = and_then (need table 0 8) (λ _. and_then (need table 8 (4 * word table 6)) (λ _. rising_records (records (origin_record table) 4 8 (word table 6))))

-- a glyph's height by its record, else the default one
abbrev pub height_else : Option ℤ → ℤ → ℤ
height_else None usual = usual
height_else (Some height) usual = height

-- the origin of a glyph by the records of VORG, else the default one
abbrev pub vorg_origin : List (GlyphRow ℤ) → Heights → ℕ → Option ℤ
vorg_origin rows h g = unusual (height_else (value_of g rows) h.usual) h.ascender

-- the origins of n glyphs by records and a default one
abbrev pub recorded_origins : Heights → ℕ → List (GlyphRow ℤ) → List (GlyphRow ℤ)
recorded_origins h count rows = value_rows (vorg_origin rows h) 0 count

-- the origins of n glyphs by VORG: defaultVertOriginY at 4
unfoldable pub vorg_origins : List ℕ → ℤ → ℕ → Result (List (GlyphRow ℤ)) TableFault
vorg_origins table ascender count = and_then (origin_records table) (λ rows. Ok (recorded_origins (record { usual = signed_word table 4; ascender = ascender }) count rows))
