-- The fields of glyphs that a printed text determines.
use Rattle.std.specs.Prelude.{◌≡◌, ℕ, ◌^◌, ◌<◌, List, map, ℤ, FitsSigned, bit_and, All}
use Rattle.std.specs.Int.{w32}
use Rattle.std.specs.List.{zip}
use Rattle.buffer_glyphs.specs.declared.flags.SerializeFlags.{SerializeFlags}
use Rattle.buffer_glyphs.specs.declared.info.hb_glyph_info_t.{hb_glyph_info_t}
use Rattle.buffer_glyphs.specs.declared.position.GlyphPosition.{GlyphPosition}
use Rattle.buffer_wrappers.specs.Printed.{Names, Boxes, printed_text}

-- the flags NO_GLYPH_NAMES and GLYPH_FLAGS
abbrev pub numbers_and_flags : SerializeFlags
numbers_and_flags = record { 0 = 20 }

-- the fields of a glyph in such a text
pub record ShownGlyph : Type 0 where
  pub number : ℕ
  pub cluster : ℕ
  pub x_offset : ℤ
  pub y_offset : ℤ
  pub x_advance : ℤ
  pub y_advance : ℤ
  pub glyph_flags : ℕ

-- the fields of a glyph and its position
abbrev pub shown_glyph : hb_glyph_info_t × GlyphPosition → ShownGlyph
shown_glyph e = record {
  number = e.0.glyph_id;
  cluster = e.0.cluster;
  x_offset = e.1.x_offset;
  y_offset = e.1.y_offset;
  x_advance = e.1.x_advance;
  y_advance = e.1.y_advance;
  glyph_flags = bit_and e.0.mask 7;
}

-- the numbers are of their types in the code
pub record HasTypedNumbers (e : hb_glyph_info_t × GlyphPosition) : Type 0 where
  pub number : e.0.glyph_id < 2 ^ 32
  pub cluster : e.0.cluster < 2 ^ 32
  pub x_offset : FitsSigned w32 e.1.x_offset
  pub y_offset : FitsSigned w32 e.1.y_offset
  pub x_advance : FitsSigned w32 e.1.x_advance
  pub y_advance : FitsSigned w32 e.1.y_advance

-- two runs with equal texts of numbers and flags have equal numbers, clusters, offsets, advances and glyph flags
abbrev pub EqualTextsShowEqualRuns : Type 0
EqualTextsShowEqualRuns = (name_of other_name_of : Names) (extents_of other_extents_of : Boxes)
    (glyphs others : List hb_glyph_info_t) (positions other_positions : List GlyphPosition)
    → All HasTypedNumbers (zip glyphs positions) → All HasTypedNumbers (zip others other_positions)
    → printed_text name_of extents_of numbers_and_flags glyphs positions ≡ printed_text other_name_of other_extents_of numbers_and_flags others other_positions
    → map shown_glyph (zip glyphs positions) ≡ map shown_glyph (zip others other_positions)
