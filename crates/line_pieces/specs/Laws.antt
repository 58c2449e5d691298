-- What holds of the lines of a paragraph.
use Rattle.std.specs.Prelude.{ℕ, ◌≡◌, ◌==◌, ◌&&◌, ◌||◌, Bool, not, List, bit_and, length, map}
use Rattle.std.specs.List.{list_any}
use Rattle.kuspveli.specs.buffer_common.declared.direction.Direction.{Direction}
use Rattle.kuspveli.specs.buffer_glyphs.declared.info.TheConstants.{UNSAFE_TO_BREAK}
use Rattle.kuspveli.specs.buffer_glyphs.declared.info.hb_glyph_info_t.{hb_glyph_info_t}
use Rattle.kuspveli.specs.buffer_glyphs.Items.{clusters}
use Rattle.kuspveli.specs.buffer_glyphs.Order.{has_number}
use Rattle.kuspveli.specs.buffer_parts.Slices.{text_of_slices}
use Rattle.kuspveli.specs.shaping_buffer.buffer_core.Sides.{Sides, all_glyphs}
use Rattle.line_pieces.specs.declared.lines.Line.{Line}
use Rattle.line_pieces.specs.Lines.{AreLines, Paragraph, byte_range, is_safe_at}
use Rattle.line_pieces.specs.Steps.{text_steps}

-- law: the bytes of the lines of a text, one line after another, are the text
abbrev pub LinesAreText : Type 0
LinesAreText = (p : Paragraph) (text : List ℕ) (ls : List Line) → p.end ≡ length text → AreLines p ls → text_of_slices text (map byte_range ls) ≡ text

-- law: a paragraph is cut in one way alone: all its lines have the same bytes
abbrev pub LinesAreOne : Type 0
LinesAreOne = (p : Paragraph) (ls ms : List Line) → AreLines p ls → AreLines p ms → map byte_range ls ≡ map byte_range ms

-- whether a glyph is of a cluster, and has UNSAFE_TO_BREAK
abbrev pub is_flagged_at : ℕ → hb_glyph_info_t → Bool
is_flagged_at c g = g.cluster == c && not (bit_and g.mask UNSAFE_TO_BREAK == 0)

-- law: a break is safe at both ends of the text, and where glyphs of a result have the cluster and none of these has
-- UNSAFE_TO_BREAK
abbrev pub FlagsShowSafeBreaks : Type 0
FlagsShowSafeBreaks = (d : Direction) (r : Sides) (end byte : ℕ) → length r.positions ≡ length (all_glyphs r)
    → is_safe_at (text_steps d r) end byte ≡ ((byte == 0 || byte == end) || (has_number (clusters (all_glyphs r)) byte && not (list_any (is_flagged_at byte) (all_glyphs r))))
