-- What an edit of a text leaves as it is.
use Rattle.std.specs.Prelude.{ℕ, ◌≡◌, ◌<◌, true, IsTrue, slice_range}
use Rattle.kuspveli.specs.buffer_common.declared.direction.Direction.{Direction}
use Rattle.kuspveli.specs.buffer_glyphs.Items.{clusters}
use Rattle.kuspveli.specs.buffer_glyphs.Order.{has_number}
use Rattle.kuspveli.specs.buffer_unicode_tables.Lawful.{AsciiHasNoMarks}
use Rattle.kuspveli.specs.shape_laws.Breaks.InLine.{glyph_numbers}
use Rattle.kuspveli.specs.shape_pipeline.Laws.{AreAlike}
use Rattle.kuspveli.specs.shape_pipeline.ReadingLaws.{have_no_ranges}
use Rattle.kuspveli.specs.shaping_buffer.buffer_core.Sides.{Sides, all_glyphs, items_of}
use Rattle.line_pieces.specs.declared.edits.Edit.{Edit}
use Rattle.line_pieces.specs.declared.edits.EditRange.{EditRange}
use Rattle.line_pieces.specs.declared.lines.GlyphRange.{GlyphRange}
use Rattle.line_pieces.specs.Alone.{IsFrom, IsUpTo, Setup, ShapedText}
use Rattle.line_pieces.specs.Edits.{IsEditRange, MayBeCompared, new_length, old_length}
use Rattle.line_pieces.specs.Lines.{HasExactly}

-- the glyphs of a result in a range are those of another one in a range, at the same positions
pub record HaveSameGlyphs (one : Sides) (a : GlyphRange) (two : Sides) (b : GlyphRange) : Type 0 where
  pub glyphs : slice_range (glyph_numbers (items_of one)) a.start a.end ≡ slice_range (glyph_numbers (items_of two)) b.start b.end
  pub positions : slice_range one.positions a.start a.end ≡ slice_range two.positions b.start b.end

-- the clusters of a result's glyphs in a range are those of another one's in a range
abbrev pub HaveSameClusters : (one : Sides) (a : GlyphRange) (two : Sides) (b : GlyphRange) → Type 0
HaveSameClusters one a two b = slice_range (clusters (all_glyphs one)) a.start a.end ≡ slice_range (clusters (all_glyphs two)) b.start b.end

-- each cluster of a text of `end` bytes is one of them
abbrev pub HasBytes : (s : Setup) (end : ℕ) (whole : ShapedText s) → Type 0
HasBytes s end whole = (n : ℕ) → IsTrue (has_number (clusters (all_glyphs whole.text)) n) → n < end

-- a text before and after an edit, and the bytes that `edit_range` answers
pub record IsEdited (s : Setup) (d : Direction) (e : Edit) (r : EditRange) (before after : ShapedText s) : Type 0 where
  pub compared : MayBeCompared d before.result after.result e
  pub range : IsEditRange d before.result after.result e r
  pub old_bytes : HasBytes s (old_length e) before
  pub new_bytes : HasBytes s (new_length e) after

-- one text, with its contexts, is the front of both up to the range
pub record IsFrontOfBoth (s : Setup) (e : Edit) (r : EditRange) (before after front : ShapedText s) : Type 0 where
  pub of_old : IsUpTo s r.from (old_length e) before front
  pub of_new : IsUpTo s r.from (new_length e) after front

-- two texts are the rests of both from the range on, and differ in clusters alone, or in their level or requests for flags
pub record AreRestsOfBoth (s : Setup) (r : EditRange) (before after old_rest new_rest : ShapedText s) : Type 0 where
  pub of_old : IsFrom s r.old_to before old_rest
  pub of_new : IsFrom s r.new_to after new_rest
  pub alike : AreAlike old_rest.text new_rest.text

-- law: before the bytes that `edit_range` answers, the glyphs are the same in both results, at the same positions and with the
-- same clusters
abbrev pub EditKeepsTheFront : Type 0
EditKeepsTheFront = (s : Setup) (d : Direction) (e : Edit) (r : EditRange) (before after front : ShapedText s) (a b : GlyphRange) → AsciiHasNoMarks → IsEdited s d e r before after → IsFrontOfBoth s e r before after front → 0 < r.from
    → HasExactly (clusters (all_glyphs before.result)) (0, r.from) a → HasExactly (clusters (all_glyphs after.result)) (0, r.from) b
    → HaveSameGlyphs before.result a after.result b × HaveSameClusters before.result a after.result b

-- law: after them the glyphs are the same, at the same positions, where no feature is requested for a range of the text
abbrev pub EditKeepsTheRest : Type 0
EditKeepsTheRest = (s : Setup) (d : Direction) (e : Edit) (r : EditRange) (before after old_rest new_rest : ShapedText s) (a b : GlyphRange) → AsciiHasNoMarks → IsEdited s d e r before after → AreRestsOfBoth s r before after old_rest new_rest
    → have_no_ranges s.features ≡ true → r.old_to < old_length e → HasExactly (clusters (all_glyphs before.result)) (r.old_to, old_length e) a → HasExactly (clusters (all_glyphs after.result)) (r.new_to, new_length e) b
    → HaveSameGlyphs before.result a after.result b
