-- Lines of a paragraph, and what shaping the text of one of them alone gives.
use Rattle.std.specs.Prelude.{ℕ, ◌≡◌, ◌<◌, ◌⊎◌, true, IsTrue, List, Some, Contains, slice_range}
use Rattle.kuspveli.specs.buffer_common.declared.direction.Direction.{Direction}
use Rattle.kuspveli.specs.buffer_common.declared.tag.Tag.{Tag}
use Rattle.kuspveli.specs.buffer_glyphs.Items.{clusters}
use Rattle.kuspveli.specs.buffer_glyphs.Order.{has_number}
use Rattle.kuspveli.specs.buffer_tags.declared.feature.Feature.{Feature}
use Rattle.kuspveli.specs.buffer_unicode_tables.Lawful.{AsciiHasNoMarks}
use Rattle.kuspveli.specs.buffer_unicode_tables.Tables.{Tables}
use Rattle.kuspveli.specs.layout_face.declared.parts.FaceParts.{FaceParts}
use Rattle.kuspveli.specs.script_shapers.script_dispatch.Requests.{any_kind}
use Rattle.kuspveli.specs.script_shapers.script_plan.Plans.{planned_shaper, text_plan}
use Rattle.kuspveli.specs.script_shapers.script_plan.Rules.{Spans}
use Rattle.kuspveli.specs.shape_laws.Breaks.ByShaper.{MayBeCutBy}
use Rattle.kuspveli.specs.shape_laws.Breaks.Characters.{KeepsMarks}
use Rattle.kuspveli.specs.shape_laws.Breaks.InLine.{glyph_numbers}
use Rattle.kuspveli.specs.shape_laws.Breaks.SafeTexts.{AreCut, AreOfOneLanguage, HaveEnough}
use Rattle.kuspveli.specs.shape_pipeline.Characters.{normalizer}
use Rattle.kuspveli.specs.shape_pipeline.Laws.{AreAlike}
use Rattle.kuspveli.specs.shape_pipeline.ReadingLaws.{have_no_ranges}
use Rattle.kuspveli.specs.shape_pipeline.Results.{IsResultOf, IsShapedBy}
use Rattle.kuspveli.specs.shape_pipeline.Shaped.{by_text, language_tags}
use Rattle.kuspveli.specs.shape_pipeline.Shaping.{Shaping}
use Rattle.kuspveli.specs.shaping_buffer.buffer_core.Sides.{Sides, all_glyphs, items_of}
use Rattle.line_pieces.specs.declared.lines.GlyphRange.{GlyphRange}
use Rattle.line_pieces.specs.declared.lines.Line.{Line}
use Rattle.line_pieces.specs.declared.lines.Widths.{Widths}
use Rattle.line_pieces.specs.Lines.{AreLines, IsInLine, paragraph_by}

-- what texts are shaped with: a font, the tables of characters, the tags of languages, the scan for syllables, and
-- features
pub record Setup : Type 0 where
  pub font : FaceParts
  pub tables : Tables
  pub tags : List ℕ → List Tag
  pub spans : Spans
  pub features : List Feature

-- what a text is shaped by
abbrev pub shaping_of : Setup → Sides → Shaping
shaping_of s text = by_text s.font s.tables s.tags s.spans s.features text

-- a text whose direction and script are known, and the result that `shape` gives of it
pub record ShapedText (s : Setup) : Type 0 where
  pub text : Sides
  pub result : Sides
  pub shaped : IsShapedBy (shaping_of s text) text result
  pub is : IsResultOf text result

-- a text is cut before byte c into two, where the law of safe breaks speaks of it (`law_safe_breaks`)
pub record IsCutAt (s : Setup) (c : ℕ) (whole earlier later : ShapedText s) : Type 0 where
  -- their characters and settings: the whole's, with the whole's clusters
  pub texts : AreCut c whole.text earlier.text later.text
  pub language : AreOfOneLanguage whole.text earlier.text later.text
  -- what the shaper of the whole asks of the cut
  pub shaper : MayBeCutBy (planned_shaper any_kind s.font (language_tags s.tags whole.text) whole.text.direction whole.text.script) (text_plan any_kind s.font (language_tags s.tags whole.text) whole.text.direction whole.text.script s.features)
      (shaping_of s whole.text) (shaping_of s earlier.text) (shaping_of s later.text) whole.text earlier.text later.text
  -- what stands for a character in tables and font is a mark only where the character is one
  pub characters : KeepsMarks (normalizer (shaping_of s whole.text))
  -- the limits are enough for each of the three
  pub limits : HaveEnough (shaping_of s whole.text) (shaping_of s earlier.text) (shaping_of s later.text) whole.text earlier.text later.text

-- a text is the later of two that the whole is cut into before byte c
pub record IsLaterText (s : Setup) (c : ℕ) (whole later : ShapedText s) : Type 0 where
  pub earlier : ShapedText s
  pub cut : IsCutAt s c whole earlier later

-- a text is the earlier of two that the whole is cut into before byte c
pub record IsEarlierText (s : Setup) (c : ℕ) (whole earlier : ShapedText s) : Type 0 where
  pub later : ShapedText s
  pub cut : IsCutAt s c whole earlier later

-- a text is the whole from byte c on: at the start of the whole nothing is cut off
abbrev pub IsFrom : (s : Setup) (c : ℕ) (whole rest : ShapedText s) → Type 0
IsFrom s c whole rest = ((c ≡ 0) × (rest ≡ whole)) ⊎ IsLaterText s c whole rest

-- a text is the whole up to byte c: at the end of the whole nothing is cut off
abbrev pub IsUpTo : (s : Setup) (c end : ℕ) (whole front : ShapedText s) → Type 0
IsUpTo s c end whole front = ((c ≡ end) × (front ≡ whole)) ⊎ IsEarlierText s c whole front

-- a text is that of a line: it is cut out of the paragraph's text of `end` bytes, at the line's start and then at its
-- end
pub record IsTextOfLine (s : Setup) (end : ℕ) (l : Line) (whole line : ShapedText s) : Type 0 where
  -- each cluster of the paragraph's text is one of its bytes
  pub bytes : (n : ℕ) → IsTrue (has_number (clusters (all_glyphs whole.text)) n) → n < end
  -- the text from the line's start on
  pub rest : ShapedText s
  pub from : IsFrom s l.start whole rest
  pub to : IsUpTo s l.end end rest line

-- the glyphs of a result in a range are those of another result, at the same positions
pub record HasGlyphsOf (whole : Sides) (r : GlyphRange) (line : Sides) : Type 0 where
  pub glyphs : slice_range (glyph_numbers (items_of whole)) r.start r.end ≡ glyph_numbers (items_of line)
  pub positions : slice_range whole.positions r.start r.end ≡ line.positions

-- the clusters of a result in a range of its glyphs are those of another result
abbrev pub HasClustersOf : (whole : Sides) (r : GlyphRange) (line : Sides) → Type 0
HasClustersOf whole r line = slice_range (clusters (all_glyphs whole)) r.start r.end ≡ clusters (all_glyphs line)

-- the lines of a paragraph along a direction, as `cut_lines` and `cut_unit_lines` give them, have a line with the paragraph's
-- glyphs in a range
pub record HasOwnGlyphs (d : Direction) (end : ℕ) (breaks : List ℕ) (widths : Widths) (whole : Sides) (ls : List Line) (l : Line) (r : GlyphRange) : Type 0 where
  pub line : IsInLine d whole
  pub lines : AreLines (paragraph_by d whole end breaks widths) ls
  pub among : Contains ls l
  pub own : l.glyphs ≡ Some r

-- law: the glyphs that a line has of its paragraph are those that shaping the line's text alone gives, with the same
-- clusters
abbrev pub OwnLinesAreShapedAlone : Type 0
OwnLinesAreShapedAlone = (s : Setup) (d : Direction) (end : ℕ) (breaks : List ℕ) (widths : Widths) (whole line : ShapedText s) (ls : List Line) (l : Line) (r : GlyphRange)
    → AsciiHasNoMarks → HasOwnGlyphs d end breaks widths whole.result ls l r → IsTextOfLine s end l whole line
    → HasGlyphsOf whole.result r line.result × HasClustersOf whole.result r line.result

-- law: the glyphs that a line has of its paragraph are, at the same positions, those that the line's text has with other
-- clusters, at another level, or with other requests for glyph flags, where no feature is requested for a range of the text
abbrev pub OwnLinesLookAlike : Type 0
OwnLinesLookAlike = (s : Setup) (d : Direction) (end : ℕ) (breaks : List ℕ) (widths : Widths) (whole line other : ShapedText s) (ls : List Line) (l : Line) (r : GlyphRange)
    → AsciiHasNoMarks → HasOwnGlyphs d end breaks widths whole.result ls l r → IsTextOfLine s end l whole line
    → have_no_ranges s.features ≡ true → AreAlike line.text other.text → HasGlyphsOf whole.result r other.result
