-- Texts that show each character as the font's own glyph.
use Rattle.std.specs.Prelude.{ℕ, pos, ◌≡◌, ◌≤◌, ◌==◌, ◌&&◌, Bool, true, false, not, nat_le, List, map, length, Option, None, Ok, unwrap_or}
use Rattle.std.specs.Option.{option_map_or}
use Rattle.std.specs.List.{list_all}
use lib.Utf8.{scalar}
use Rattle.unicode.specs.GeneralCategory.{general_category}
use Rattle.ucd_category.specs.declared.GeneralCategory.TheVariants.{SpaceSeparator}
use Rattle.buffer_unicode.specs.Category.{category_number}
use Rattle.buffer_unicode.specs.Character.{is_default_ignorable_character}
use Rattle.buffer_common.specs.declared.direction.Direction.TheVariants.{LeftToRight}
use Rattle.buffer_common.specs.declared.script.Script.{Script}
use Rattle.buffer_common.specs.declared.tag.Tag.{Tag}
use Rattle.buffer_tags.specs.declared.feature.Feature.{Feature}
use Rattle.buffer_unicode_tables.specs.Tables.{Tables}
use Rattle.layout_face.specs.declared.parts.FaceParts.{FaceParts}
use Rattle.layout_face.specs.Glyphs.{nominal_glyph, width_of}
use Rattle.buffer_properties.specs.Properties.{is_mark_character}
use Rattle.buffer_glyphs.specs.Items.{Item, Position, zero_position}
use Rattle.buffer_glyphs.specs.declared.info.hb_glyph_info_t.{hb_glyph_info_t}
use Rattle.buffer_core.specs.Readings.{Read, BufferState}
use Rattle.buffer_core.specs.Segment.{after_guess_segment_properties}
use Rattle.buffer_core.specs.Sides.{Sides, all_glyphs}
use Rattle.buffer_properties.specs.declared.normal_mode.NormalizationMode.TheVariants as mode
use Rattle.shape_text.specs.NativeOrder.{runs_against, script_direction}
use Rattle.script_plan.specs.Rules.{Spans, plain_rules}
use Rattle.script_dispatch.specs.Dispatch.{shaper_of}
use Rattle.script_dispatch.specs.declared.any_shaper.hb_ot_any_shaper_t.TheVariants as any
use Rattle.shape_pipeline.specs.Reading.{reading}
use Rattle.shape_pipeline.specs.Results.{IsResultOf, IsShapedBy}
use Rattle.shape_pipeline.specs.Shaped.{by_text}
use Rattle.shape_pipeline.specs.Shaping.{Shaping}

-- a character is a space (general category Zs)
abbrev pub is_space_character : ℕ → Bool
is_space_character u = category_number (general_category u) == category_number SpaceSeparator

-- the font has a glyph of the character
abbrev pub has_glyph : FaceParts → ℕ → Bool
has_glyph font u = option_map_or (λ g. nat_le g 65535) (nominal_glyph u font) false

-- the character is one of the font's, and no mark, no space and no default ignorable
abbrev pub is_plain : FaceParts → ℕ → Bool
is_plain font u = scalar u && has_glyph font u && not (is_mark_character u) && not (is_space_character u) && not (is_default_ignorable_character u)

-- the writing does not run against a line from left to right: it runs so too, or no one way
abbrev pub RunsForth : Option Script → Type 0
RunsForth script = runs_against LeftToRight (script_direction script) ≡ false

-- a font without tables of layout, a plan that is for a line from left to right, against which the script does not run, and a shaper without hooks
pub record IsPlainShaping (p : Shaping) : Type 0 where
  pub gsub : p.font.gsub ≡ None
  pub gpos : p.choices.apply_gpos ≡ false
  pub classes : p.font.gdef.classes ≡ None
  pub synthesized : p.choices.fallback_glyph_classes ≡ true
  pub line : p.direction ≡ LeftToRight
  pub writing : RunsForth p.settings.script
  pub mode : p.traits.normalization ≡ mode.Auto
  pub rules : p.rules ≡ plain_rules

-- the font's glyph of a character, by its number
abbrev pub glyph_of : FaceParts → ℕ → ℕ
glyph_of font u = unwrap_or (nominal_glyph u font) 0

-- the position of a character: its glyph's advance, without offsets
abbrev pub position_of_character : FaceParts → ℕ → Position
position_of_character font u = record zero_position { x_advance = pos (width_of (glyph_of font u) font) }

-- the characters of a run
abbrev pub characters : BufferState → List ℕ
characters run = map (λ (x : Item). x.number) run.view.items

-- each character is shown as its glyph, in order, with the glyph's advance and without offsets
pub record ShowsGlyphs (p : Shaping) (run : BufferState) (r : Read) : Type 0 where
  pub is : reading p run ≡ Ok r
  pub glyphs : map (λ (x : Item). x.number) r.view.items ≡ map (glyph_of p.font) (characters run)
  pub positions : r.view.positions ≡ map (position_of_character p.font) (characters run)

-- law: every plain text that a buffer can hold shows its glyphs
abbrev pub PlainTextsShowGlyphs : Type 0
PlainTextsShowGlyphs = (p : Shaping) (run : BufferState) → IsPlainShaping p → run.view.direction ≡ LeftToRight → length run.view.items ≤ run.view.max_len → list_all (is_plain p.font) (characters run) ≡ true
    → (r : Read) × ShowsGlyphs p run r

-- ---- what `shape` leaves of such a text

-- the numbers of a buffer's characters, later of its glyphs
abbrev pub glyph_numbers : Sides → List ℕ
glyph_numbers s = map (λ (g : hb_glyph_info_t). g.glyph_id) (all_glyphs s)

-- a font without tables of layout, and a text whose script has the default shaper, or which has none, on a line from left to right, of characters that the font has and that are no marks, no spaces and not ignorable
pub record IsPlainText (font : FaceParts) (text : Sides) : Type 0 where
  pub gsub : font.gsub ≡ None
  pub gpos : font.gpos ≡ None
  pub classes : font.gdef.classes ≡ None
  pub line : text.direction ≡ LeftToRight
  pub shaper : shaper_of text.script LeftToRight None ≡ any.Default
  pub writing : RunsForth text.script
  pub characters : list_all (is_plain font) (glyph_numbers text) ≡ true
  -- so it is for each buffer: its call `len` says so
  pub room : length (all_glyphs text) ≤ text.max_len

-- each character is shown as its glyph, in order, with the glyph's width and no offset
pub record ShowsCharacters (font : FaceParts) (text result : Sides) : Type 0 where
  pub glyphs : glyph_numbers result ≡ map (glyph_of font) (glyph_numbers text)
  pub positions : result.positions ≡ map (position_of_character font) (glyph_numbers text)

-- so a plain text is shaped, whatever features are asked for, also on parts of it
abbrev pub PlainTextsAreShown : Type 0
PlainTextsAreShown = (font : FaceParts) (tables : Tables) (tags : List ℕ → List Tag) (spans : Spans) (features : List Feature) (text result : Sides) → IsPlainText font (after_guess_segment_properties text)
    → IsShapedBy (by_text font tables tags spans features (after_guess_segment_properties text)) (after_guess_segment_properties text) result → IsResultOf (after_guess_segment_properties text) result → ShowsCharacters font (after_guess_segment_properties text) result
