-- Two canonically equivalent texts, and what has to hold of them.
use Rattle.std.specs.Prelude.{ℕ, ◌≡◌, true, false, List, map}
use Rattle.buffer_common.specs.declared.direction.Direction.TheVariants.{LeftToRight}
use Rattle.buffer_common.specs.declared.tag.Tag.{Tag}
use Rattle.buffer_tags.specs.declared.feature.Feature.{Feature}
use Rattle.buffer_glyphs.specs.declared.info.hb_glyph_info_t.{hb_glyph_info_t}
use Rattle.buffer_glyphs.specs.Items.{Item, without_flags}
use Rattle.buffer_core.specs.Sides.{Sides, all_glyphs}
use Rattle.buffer_stages.specs.Settings.{text_settings}
use Rattle.buffer_unicode_tables.specs.Expansion.{EndWithin}
use Rattle.buffer_unicode_tables.specs.Lawful.{IsLawful}
use Rattle.buffer_unicode_tables.specs.Tables.{SplitsCharacters, Tables, split_of}
use Rattle.buffer_unicode_tables.specs.Texts.{AreEquivalent}
use Rattle.buffer_wrappers.specs.Wrappers.{IsText}
use Rattle.layout_face.specs.declared.parts.FaceParts.{FaceParts}
use Rattle.script_dispatch.specs.Requests.{any_kind}
use Rattle.script_plan.specs.Plans.{planned_shaper}
use Rattle.script_plan.specs.Rules.{Spans}
use Rattle.shape_premises.specs.Texts.{IsRegularText}
use Rattle.shape_text.specs.NativeOrder.{runs_against, script_direction}
use Rattle.shape_pipeline.specs.ReadingLaws.{have_no_ranges}
use Rattle.shape_pipeline.specs.Shaped.{by_text, language_tags}
use Rattle.shape_pipeline.specs.Shaping.{Shaping}
use Rattle.shape_laws.specs.Shapers.{keeps_equivalence}
use Rattle.shape_laws.specs.Stages.{AppliesNested, allows, budget_of}

-- the characters of a text
abbrev pub text_characters : Sides → List ℕ
text_characters text = map (λ (g : hb_glyph_info_t). g.glyph_id) (all_glyphs text)

-- an item of a text after the first stage, but for its character and that character's properties: it has the mask of the
-- features for all glyphs
abbrev pub begun_item : ℕ → Item
begun_item mask = record {
  number = 0;
  glyph_index = 0;
  unicode_props = 0;
  class = 0;
  glyph_props = 0;
  lig_props = 0;
  syllable = 0;
  category = 0;
  auxiliary = 0;
  mask = without_flags mask;
}

-- a text of appended characters, on a line from left to right, against which its script does not run
pub record RunsFromLeft (text : Sides) : Type 0 where
  pub is_text : IsText text
  pub line : text.direction ≡ LeftToRight
  pub writing : runs_against LeftToRight (script_direction text.script) ≡ false

-- tables are lawful, chains of their decompositions end within eight steps, and they decompose characters alone: so are
-- those that `UnicodeTables::new` or `of_records` makes and in which `law_fault` finds no fault
pub record AreLawfulTables (t : Tables) : Type 0 where
  pub lawful : IsLawful t
  pub shallow : EndWithin (split_of t) 8
  pub characters : SplitsCharacters t

-- two texts that are shaped by one `Shaping`: both on a line from left to right, with the same settings
pub record AreOneShaping (p : Shaping) (a b : Sides) : Type 0 where
  pub line : p.direction ≡ LeftToRight
  pub first_runs : RunsFromLeft a
  pub second_runs : RunsFromLeft b
  pub first_settings : p.settings ≡ text_settings a
  pub second_settings : p.settings ≡ text_settings b

-- two canonically equivalent texts with marks, in whose decompositions the font has every character
pub record AreEquivalentTexts (font : FaceParts) (t : Tables) (a b : Sides) : Type 0 where
  pub tables : AreLawfulTables t
  pub equivalent : AreEquivalent t (text_characters a) (text_characters b)
  pub first : IsRegularText font t (text_characters a)
  pub second : IsRegularText font t (text_characters b)

-- a text's budget allows the nested lookups that its reading applies
pub record HasEnoughBudget (p : Shaping) (text : Sides) : Type 0 where
  pub count : ℕ
  pub nests : AppliesNested p text count
  pub allowed : allows (budget_of text) count ≡ true

-- two canonically equivalent texts, to be shaped by the universal or the Myanmar shaper with the same settings and
-- features for the whole text
pub record ArePair (font : FaceParts) (tables : Tables) (tags : List ℕ → List Tag) (spans : Spans) (features : List Feature) (a b : Sides) : Type 0 where
  pub texts : AreEquivalentTexts font tables a b
  pub first_runs : RunsFromLeft a
  pub second_runs : RunsFromLeft b
  pub settings : text_settings a ≡ text_settings b
  pub language : a.language ≡ b.language
  pub ranges : have_no_ranges features ≡ true
  pub shaper : keeps_equivalence (planned_shaper any_kind font (language_tags tags a) a.direction a.script) ≡ true
  pub first_nests : HasEnoughBudget (by_text font tables tags spans features a) a
  pub second_nests : HasEnoughBudget (by_text font tables tags spans features b) b
