-- Laws of canonically equivalent texts.
use Rattle.std.specs.Prelude.{ℕ, suc, pos, ◌≡◌, true, false, List, [], Ok, chars}
use Rattle.buffer_common.specs.declared.direction.Direction.TheVariants.{LeftToRight}
use Rattle.buffer_common.specs.declared.tag.Tag.{Tag}
use Rattle.buffer_tags.specs.declared.feature.Feature.{Feature}
use Rattle.buffer_core.specs.Readings.{Read}
use Rattle.buffer_core.specs.Segment.{after_guess_segment_properties}
use Rattle.buffer_core.specs.Sides.{Sides, all_glyphs, state_of, view_of, with_added}
use Rattle.buffer_core.specs.Text.{added_text}
use Rattle.buffer_properties.specs.Characters.{characters_of, items_of_text}
use Rattle.buffer_properties.specs.Premises.{HasNoSelector, HasShortRuns}
use Rattle.buffer_stages.specs.Settings.{text_settings}
use Rattle.buffer_unicode_tables.specs.Tables.{Tables, class_of}
use Rattle.buffer_unicode_tables.specs.Texts.{AreEquivalent, full_text}
use Rattle.layout_face.specs.declared.parts.FaceParts.{FaceParts}
use Rattle.script_dispatch.specs.Requests.{any_kind}
use Rattle.script_plan.specs.Plans.{planned_shaper}
use Rattle.script_plan.specs.Rules.{RulesDependOnNoLimit, Spans}
use Rattle.shape_premises.specs.Texts.{starts_with_mark}
use Rattle.shape_pipeline.specs.Budget.{budget_left}
use Rattle.shape_pipeline.specs.Characters.{text_begun}
use Rattle.shape_pipeline.specs.ReadingLaws.{have_no_ranges}
use Rattle.shape_pipeline.specs.Results.{AreSameItems, IsShapedBy}
use Rattle.shape_pipeline.specs.Shaped.{by_text, language_tags, text_reading}
use Rattle.shape_pipeline.specs.Shaping.{Shaping}
use Rattle.shape_laws.specs.Shapers.{NormalizesAsUnicode, keeps_equivalence}
use Rattle.shape_laws.specs.Stages.{budget_of, characters_stage}
use Rattle.shape_laws.specs.Texts.{AreEquivalentTexts, AreLawfulTables, AreOneShaping, ArePair, HasEnoughBudget, RunsFromLeft, begun_item, text_characters}

-- ---- the characters

-- law: the characters of a text that was pushed into an empty buffer, also where direction and script are then guessed
abbrev pub PushedTextsHaveCharacters : Type 0
PushedTextsHaveCharacters = (text : List ℕ) (s : Sides) → all_glyphs s ≡ [] → text_characters (after_guess_segment_properties (with_added (added_text text) s)) ≡ chars text

-- law: a text on a line from left to right whose first character is no mark begins as the items of its characters
abbrev pub TextsBeginAsItems : Type 0
TextsBeginAsItems = (p : Shaping) (text : Sides) (r : Read) → RunsFromLeft text → p.settings ≡ text_settings text → starts_with_mark (text_characters text) ≡ false → text_begun p (view_of text) ≡ Ok r
    → (r.view.items ≡ items_of_text p.tables (begun_item p.map.global_mask) (text_characters text)) × (r.view.max_ops ≡ budget_of text)

-- the characters of two texts are chosen alike: items, positions and all that later stages read but the limits
pub record AreChosenAlike (r s : Read) : Type 0 where
  pub items : r.view.items ≡ s.view.items
  pub positions : r.view.positions ≡ s.view.positions
  pub lig_id : r.view.lig_id ≡ s.view.lig_id
  pub random : r.view.random ≡ s.view.random
  pub direction : r.view.direction ≡ s.view.direction

-- law: equivalent texts have one normalised list, for each shaper that normalizes as Unicode does
abbrev pub EquivalentsAreChosenAlike : Type 0
EquivalentsAreChosenAlike = (p : Shaping) (a b : Sides) (r s : Read) → AreOneShaping p a b → AreEquivalentTexts p.font p.tables a b → NormalizesAsUnicode p.traits p.rules
    → characters_stage p (view_of a) ≡ Ok r → characters_stage p (view_of b) ≡ Ok s → AreChosenAlike r s

-- law: the characters that normalizing leaves are equivalent to those of the text, where none is a variation selector and no
-- run of marks is longer than is sorted
abbrev pub ChosenTextsAreEquivalent : Type 0
ChosenTextsAreEquivalent = (p : Shaping) (text : Sides) (r : Read) → AreLawfulTables p.tables → NormalizesAsUnicode p.traits p.rules → p.direction ≡ LeftToRight → RunsFromLeft text → p.settings ≡ text_settings text
    → starts_with_mark (text_characters text) ≡ false → HasNoSelector (text_characters text) → HasShortRuns (class_of p.tables) 0 (full_text p.tables (text_characters text))
    → characters_stage p (view_of text) ≡ Ok r → AreEquivalent p.tables (text_characters text) (characters_of r.view.items)

-- ---- the budget

-- law: a text that is read within its budget, with some of it left, has enough of it, for each shaper that normalizes as
-- Unicode does and of whose rules none depends on a limit
abbrev pub ReadTextsHaveEnoughBudget : Type 0
ReadTextsHaveEnoughBudget = (p : Shaping) (text : Sides) (k : ℕ) → p.direction ≡ LeftToRight → RunsFromLeft text → p.settings ≡ text_settings text → starts_with_mark (text_characters text) ≡ false → NormalizesAsUnicode p.traits p.rules
    → RulesDependOnNoLimit p.rules → have_no_ranges p.features ≡ true → budget_left p (state_of text) ≡ Ok (pos (suc k)) → HasEnoughBudget p text

-- law: so has a text under the universal and the Myanmar shaper
abbrev pub TextsHaveEnoughBudget : Type 0
TextsHaveEnoughBudget = (font : FaceParts) (tables : Tables) (tags : List ℕ → List Tag) (spans : Spans) (features : List Feature) (text : Sides) (k : ℕ) → RunsFromLeft text → starts_with_mark (text_characters text) ≡ false → have_no_ranges features ≡ true
    → keeps_equivalence (planned_shaper any_kind font (language_tags tags text) text.direction text.script) ≡ true → budget_left (by_text font tables tags spans features text) (state_of text) ≡ Ok (pos (suc k)) → HasEnoughBudget (by_text font tables tags spans features text) text

-- ---- the glyphs

-- two readings have the same glyphs at the same positions, on lines of one direction
pub record AreReadAlike (r s : Read) : Type 0 where
  pub items : r.view.items ≡ s.view.items
  pub positions : r.view.positions ≡ s.view.positions
  pub direction : r.view.direction ≡ s.view.direction

-- law: canonically equivalent texts have the same glyphs at the same positions, for each shaper that normalizes as Unicode
-- does and of whose rules none depends on a limit
abbrev pub EquivalentsReadAlike : Type 0
EquivalentsReadAlike = (p : Shaping) (a b : Sides) (r s : Read) → AreOneShaping p a b → AreEquivalentTexts p.font p.tables a b → NormalizesAsUnicode p.traits p.rules → RulesDependOnNoLimit p.rules → have_no_ranges p.features ≡ true
    → HasEnoughBudget p a → HasEnoughBudget p b → text_reading p (state_of a) ≡ Ok r → text_reading p (state_of b) ≡ Ok s → AreReadAlike r s

-- law: and so do their results show, by a plan or without one
abbrev pub EquivalentResultsAgree : Type 0
EquivalentResultsAgree = (p : Shaping) (a b x y : Sides) → AreOneShaping p a b → AreEquivalentTexts p.font p.tables a b → NormalizesAsUnicode p.traits p.rules → RulesDependOnNoLimit p.rules → have_no_ranges p.features ≡ true
    → HasEnoughBudget p a → HasEnoughBudget p b → IsShapedBy p a x → IsShapedBy p b y → AreSameItems x y

-- law: equivalent texts have so under the universal and the Myanmar shaper
abbrev pub EquivalentsShapeAlike : Type 0
EquivalentsShapeAlike = (font : FaceParts) (tables : Tables) (tags : List ℕ → List Tag) (spans : Spans) (features : List Feature) (a b : Sides) (r s : Read) → ArePair font tables tags spans features a b
    → text_reading (by_text font tables tags spans features a) (state_of a) ≡ Ok r → text_reading (by_text font tables tags spans features b) (state_of b) ≡ Ok s → AreReadAlike r s

-- law: and so show the results of `shape`, where direction and script are guessed if they were not set
abbrev pub EquivalentsLookAlike : Type 0
EquivalentsLookAlike = (font : FaceParts) (tables : Tables) (tags : List ℕ → List Tag) (spans : Spans) (features : List Feature) (a b x y : Sides)
    → ArePair font tables tags spans features (after_guess_segment_properties a) (after_guess_segment_properties b)
    → IsShapedBy (by_text font tables tags spans features (after_guess_segment_properties a)) (after_guess_segment_properties a) x
    → IsShapedBy (by_text font tables tags spans features (after_guess_segment_properties b)) (after_guess_segment_properties b) y → AreSameItems x y
