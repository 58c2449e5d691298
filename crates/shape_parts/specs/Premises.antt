-- What clusters stay in order of: a text, and all that it is shaped by.
use Rattle.std.specs.Prelude.{ℕ, ◌≡◌, Bool, List, length, Ok}
use Rattle.buffer_unicode_tables.specs.Lawful.{IsLawful}
use Rattle.buffer_unicode_tables.specs.Tables.{Tables}
use Rattle.buffer_glyphs.specs.Items.{Item, clusters}
use Rattle.buffer_glyphs.specs.Order.{IsInOrder}
use Rattle.buffer_glyphs.specs.Origins.{numbers}
use Rattle.buffer_glyphs.specs.declared.level.BufferClusterLevel.{BufferClusterLevel}
use Rattle.buffer_parts.specs.Counts.{count_after}
use Rattle.buffer_core.specs.Readings.{BufferState, IsMonotone, Read, Stage, View}
use Rattle.buffer_core.specs.Sides.{Sides, all_glyphs}
use Rattle.buffer_stages.specs.Settings.{TextSettings}
use Rattle.layout_face.specs.declared.parts.FaceParts.{FaceParts}
use Rattle.script_plan.specs.Rules.{EndAfterStart, IsArrangedInLine, RulesKeepParts, ShaperRules, Spans}
use Rattle.shape_parts.specs.Lines.{KeepsDirection}
use Rattle.shape_pipeline.specs.Shaping.{Shaping}
use Rattle.shape_slices.specs.Fitting.{character_starts}

-- what a text is shaped by keeps the parts of texts: the tables are lawful; each rule of the shaper keeps parts, and its order of a run of marks keeps their count; and each syllable that the machines find ends after its start
pub record ShapingKeepsParts (p : Shaping) : Type 0 where
  pub tables : IsLawful p.tables
  pub rules : RulesKeepParts p.rules
  pub counts : (run : List Item) → length (p.rules.reorders run).items ≡ length run
  pub spans : EndAfterStart p.spans

-- a stage leaves as many glyphs as the items that it gives
abbrev pub CountsItems : Stage → Type 0
CountsItems stage = (v : View) (r : Read) (level : BufferClusterLevel) → stage v ≡ Ok r → count_after (r.events level) (length v.items) ≡ length r.view.items

-- the rules of a shaper before the masks of ranges leave a glyph for each item: each of its two stages does; and its order of a run of marks keeps their parts and their count
pub record RulesCountItems (rules : ShaperRules) : Type 0 where
  pub preprocesses : (font : FaceParts) (t : Tables) (settings : TextSettings) → CountsItems (rules.preprocesses font t settings)
  pub reorders : (run : List Item) → IsArrangedInLine run (rules.reorders run)
  pub counts : (run : List Item) → length (rules.reorders run).items ≡ length run
  pub sets_masks : (font : FaceParts) (t : Tables) (settings : TextSettings) → CountsItems (rules.sets_masks font t settings)

-- no rule of a shaper changes the direction of a text before its glyphs are put in visual order
pub record RulesKeepDirection (rules : ShaperRules) : Type 0 where
  pub preprocesses : (font : FaceParts) (t : Tables) (settings : TextSettings) → KeepsDirection (rules.preprocesses font t settings)
  pub sets_masks : (font : FaceParts) (t : Tables) (settings : TextSettings) → KeepsDirection (rules.sets_masks font t settings)
  pub pauses : (font : FaceParts) (t : Tables) (spans : Spans) (settings : TextSettings) (n : ℕ) → KeepsDirection (rules.pauses font t spans settings n)

-- a text has as many clusters as characters; they never fall, or where `falls` never rise; and its level keeps them so
pub record HasOrderedClusters (falls : Bool) (text : BufferState) : Type 0 where
  pub level : IsMonotone text.level
  pub order : IsInOrder falls (numbers text.origins)
  pub counted : length text.origins ≡ length text.view.items

-- the glyphs of a buffer are the characters of a text that was pushed once into an empty buffer: each is in the cluster of the byte at which it begins
abbrev pub IsPushedOnce : List ℕ → Sides → Type 0
IsPushedOnce text s = clusters (all_glyphs s) ≡ character_starts text
