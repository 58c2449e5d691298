-- What a shaper does to a text, as rules.
use Rattle.std.specs.Prelude.{ℕ, ◌≡◌, ◌≤◌, ◌<◌, ◌+◌, List, length, map, Option}
use Rattle.script_categories.specs.declared.shaper.hb_ot_script_shaper_t.{hb_ot_script_shaper_t}
use Rattle.buffer_unicode_tables.specs.Expansion.{Splits}
use Rattle.buffer_unicode_tables.specs.Tables.{Tables, pair_of, split_of}
use Rattle.layout_face.specs.declared.parts.FaceParts.{FaceParts}
use Rattle.buffer_glyphs.specs.Items.{Item}
use Rattle.buffer_glyphs.specs.Events.{IsPlain}
use Rattle.buffer_parts.specs.Counts.{AreGiving, count_after}
use Rattle.buffer_parts.specs.Turns.{IsUnturned}
use Rattle.buffer_core.specs.Readings.{Stage, as_it_is}
use Rattle.buffer_stages.specs.Settings.{TextSettings}
use Rattle.buffer_stages.specs.Pauses.{Pauses}
use Rattle.buffer_parts.specs.Stages.{KeepsPartsInLine}
use Rattle.buffer_parts.specs.Alike.{DependsOnNoLength}
use Rattle.buffer_parts.specs.Counting.{CountsBudget}
use Rattle.buffer_glyphs.specs.Rewriting.{Arrangement, eventless_arrangement, shifted_event}

-- the end and the kind of the syllable that begins at an index, by the categories of all glyphs
abbrev pub Spans : Type 0
Spans = hb_ot_script_shaper_t → List ℕ → ℕ → ℕ × ℕ

-- the rules of a shaper for the texts of a plan; none depends on clusters, the cluster level or requests for glyph
-- flags
pub record ShaperRules : Type 0 where
  -- the stage on a text in its script's direction, before it is normalized
  pub preprocesses : FaceParts → Tables → TextSettings → Stage
  -- the halves of a character, the composition of two characters, and the shaper's order of a run of marks sorted by
  -- class
  pub splits : Tables → Splits
  pub composes : Tables → ℕ → ℕ → Option ℕ
  pub reorders : List Item → Arrangement
  -- the stage that sets masks of features that apply to some characters only
  pub sets_masks : FaceParts → Tables → TextSettings → Stage
  -- the stage of each pause, by its number
  pub pauses : FaceParts → Tables → Spans → TextSettings → Pauses
  -- the stage on glyphs in visual order
  pub postprocesses : FaceParts → TextSettings → Stage

-- the rules of a shaper without hooks: characters decompose and compose as Unicode says
abbrev pub plain_rules : ShaperRules
plain_rules = record {
  preprocesses = λ font t settings. as_it_is;
  splits = λ t. split_of t;
  composes = λ t. pair_of t;
  reorders = λ run. eventless_arrangement run;
  sets_masks = λ font t settings. as_it_is;
  pauses = λ font t spans settings n. as_it_is;
  postprocesses = λ font settings. as_it_is;
}

-- ---- clusters

-- an arrangement of a run of marks keeps the parts of a text wherever the run is: no event permutes glyphs without a merge or reverses the list, each replacement gives a glyph, and a list in which the run is keeps its count
pub record IsArrangedInLine (run : List Item) (a : Arrangement) : Type 0 where
  pub plain : IsPlain a.events
  pub unturned : IsUnturned a.events
  pub giving : AreGiving a.events
  pub counted : (from n : ℕ) → from + length run ≤ n → count_after (map (shifted_event from) a.events) n ≡ n

-- a syllable that begins inside a text ends after its start
abbrev pub EndAfterStart : Spans → Type 0
EndAfterStart spans = (shaper : hb_ot_script_shaper_t) (categories : List ℕ) (start : ℕ) → start < length categories → start < (spans shaper categories start).0

-- each rule of a shaper keeps the parts of a text and reverses no list, at the levels that keep clusters in order
pub record RulesKeepParts (rules : ShaperRules) : Type 0 where
  pub preprocesses : (font : FaceParts) (t : Tables) (settings : TextSettings) → KeepsPartsInLine (rules.preprocesses font t settings)
  pub reorders : (run : List Item) → IsArrangedInLine run (rules.reorders run)
  pub sets_masks : (font : FaceParts) (t : Tables) (settings : TextSettings) → KeepsPartsInLine (rules.sets_masks font t settings)
  pub pauses : (font : FaceParts) (t : Tables) (spans : Spans) (settings : TextSettings) (n : ℕ) → EndAfterStart spans → KeepsPartsInLine (rules.pauses font t spans settings n)
  pub postprocesses : (font : FaceParts) (settings : TextSettings) → KeepsPartsInLine (rules.postprocesses font settings)

-- ---- limits

-- the limit of length decides no more of a stage than whether it refuses, and the budget of nested lookups is only counted down
pub record DependsOnNoLimit (stage : Stage) : Type 0 where
  pub limit : DependsOnNoLength stage
  pub budget : CountsBudget stage

-- no rule of a shaper depends on a limit, or on the scratch flags that characters set
pub record RulesDependOnNoLimit (rules : ShaperRules) : Type 0 where
  pub preprocesses : (font : FaceParts) (t : Tables) (settings : TextSettings) → DependsOnNoLimit (rules.preprocesses font t settings)
  pub sets_masks : (font : FaceParts) (t : Tables) (settings : TextSettings) → DependsOnNoLimit (rules.sets_masks font t settings)
  pub pauses : (font : FaceParts) (t : Tables) (spans : Spans) (settings : TextSettings) (n : ℕ) → DependsOnNoLimit (rules.pauses font t spans settings n)
  pub postprocesses : (font : FaceParts) (settings : TextSettings) → DependsOnNoLimit (rules.postprocesses font settings)
