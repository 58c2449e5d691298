-- Clusters of buffers: of a text that was pushed once, and of the glyphs that it is shaped to.
use Rattle.std.specs.Prelude.{ℕ, ◌≡◌, ◌≢◌, ◌<◌, Bool, true, IsTrue, List, [], length, Ok}
use Rattle.std.specs.List.{All}
use Rattle.std.specs.Str.{chars}
use Rattle.buffer_common.specs.Direction.{is_backward}
use Rattle.buffer_glyphs.specs.EventParts.{parts_of}
use Rattle.buffer_glyphs.specs.Items.{clusters}
use Rattle.buffer_common.specs.declared.tag.Tag.{Tag}
use Rattle.buffer_tags.specs.declared.feature.Feature.{Feature}
use Rattle.buffer_unicode_tables.specs.Lawful.{IsLawful}
use Rattle.buffer_unicode_tables.specs.Tables.{Tables}
use Rattle.layout_face.specs.declared.parts.FaceParts.{FaceParts}
use Rattle.buffer_glyphs.specs.Order.{BringsNone, IsInOrder, IsLeast, IsRising, has_number}
use Rattle.buffer_parts.specs.CharacterParts.{AreUnitedByEvents}
use Rattle.buffer_parts.specs.Slices.{ShareSlice, slices}
use Rattle.buffer_glyphs.specs.Parts.{after_part_events}
use Rattle.buffer_core.specs.Readings.{IsMonotone, Read}
use Rattle.buffer_core.specs.Segment.{after_guess_segment_properties}
use Rattle.buffer_core.specs.Sides.{Sides, all_glyphs, state_of, view_of, with_added}
use Rattle.buffer_core.specs.Text.{added_text}
use Rattle.script_dispatch.specs.Requests.{any_kind}
use Rattle.script_dispatch.specs.Shapers.{keeps_order}
use Rattle.script_plan.specs.Plans.{planned_shaper}
use Rattle.script_plan.specs.Rules.{EndAfterStart, Spans}
use Rattle.shape_pipeline.specs.Reading.{before_ranges, clusters_after}
use Rattle.shape_pipeline.specs.Results.{IsShapedBy}
use Rattle.shape_pipeline.specs.Shaped.{by_text, language_tags, text_reading}
use Rattle.shape_pipeline.specs.Shaping.{Shaping}
use Rattle.shape_slices.specs.declared.slices.SourceSlice.{SourceSlice}
use Rattle.shape_slices.specs.Laws.{HasOneFlagSet}
use Rattle.shape_slices.specs.Runs.{AreSourceSlices}
use Rattle.shape_slices.specs.Fitting.{SlicesFit, character_starts}
use Rattle.shape_parts.specs.Premises.{IsPushedOnce, RulesCountItems, RulesKeepDirection, ShapingKeepsParts}

-- ---- a text pushed once

-- the bytes at which characters begin rise, and the first is 0
abbrev pub StartsRise : Type 0
StartsRise = (text : List ℕ) → IsRising (character_starts text) × (chars text ≢ [] → IsLeast 0 (character_starts text))

-- a text that `push_str` appends to a buffer without characters is pushed once
abbrev pub PushedTextsArePushedOnce : Type 0
PushedTextsArePushedOnce = (text : List ℕ) (s : Sides) → all_glyphs s ≡ [] → IsPushedOnce text (with_added (added_text text) s)

-- guessing a text's direction and script changes no cluster
abbrev pub GuessingKeepsClusters : Type 0
GuessingKeepsClusters = (s : Sides) → clusters (all_glyphs (after_guess_segment_properties s)) ≡ clusters (all_glyphs s)

-- ---- glyphs of a text

-- each glyph of a shaped text has the cluster of its part
abbrev pub ShapedClustersAreParts : Type 0
ShapedClustersAreParts = (p : Shaping) (text result : Sides) (r : Read) (falls : Bool) → ShapingKeepsParts p → IsMonotone text.level → IsInOrder falls (clusters (all_glyphs text)) → text_reading p (state_of text) ≡ Ok r → IsShapedBy p text result
    → clusters (all_glyphs result) ≡ after_part_events (parts_of text.level (r.events text.level)) (clusters (all_glyphs text))

-- the clusters of a text that rise never fall along a forward line, and never rise along a backward one
abbrev pub ShapedClustersStandInLine : Type 0
ShapedClustersStandInLine = (p : Shaping) (text result : Sides) → ShapingKeepsParts p → RulesKeepDirection p.rules → IsMonotone text.level → IsRising (clusters (all_glyphs text)) → text.direction ≡ p.direction → IsShapedBy p text result
    → IsInOrder (is_backward p.direction) (clusters (all_glyphs result))

-- the least cluster of a text stays while a glyph is left
abbrev pub ShapedTextsKeepLeast : Type 0
ShapedTextsKeepLeast = (p : Shaping) (text result : Sides) (falls : Bool) (m : ℕ) → ShapingKeepsParts p → IsMonotone text.level → IsInOrder falls (clusters (all_glyphs text)) → IsShapedBy p text result → all_glyphs result ≢ [] → IsLeast m (clusters (all_glyphs text))
    → IsLeast m (clusters (all_glyphs result))

-- the glyphs of a text that was pushed once fit it, while one is left: `slices_fit` is true of them
abbrev pub ShapedTextsFit : Type 0
ShapedTextsFit = (p : Shaping) (bytes : List ℕ) (text result : Sides) → ShapingKeepsParts p → IsMonotone text.level → IsPushedOnce bytes text → IsShapedBy p text result → all_glyphs result ≢ [] → SlicesFit result bytes

-- two characters of a shaped text share a slice only where a join united their parts, or a deletion took the last glyph of one
abbrev pub ShapedSlicesAreNoCoarser : Type 0
ShapedSlicesAreNoCoarser = (p : Shaping) (bytes : List ℕ) (text result : Sides) (r : Read) (m n : ℕ) → ShapingKeepsParts p → IsMonotone text.level → IsPushedOnce bytes text → text_reading p (state_of text) ≡ Ok r → IsShapedBy p text result → all_glyphs result ≢ []
    → IsTrue (has_number (character_starts bytes) m) → IsTrue (has_number (character_starts bytes) n) → m < length bytes → n < length bytes → m ≢ n → ShareSlice (slices (clusters (all_glyphs result)) (length bytes)) m n
    → AreUnitedByEvents (parts_of text.level (r.events text.level)) (character_starts bytes) m n

-- each run of glyphs of a shaped text has one set of glyph flags
abbrev pub ShapedRunsHaveOneFlagSet : Type 0
ShapedRunsHaveOneFlagSet = (p : Shaping) (text result : Sides) (end : ℕ) (ss : List SourceSlice) → IsShapedBy p text result → AreSourceSlices (clusters (all_glyphs result)) end ss → All (HasOneFlagSet (all_glyphs result)) ss

-- ---- without a plan

-- a text that is shaped without a plan, by lawful tables, is shaped by what keeps its parts, where its shaper keeps the order of clusters and each syllable that the machines find ends after its start
abbrev pub ShapersKeepParts : Type 0
ShapersKeepParts = (font : FaceParts) (tables : Tables) (tags : List ℕ → List Tag) (spans : Spans) (features : List Feature) (text : Sides) → IsLawful tables → EndAfterStart spans
    → keeps_order (planned_shaper any_kind font (language_tags tags text) text.direction text.script) ≡ true → ShapingKeepsParts (by_text font tables tags spans features text)

-- no shaper of this stack changes the direction of a text before its glyphs are put in visual order
abbrev pub ShapersKeepDirection : Type 0
ShapersKeepDirection = (font : FaceParts) (tables : Tables) (tags : List ℕ → List Tag) (spans : Spans) (features : List Feature) (text : Sides) → RulesKeepDirection (by_text font tables tags spans features text).rules

-- the rules of every shaper of this stack, before the masks of ranges, leave a glyph for each item
abbrev pub ShapersCountItems : Type 0
ShapersCountItems = (font : FaceParts) (tables : Tables) (tags : List ℕ → List Tag) (spans : Spans) (features : List Feature) (text : Sides) → RulesCountItems (by_text font tables tags spans features text).rules

-- at every level and whatever its shaper, the clusters that the masks of ranges of a text read are clusters of the text, one for each item at that step
abbrev pub TextRangesReadNumbers : Type 0
TextRangesReadNumbers = (font : FaceParts) (tables : Tables) (tags : List ℕ → List Tag) (spans : Spans) (features : List Feature) (text : Sides) (r : Read) → before_ranges (by_text font tables tags spans features text) (view_of text) ≡ Ok r
    → BringsNone (clusters (all_glyphs text)) (clusters_after (before_ranges (by_text font tables tags spans features text) (view_of text)) (state_of text))
    × (length (clusters_after (before_ranges (by_text font tables tags spans features text) (view_of text)) (state_of text)) ≡ length r.view.items)
