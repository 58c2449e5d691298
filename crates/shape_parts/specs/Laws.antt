-- Clusters of a text that is shaped: they are the parts that its joins and deletions leave.
use Rattle.std.specs.Prelude.{ℕ, ◌≡◌, ◌≢◌, ◌<◌, Bool, false, IsTrue, List, [], length, Ok}
use Rattle.buffer_common.specs.Direction.{is_backward}
use Rattle.buffer_glyphs.specs.EventParts.{parts_of}
use Rattle.buffer_glyphs.specs.Order.{BringsNone, IsInOrder, IsLeast, has_number}
use Rattle.buffer_glyphs.specs.Origins.{numbers}
use Rattle.buffer_glyphs.specs.Parts.{after_part_events}
use Rattle.buffer_parts.specs.CharacterParts.{AreUnitedByEvents}
use Rattle.buffer_parts.specs.Fits.{FitsText}
use Rattle.buffer_parts.specs.Slices.{ShareSlice, slices}
use Rattle.buffer_core.specs.Readings.{BufferState, Read, state_after}
use Rattle.buffer_parts.specs.Stages.{KeepsParts}
use Rattle.shape_parts.specs.Lines.{KeepsPartsOnLine}
use Rattle.shape_pipeline.specs.Characters.{text_begun}
use Rattle.shape_pipeline.specs.Reading.{before_ranges, clusters_after, shaping_stage}
use Rattle.shape_pipeline.specs.Shaped.{text_reading}
use Rattle.shape_pipeline.specs.Shaping.{Shaping}
use Rattle.shape_parts.specs.Premises.{HasOrderedClusters, RulesCountItems, RulesKeepDirection, ShapingKeepsParts}

-- ---- stages

-- the first pipeline stage keeps the parts of a text, and the order of its clusters along the line
abbrev pub BegunTextsKeepParts : Type 0
BegunTextsKeepParts = (p : Shaping) → ShapingKeepsParts p → KeepsPartsOnLine (text_begun p)

-- all pipeline stages keep the parts of a text, whatever clusters the masks of ranges read
abbrev pub ShapingKeepsTextParts : Type 0
ShapingKeepsTextParts = (p : Shaping) (clusters : List ℕ) → ShapingKeepsParts p → KeepsParts (shaping_stage p clusters)

-- ---- the result

-- each glyph of a result has the cluster of its part: the parts are those that the joins and deletions of the reading leave of the text's
abbrev pub ClustersAreParts : Type 0
ClustersAreParts = (p : Shaping) (text : BufferState) (r : Read) (falls : Bool) → ShapingKeepsParts p → HasOrderedClusters falls text → text_reading p text ≡ Ok r
    → (numbers (state_after r text).origins ≡ after_part_events (parts_of text.level (r.events text.level)) (numbers text.origins)) × (length (state_after r text).origins ≡ length r.view.items)

-- clusters that rose in the text never fall where the line runs forward, and never rise where it runs backward
abbrev pub ClustersStandInLine : Type 0
ClustersStandInLine = (p : Shaping) (text : BufferState) (r : Read) → ShapingKeepsParts p → RulesKeepDirection p.rules → HasOrderedClusters false text → text.view.direction ≡ p.direction → text_reading p text ≡ Ok r
    → IsInOrder (is_backward p.direction) (numbers (state_after r text).origins)

-- while a glyph is left, the least cluster is among those of the result, and none is less
abbrev pub LeastClusterStays : Type 0
LeastClusterStays = (p : Shaping) (text : BufferState) (r : Read) (falls : Bool) (m : ℕ) → ShapingKeepsParts p → HasOrderedClusters falls text → text_reading p text ≡ Ok r → r.view.items ≢ [] → IsLeast m (numbers text.origins)
    → IsLeast m (numbers (state_after r text).origins)

-- while a glyph is left, the clusters of a result are ordered, are among those of the text, and have 0 where the text has it
abbrev pub ClustersFitText : Type 0
ClustersFitText = (p : Shaping) (text : BufferState) (r : Read) (falls : Bool) → ShapingKeepsParts p → HasOrderedClusters falls text → text_reading p text ≡ Ok r → r.view.items ≢ [] → IsTrue (has_number (numbers text.origins) 0)
    → FitsText (numbers text.origins) (numbers (state_after r text).origins)

-- two characters share a slice of a result only where a join united their parts, or a deletion took the last glyph of one
abbrev pub SlicesAreNoCoarserThanParts : Type 0
SlicesAreNoCoarserThanParts = (p : Shaping) (text : BufferState) (r : Read) (falls : Bool) (end m n : ℕ) → ShapingKeepsParts p → HasOrderedClusters falls text → text_reading p text ≡ Ok r → r.view.items ≢ []
    → IsTrue (has_number (numbers text.origins) m) → IsTrue (has_number (numbers text.origins) n) → m < end → n < end → m ≢ n → ShareSlice (slices (numbers (state_after r text).origins) end) m n
    → AreUnitedByEvents (parts_of text.level (r.events text.level)) (numbers text.origins) m n

-- ---- the clusters that the masks of ranges read

-- the clusters that the masks of ranges read are the numbers of the parts at that step, one for each item
abbrev pub RangesReadParts : Type 0
RangesReadParts = (p : Shaping) (text : BufferState) (r : Read) (falls : Bool) → ShapingKeepsParts p → HasOrderedClusters falls text → before_ranges p text.view ≡ Ok r
    → (clusters_after (before_ranges p text.view) text ≡ after_part_events (parts_of text.level (r.events text.level)) (numbers text.origins)) × (length (clusters_after (before_ranges p text.view) text) ≡ length r.view.items)

-- at every level and for every shaper each cluster that the masks of ranges read is one of the text; and where the text has as many clusters as characters, and the shaper's rules before leave a glyph for each item, there is one for each item at that step
abbrev pub RangesReadNumbers : Type 0
RangesReadNumbers = (p : Shaping) (text : BufferState) → BringsNone (numbers text.origins) (clusters_after (before_ranges p text.view) text)
    × ((r : Read) → RulesCountItems p.rules → length text.origins ≡ length text.view.items → before_ranges p text.view ≡ Ok r → length (clusters_after (before_ranges p text.view) text) ≡ length r.view.items)
