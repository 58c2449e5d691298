-- What the slices of a result show of the text that was shaped, by premises that a caller of `shape` can test.
use Rattle.std.specs.Prelude.{ℕ, ◌≡◌, ◌≢◌, ◌⊎◌, ◌↔◌, true, IsTrue, List, [], length, map, Ok}
use Rattle.std.specs.List.{All}
use Rattle.std.specs.Str.{IsUtf8}
use Rattle.buffer_common.specs.Direction.{is_backward}
use Rattle.buffer_common.specs.declared.tag.Tag.{Tag}
use Rattle.buffer_tags.specs.declared.feature.Feature.{Feature}
use Rattle.buffer_glyphs.specs.EventParts.{parts_of}
use Rattle.buffer_glyphs.specs.Items.{clusters}
use Rattle.buffer_glyphs.specs.Order.{has_number}
use Rattle.buffer_parts.specs.CharacterParts.{AreUnitedByEvents}
use Rattle.buffer_parts.specs.Slices.{AreJoined, ShareSlice, text_of_slices}
use Rattle.buffer_unicode_tables.specs.Lawful.{IsLawful}
use Rattle.buffer_unicode_tables.specs.Tables.{Tables}
use Rattle.buffer_core.specs.Readings.{IsMonotone, Read}
use Rattle.buffer_core.specs.Segment.{after_guess_segment_properties}
use Rattle.buffer_core.specs.Sides.{Sides, all_glyphs, state_of}
use Rattle.layout_face.specs.declared.parts.FaceParts.{FaceParts}
use Rattle.script_dispatch.specs.Requests.{any_kind}
use Rattle.script_dispatch.specs.Shapers.{keeps_order}
use Rattle.script_plan.specs.Plans.{planned_shaper}
use Rattle.script_plan.specs.Rules.{Spans}
use Rattle.shape_pipeline.specs.Results.{IsShapedBy}
use Rattle.shape_pipeline.specs.Shaped.{by_text, language_tags, text_reading}
use Rattle.shape_pipeline.specs.Shaping.{Shaping}
use Rattle.shape_slices.specs.declared.slices.SourceSlice.{SourceSlice}
use Rattle.shape_slices.specs.Fitting.{SlicesFit, character_starts}
use Rattle.shape_slices.specs.Laws.{HasOneFlagSet}
use Rattle.shape_slices.specs.Runs.{AreSourceSlices, along_glyphs, byte_range}
use Rattle.shape_parts.specs.Premises.{IsPushedOnce}

-- what a caller tests of a text whose direction and script are known: its bytes are UTF-8 and were pushed once, its level is monotone, the tables are lawful, and its shaper keeps the order of clusters
pub record IsSourceText (font : FaceParts) (tables : Tables) (tags : List ℕ → List Tag) (bytes : List ℕ) (text : Sides) : Type 0 where
  pub utf8 : IsUtf8 bytes
  pub once : IsPushedOnce bytes text
  pub level : IsMonotone text.level
  pub lawful : IsLawful tables
  pub shaper : keeps_order (planned_shaper any_kind font (language_tags tags text) text.direction text.script) ≡ true

-- two characters, by the bytes at which they begin, are one, or some join or deletion of the text's reading unites their parts
abbrev pub AreOfOnePart : Shaping → List ℕ → Sides → ℕ → ℕ → Type 0
AreOfOnePart p bytes text m n = (m ≡ n) ⊎ ((r : Read) × (text_reading p (state_of text) ≡ Ok r) × AreUnitedByEvents (parts_of text.level (r.events text.level)) (character_starts bytes) m n)

-- the slices of a result in the order of the text: from its last glyph where the line runs backward
abbrev pub slices_in_text : Shaping → List SourceSlice → List (ℕ × ℕ)
slices_in_text p ss = along_glyphs (is_backward p.direction) (map byte_range ss)

-- the slices of a result are those of its text
pub record AreSlicesOf (p : Shaping) (bytes : List ℕ) (text result : Sides) (ss : List SourceSlice) : Type 0 where
  -- along the line they join to the whole text, without a gap, an overlap or an empty slice
  pub joined : AreJoined 0 (length bytes) (slices_in_text p ss)
  pub whole : text_of_slices bytes (slices_in_text p ss) ≡ bytes
  -- all glyphs of a run have the same glyph flags
  pub flags : All (HasOneFlagSet (all_glyphs result)) ss
  -- two characters share a slice exactly where joins or deletions united their parts
  pub shared : (m n : ℕ) → IsTrue (has_number (character_starts bytes) m) → IsTrue (has_number (character_starts bytes) n) → ShareSlice (slices_in_text p ss) m n ↔ AreOfOnePart p bytes text m n

-- law: while a glyph is left, `slices_fit` is true of a result, and its `source_slices` are those of its text
abbrev pub ResultsHaveSourceSlices : Spans → Type 0
ResultsHaveSourceSlices spans = (font : FaceParts) (tables : Tables) (tags : List ℕ → List Tag) (features : List Feature) (bytes : List ℕ) (text result : Sides)
    → IsSourceText font tables tags bytes (after_guess_segment_properties text)
    → IsShapedBy (by_text font tables tags spans features (after_guess_segment_properties text)) (after_guess_segment_properties text) result
    → all_glyphs result ≢ []
    → SlicesFit result bytes
    × ((ss : List SourceSlice) → AreSourceSlices (clusters (all_glyphs result)) (length bytes) ss
    → AreSlicesOf (by_text font tables tags spans features (after_guess_segment_properties text)) bytes (after_guess_segment_properties text) result ss)
