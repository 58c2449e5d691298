-- What each pipeline stage keeps of a text's parts and of its line.
use Rattle.std.specs.Prelude.{ℕ, ◌≡◌, Bool, List, Option, Ok, length}
use Rattle.buffer_common.specs.declared.constants.BufferFlags.{BufferFlags}
use Rattle.buffer_common.specs.declared.direction.Direction.{Direction}
use Rattle.buffer_common.specs.declared.script.Script.{Script}
use Rattle.buffer_tags.specs.declared.feature.Feature.{Feature}
use Rattle.buffer_unicode_tables.specs.Lawful.{AsciiHasNoMarks}
use Rattle.buffer_unicode_tables.specs.Tables.{Tables}
use Rattle.buffer_glyphs.specs.declared.level.BufferClusterLevel.{BufferClusterLevel}
use Rattle.buffer_glyphs.specs.Items.{Item}
use Rattle.buffer_parts.specs.Keeping.{AreKept}
use Rattle.buffer_core.specs.Readings.{View, Read, Stage, and_then, always}
use Rattle.buffer_properties.specs.Normalizer.{Normalizer}
use Rattle.buffer_parts.specs.Chains.{only_if}
use Rattle.layout_face.specs.declared.parts.FaceParts.{FaceParts}
use Rattle.layout_offsets.specs.Starting.{links_cleared}
use Rattle.layout_offsets.specs.Finishing.{links_followed}
use Rattle.layout_map.specs.Compiled.{OtMapValue}
use Rattle.script_plan.specs.Rules.{IsArrangedInLine}
use Rattle.shape_text.specs.Properties.{with_properties}
use Rattle.shape_text.specs.Circle.{first_circle}
use Rattle.shape_text.specs.Clusters.{with_clusters}
use Rattle.shape_text.specs.Rotation.{with_rotated_characters}
use Rattle.shape_text.specs.Masks.{with_one_mask}
use Rattle.shape_text.specs.Fractions.{with_fractions}
use Rattle.shape_text.specs.declared.fractions.FractionMasks.{FractionMasks}
use Rattle.shape_text.specs.Ranges.{with_ranges}
use Rattle.shape_normalize.specs.Rounds.{normalization}
use Rattle.shape_glyphs.specs.Advances.{with_default_positions}
use Rattle.layout_gsub.specs.GlyphClasses.{with_font_classes}
use Rattle.shape_glyphs.specs.Flags.{with_flags_spread}
use Rattle.shape_glyphs.specs.Glyphs.{with_glyphs, with_synthesized_classes}
use Rattle.shape_glyphs.specs.Ignorables.{ignorables_hidden}
use Rattle.shape_glyphs.specs.Selectors.{with_selectors}
use Rattle.shape_glyphs.specs.Widths.{zero_widths}
use Rattle.shape_fallback.specs.Classes.{with_fallback_classes}
use Rattle.shape_fallback.specs.Marks.{with_positioned_marks}
use Rattle.shape_fallback.specs.Spaces.{with_spaces}
use Rattle.shape_fallback.specs.Zeroing.{with_marks_zeroed}
use Rattle.shape_parts.specs.Lines.{KeepsFall, KeepsPartsOnLine, StaysInLine}
use Rattle.shape_parts.specs.Graphemes.{HasKnownGraphemes, graphemes_ordered}

-- ---- stages one after another

-- a stage that keeps the parts, reverses no list and leaves the direction as it is keeps the parts, and their order along the line
abbrev pub InLineKeepsPartsOnLine : Type 0
InLineKeepsPartsOnLine = (stage : Stage) → StaysInLine stage → KeepsPartsOnLine stage

-- two stages that keep the parts, and their order along the line, keep them one after the other
abbrev pub StagesKeepPartsOnLine : Type 0
StagesKeepPartsOnLine = (first second : Stage) → KeepsPartsOnLine first → KeepsPartsOnLine second → KeepsPartsOnLine (λ v. and_then (first v) second)

-- a stage that keeps the parts, and their order along the line, keeps them too where it is done only by a condition
abbrev pub WantedKeepPartsOnLine : Type 0
WantedKeepPartsOnLine = (wanted : Bool) (stage : Stage) → KeepsPartsOnLine stage → KeepsPartsOnLine (only_if wanted stage)

-- ---- characters

-- the first mask, that of all features for every character, keeps the parts of a text in line
abbrev pub FirstMaskStaysInLine : Type 0
FirstMaskStaysInLine = (mask : ℕ) → StaysInLine (always (with_one_mask mask))

-- the properties of characters keep the parts of a text in line
abbrev pub PropertiesStayInLine : Type 0
PropertiesStayInLine = (t : Tables) → StaysInLine (always (with_properties t))

-- a dotted circle before a text that begins with a mark keeps its parts in line: the circle is in the part of the first character
abbrev pub CircleStaysInLine : Type 0
CircleStaysInLine = (t : Tables) (font : FaceParts) (flags : BufferFlags) (context : List ℕ) → StaysInLine (first_circle t font flags context)

-- the clusters of graphemes keep the parts of a text in line
abbrev pub ClustersStayInLine : Type 0
ClustersStayInLine = StaysInLine (always with_clusters)

-- where it is known which graphemes have more than one character, the clusters of graphemes and then the order of the script keep the parts of a text: at each monotone level a grapheme of several characters is merged before it is turned
abbrev pub GraphemesKeepParts : Type 0
GraphemesKeepParts = (script : Option Script) (v : View) (r : Read) (level : BufferClusterLevel) → HasKnownGraphemes v → graphemes_ordered script v ≡ Ok r → AreKept level (r.events level) (length v.items) (length r.view.items)

-- after the properties of its characters and the first circle it is known of a text which graphemes have more than one character, by lawful tables: no character below U+0080 is a combining mark
abbrev pub GraphemesAreKnown : Type 0
GraphemesAreKnown = (t : Tables) (font : FaceParts) (flags : BufferFlags) (context : List ℕ) (v : View) (r : Read) → AsciiHasNoMarks → first_circle t font flags context (with_properties t v).view ≡ Ok r → HasKnownGraphemes r.view

-- the clusters of graphemes and then the order of the script keep the order of clusters along the line: the list is reversed exactly where the direction is
abbrev pub GraphemesKeepFall : Type 0
GraphemesKeepFall = (script : Option Script) → KeepsFall (graphemes_ordered script)

-- mirrored characters and vertical forms keep the parts of a text in line
abbrev pub RotationStaysInLine : Type 0
RotationStaysInLine = (t : Tables) (font : FaceParts) (target : Direction) (mask : ℕ) (has_vert : Bool) → StaysInLine (always (with_rotated_characters t font target mask has_vert))

-- normalizing keeps the parts of a text in line, where the shaper arranges each run of marks in line and keeps its count
abbrev pub NormalizingStaysInLine : Type 0
NormalizingStaysInLine = (c : Normalizer) → ((run : List Item) → IsArrangedInLine run (c.reorders run)) → ((run : List Item) → length (c.reorders run).items ≡ length run) → StaysInLine (normalization c)

-- the masks of fractions keep the parts of a text in line
abbrev pub FractionsStayInLine : Type 0
FractionsStayInLine = (masks : FractionMasks) → StaysInLine (always (with_fractions masks))

-- the masks of features that are requested for ranges of the text, by any clusters, keep its parts in line
abbrev pub RangesStayInLine : Type 0
RangesStayInLine = (map : OtMapValue) (features : List Feature) (clusters : List ℕ) → StaysInLine (always (with_ranges map features clusters))

-- ---- glyphs

-- the combining classes for marks that are positioned by fallback keep the parts of a text in line
abbrev pub FallbackClassesStayInLine : Type 0
FallbackClassesStayInLine = StaysInLine (always with_fallback_classes)

-- glyphs in place of characters keep the parts of a text in line
abbrev pub GlyphsStayInLine : Type 0
GlyphsStayInLine = StaysInLine (always with_glyphs)

-- GDEF classes keep the parts of a text in line
abbrev pub FontClassesStayInLine : Type 0
FontClassesStayInLine = (font : FaceParts) → StaysInLine (always (with_font_classes font))

-- synthesized classes keep the parts of a text in line
abbrev pub SynthesizedClassesStayInLine : Type 0
SynthesizedClassesStayInLine = StaysInLine (always with_synthesized_classes)

-- variation selectors that are shown keep the parts of a text in line
abbrev pub SelectorsStayInLine : Type 0
SelectorsStayInLine = (glyph : Option ℕ) → StaysInLine (always (with_selectors glyph))

-- default ignorables keep the parts of a text in line, hidden or deleted: a part that a deletion leaves without a glyph is united with a neighbour's
abbrev pub IgnorablesStayInLine : Type 0
IgnorablesStayInLine = (flags : BufferFlags) (set : Option ℕ) (font : FaceParts) → StaysInLine (always (ignorables_hidden flags set font))

-- one set of glyph flags for each cluster keeps the parts of a text in line
abbrev pub SpreadStaysInLine : Type 0
SpreadStaysInLine = StaysInLine (always with_flags_spread)

-- ---- positions

-- the font's advances keep the parts of a text in line
abbrev pub AdvancesStayInLine : Type 0
AdvancesStayInLine = (font : FaceParts) → StaysInLine (always (with_default_positions font))

-- the widths of spaces keep the parts of a text in line
abbrev pub SpacesStayInLine : Type 0
SpacesStayInLine = (font : FaceParts) → StaysInLine (always (with_spaces font))

-- links that are cleared before positioning keep the parts of a text in line
abbrev pub ClearedLinksStayInLine : Type 0
ClearedLinksStayInLine = StaysInLine (always links_cleared)

-- links that are followed after positioning keep the parts of a text in line
abbrev pub FollowedLinksStayInLine : Type 0
FollowedLinksStayInLine = StaysInLine (always links_followed)

-- zeroed advances of marks keep the parts of a text in line, whether marks are shifted back by the view's direction or not
abbrev pub ZeroedMarksStayInLine : Type 0
ZeroedMarksStayInLine = (adjusts : Direction → Bool) → StaysInLine (always (λ v. with_marks_zeroed (adjusts v.direction) v))

-- marks that are positioned by fallback keep the parts of a text in line
abbrev pub PositionedMarksStayInLine : Type 0
PositionedMarksStayInLine = (font : FaceParts) (components : Direction) (adjusts : Direction → Bool) → StaysInLine (always (λ v. with_positioned_marks font components (adjusts v.direction) v))

-- zeroed widths of default ignorables keep the parts of a text in line
abbrev pub ZeroedWidthsStayInLine : Type 0
ZeroedWidthsStayInLine = (flags : BufferFlags) → StaysInLine (always (zero_widths flags))
