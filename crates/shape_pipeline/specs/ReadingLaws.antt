-- Laws of all readings.
use Rattle.std.specs.Prelude.{◌≡◌, true, false, List, Bool}
use Rattle.std.specs.List.{list_all}
use Rattle.buffer_tags.specs.declared.feature.Feature.{Feature}
use Rattle.buffer_tags.specs.Feature.{is_global}
use Rattle.buffer_glyphs.specs.Origins.{numbers}
use Rattle.buffer_glyphs.specs.EventParts.{AreEvenRuns, HaveNoConcat}
use Rattle.buffer_glyphs.specs.Order.{BringsNone}
use Rattle.buffer_core.specs.Readings.{Follows, BufferState}
use Rattle.buffer_core.specs.Sides.{Settings}
use Rattle.buffer_stages.specs.Settings.{text_flags, text_settings_of}
use Rattle.shape_pipeline.specs.Reading.{reading}
use Rattle.shape_pipeline.specs.Shaping.{Shaping}

-- each requested feature is for the whole text
abbrev pub have_no_ranges : List Feature → Bool
have_no_ranges features = list_all (λ (f : Feature). is_global f) features

-- law: two runs that differ only in clusters, cluster level and requests for glyph flags have the same reading: glyphs,
-- positions and causes of failure don't depend on these
abbrev pub RunsReadAlike : Type 0
RunsReadAlike = (p : Shaping) (a b : BufferState) → have_no_ranges p.features ≡ true → a.view ≡ b.view → reading p a ≡ reading p b

-- law: the settings of a text that a reading depends on don't include the cluster level and the requests for glyph
-- flags
abbrev pub SettingsReadAlike : Type 0
SettingsReadAlike = (a b : Settings) → b ≡ record a { level = b.level; flags = b.flags } → text_flags a.flags ≡ text_flags b.flags → text_settings_of a ≡ text_settings_of b

-- law: each cluster number of a result is one of the text's
abbrev pub ReadingKeepsNumbers : Type 0
ReadingKeepsNumbers = (p : Shaping) (text result : BufferState) → Follows (reading p text) text result → BringsNone (numbers text.origins) (numbers result.origins)

-- law: neighbouring glyphs of one cluster of a result have the same flags
abbrev pub ResultsAreEven : Type 0
ResultsAreEven = (p : Shaping) (text result : BufferState) → Follows (reading p text) text result → AreEvenRuns result.origins

-- law: UNSAFE_TO_CONCAT is set in a result only where it was requested
abbrev pub ResultsHaveNoConcat : Type 0
ResultsHaveNoConcat = (p : Shaping) (text result : BufferState) → text.asks.concat ≡ false → Follows (reading p text) text result → HaveNoConcat result.origins
