-- Views whose graphemes may be reversed.
use Rattle.std.specs.Prelude.{◌≡◌, false}
use Rattle.buffer_core.specs.Readings.{View, Stage, always, and_then}
use Rattle.buffer_common.specs.declared.script.Script.{Script}
use Rattle.buffer_parts.specs.Groups.{AreSingle}
use Rattle.shape_text.specs.Clusters.{grapheme_lengths, has_non_ascii, with_clusters}
use Rattle.shape_text.specs.NativeOrder.{native_order}
use Rattle.std.specs.Prelude.{Option}

-- where no scratch flag says that the text has characters above U+007F, each grapheme is one character
abbrev pub HasKnownGraphemes : View → Type 0
HasKnownGraphemes v = has_non_ascii v.scratch_flags ≡ false → AreSingle (grapheme_lengths v.items)

-- the stage that makes clusters of graphemes, and then brings the text to its script's direction
abbrev pub graphemes_ordered : Option Script → Stage
graphemes_ordered script v = and_then (always with_clusters v) (always (native_order script))
