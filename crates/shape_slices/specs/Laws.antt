-- What holds of source slices.
use Rattle.std.specs.Prelude.{ℕ, ◌≡◌, Bool, true, List, length, map, slice_range}
use Rattle.std.specs.List.{All}
use Rattle.std.specs.Str.{IsUtf8}
use Rattle.buffer_glyphs.specs.declared.info.hb_glyph_info_t.{hb_glyph_info_t}
use Rattle.buffer_glyphs.specs.EventParts.{AreEvenRuns}
use Rattle.buffer_glyphs.specs.Items.{clusters, flags_of}
use Rattle.buffer_glyphs.specs.Order.{IsInOrder}
use Rattle.buffer_glyphs.specs.Origins.{origins}
use Rattle.buffer_parts.specs.Fits.{FitsText}
use Rattle.buffer_parts.specs.Orderly.{are_one}
use Rattle.buffer_parts.specs.Slices.{AreJoined, text_of_slices}
use Rattle.shape_slices.specs.declared.slices.SourceSlice.{SourceSlice}
use Rattle.shape_slices.specs.Fitting.{character_starts}
use Rattle.shape_slices.specs.Runs.{AreSourceSlices, along_glyphs, byte_range}

-- the slices of clusters that fit a text cover it: in the order of the glyphs, or from the last glyph to the first where clusters fall, each begins where the previous one ends
abbrev pub SourceSlicesJoin : Type 0
SourceSlicesJoin = (falls : Bool) (text ns : List ℕ) (ss : List SourceSlice) → IsUtf8 text → FitsText (character_starts text) ns → IsInOrder falls ns → AreSourceSlices ns (length text) ss
    → AreJoined 0 (length text) (along_glyphs falls (map byte_range ss))

-- the bytes of the slices of clusters that fit a text, concatenated in the order of the text, are the text
abbrev pub SourceSlicesAreText : Type 0
SourceSlicesAreText = (falls : Bool) (text ns : List ℕ) (ss : List SourceSlice) → IsUtf8 text → FitsText (character_starts text) ns → IsInOrder falls ns → AreSourceSlices ns (length text) ss
    → text_of_slices text (along_glyphs falls (map byte_range ss)) ≡ text

-- all glyphs of a run have the same glyph flags
abbrev pub HasOneFlagSet : List hb_glyph_info_t → SourceSlice → Type 0
HasOneFlagSet gs s = are_one (flags_of (slice_range gs s.first_glyph s.end_glyph)) ≡ true

-- where neighbours of one cluster have the same flags, as in a result of shaping, each run has one set of flags
abbrev pub RunsHaveOneFlagSet : Type 0
RunsHaveOneFlagSet = (gs : List hb_glyph_info_t) (end : ℕ) (ss : List SourceSlice) → AreEvenRuns (origins gs) → AreSourceSlices (clusters gs) end ss → All (HasOneFlagSet gs) ss
