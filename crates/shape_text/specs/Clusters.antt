-- The graphemes of a text, as clusters.
use Rattle.std.specs.Prelude.{ℕ, ◌+◌, ◌==◌, not, Bool, if◌then◌else◌, List, [], ◌∷◌}
use Rattle.std.specs.Int.RustNames.{bit_and}
use Rattle.buffer_glyphs.specs.declared.level.BufferClusterLevel.{BufferClusterLevel}
use Rattle.buffer_glyphs.specs.declared.level.BufferClusterLevel.TheVariants.{MonotoneGraphemes, MonotoneCharacters, Characters, Graphemes}
use Rattle.buffer_glyphs.specs.Items.{Item}
use Rattle.buffer_glyphs.specs.Events.{Event, MergeGrapheme, Break}
use Rattle.buffer_core.specs.Readings.{View, Read}
use Rattle.buffer_lists.specs.Facts.{group_lengths}
use Rattle.buffer_core.specs.Graphemes.{continues}

-- the event of one grapheme: a merge at the levels that merge graphemes, else an unsafe-to-break flag
abbrev pub grapheme_event : BufferClusterLevel → ℕ → ℕ → Event
grapheme_event MonotoneGraphemes from to = MergeGrapheme from to
grapheme_event MonotoneCharacters from to = Break from to
grapheme_event Characters from to = Break from to
grapheme_event Graphemes from to = MergeGrapheme from to

-- the events of graphemes of the given lengths, from an index on
abbrev pub grapheme_events : BufferClusterLevel → ℕ → List ℕ → List Event
grapheme_events level at [] = []
grapheme_events level at (n ∷ lens) = grapheme_event level at (at + n) ∷ grapheme_events level (at + n) lens

-- the lengths of a text's graphemes
abbrev pub grapheme_lengths : List Item → List ℕ
grapheme_lengths xs = group_lengths (λ x y. continues y) xs

-- the scratch flags say that the text has characters above U+007F
abbrev pub has_non_ascii : ℕ → Bool
has_non_ascii scratch_flags = not (bit_and scratch_flags 1 == 0)

-- the view with a cluster for each grapheme; a text without characters above U+007F is unchanged (HarfBuzz:
-- hb_form_clusters)
abbrev pub with_clusters : View → Read
with_clusters v = record { view = v; events = λ level. if has_non_ascii v.scratch_flags then grapheme_events level 0 (grapheme_lengths v.items) else [] }
