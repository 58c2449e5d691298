-- Characters that a shaper makes graphemes of, before it moves any: what it merges where the level merges graphemes.
use Rattle.std.specs.Prelude.{ℕ, ◌+◌, ◌==◌, if◌then◌else◌, List, [], ◌∷◌, ◌++◌}
use Rattle.buffer_glyphs.specs.Items.{Item}
use Rattle.buffer_glyphs.specs.Events.{Event, MergeGrapheme, StrictBreak}
use Rattle.buffer_core.specs.Readings.{Read, View, with_events}

-- the merge of n items from an index on into one grapheme, of none where it is 0; where the level keeps them apart, they
-- are unsafe to break if PRODUCE_SAFE_BREAKS is requested
abbrev pub merge_of : ℕ → ℕ → List Event
merge_of at n = if n == 0 then [] else MergeGrapheme at (at + n) ∷ StrictBreak at (at + n) ∷ []

-- the merges of a list's items from an index on, by a rule: how many of them begin with one grapheme
abbrev pub merges_by : (List Item → ℕ) → ℕ → List Item → List Event
merges_by rule at [] = []
merges_by rule at (x ∷ xs) = merge_of at (rule (x ∷ xs)) ++ merges_by rule (at + 1) xs

-- the view whose graphemes by a rule are merged
abbrev pub with_graphemes_merged : (List Item → ℕ) → View → Read
with_graphemes_merged rule v = with_events (merges_by rule 0 v.items) v
