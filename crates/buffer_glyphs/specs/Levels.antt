-- What a cluster level makes of each kind of merge: the one table that depends on levels.
use Rattle.buffer_glyphs.specs.declared.level.BufferClusterLevel.{BufferClusterLevel}
use Rattle.buffer_glyphs.specs.declared.level.BufferClusterLevel.TheVariants.{MonotoneGraphemes, MonotoneCharacters, Characters, Graphemes}

-- the calls that merge: in the input list, or within the output
pub data Merging : Type 0 where
  InList : Merging
  InOutput : Merging

-- what becomes of a range that a call merges
pub data Manner : Type 0 where
  -- its clusters become the least of them
  Unites : Manner
  -- it is flagged as unsafe to break and to concat outside its least cluster
  Marks : Manner
  -- it is left alone
  Keeps : Manner

-- the manner of such a call at a level
abbrev pub manner : Merging → BufferClusterLevel → Manner
manner InList MonotoneGraphemes = Unites
manner InList MonotoneCharacters = Unites
manner InList Characters = Marks
manner InList Graphemes = Marks
manner InOutput MonotoneGraphemes = Unites
manner InOutput MonotoneCharacters = Unites
manner InOutput Characters = Keeps
manner InOutput Graphemes = Keeps

-- the manner of the merge of a grapheme at a level
abbrev pub grapheme_manner : BufferClusterLevel → Manner
grapheme_manner MonotoneGraphemes = Unites
grapheme_manner MonotoneCharacters = Keeps
grapheme_manner Characters = Keeps
grapheme_manner Graphemes = Unites

-- a manner that unites clusters
abbrev pub IsUniting : Manner → Type 0
IsUniting Unites = Unit {0}
IsUniting Marks = ⊥
IsUniting Keeps = ⊥

-- the levels at which clusters stay in order: merges in the list unite
abbrev pub IsMonotone : BufferClusterLevel → Type 0
IsMonotone level = IsUniting (manner InList level)
