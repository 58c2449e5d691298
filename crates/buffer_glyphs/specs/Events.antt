-- Events: what one call of a buffer does to clusters and glyph flags.
use Rattle.std.specs.Prelude.{ℕ, ◌≡◌, ◌≤◌, ◌+◌, Bool, true, false, List, [], ◌∷◌, Some, fold, length, take, drop, reverse, slice_get}
use Rattle.buffer_glyphs.specs.declared.level.BufferClusterLevel.{BufferClusterLevel}
use Rattle.buffer_glyphs.specs.Parts.{elements_replaced}
use Rattle.buffer_glyphs.specs.Levels.{grapheme_manner}
use Rattle.buffer_glyphs.specs.Origins.{Origin, Merging, InList, manner, origins_merged_as, origins_deleted, with_range_arranged, is_seam, spans, spans_merged, origins_circled, origins_marked, origins_flagged, origins_handed_if, Asks, origins_spread, without_marks}

-- one call, by indices of the whole list before it
pub data Event : Type 0 where
  -- the indices from `from` up to before `to` are merged (`merge_clusters`, `merge_out_clusters`)
  Merge : (how : Merging) → (from to : ℕ) → Event
  -- such indices, of a grapheme, are merged where the level merges graphemes (`merge_grapheme_clusters`,
  -- `merge_out_grapheme_clusters`)
  MergeGrapheme : (from to : ℕ) → Event
  -- `taken` glyphs from the index `at` on are merged and replaced by copies of the first, past the end of the one before;
  -- none may be taken, or none given (`replace_glyphs`, `output_glyph`, `skip_glyph`); where PRODUCE_SAFE_BREAKS is
  -- requested, those taken hand on their flags
  Replace : (at taken given : ℕ) → Event
  -- a glyph is inserted before or after that at an index, in its cluster, with the flags of another
  Circle : (after : Bool) → (beside like : ℕ) → Event
  -- the glyph at an index is deleted, and its cluster stays somewhere (`delete_glyph`); where PRODUCE_SAFE_BREAKS is
  -- requested, it hands on its flags
  Delete : (at : ℕ) → Event
  -- the glyphs from an index on, as many as the order has, are merged and then permuted to that order
  Move : (how : Merging) → (from : ℕ) → (order : List ℕ) → Event
  -- such glyphs are permuted to that order, with no merge
  Arrange : (from : ℕ) → (order : List ℕ) → Event
  -- the glyphs from an index on are permuted to that order, after a merge of each smallest span that it permutes
  -- (`sort`)
  Sort : (from : ℕ) → (order : List ℕ) → Event
  -- the list is reversed
  Reverse : Event
  -- such indices are flagged as unsafe to break and to concat, as unsafe to concat, or as safe to insert a tatweel
  Break : (from to : ℕ) → Event
  Concat : (from to : ℕ) → Event
  Tatweel : (from to : ℕ) → Event
  -- such indices are flagged as `Break` flags them, where PRODUCE_SAFE_BREAKS is requested
  StrictBreak : (from to : ℕ) → Event
  -- the glyphs of each cluster get the same flags (`propagate_flags`)
  Spread : Event
  -- all flags are cleared
  Reset : Event

-- UNSAFE_TO_CONCAT set on such indices, where it is requested
abbrev pub concat_marked : Bool → ℕ → ℕ → List Origin → List Origin
concat_marked true from to os = origins_flagged 2 from to os
concat_marked false from to os = os

-- SAFE_TO_INSERT_TATWEEL, or where it isn't requested the two other flags, set on such indices
abbrev pub tatweel_marked : Bool → ℕ → ℕ → List Origin → List Origin
tatweel_marked true from to os = origins_marked 4 from to os
tatweel_marked false from to os = origins_marked 3 from to os

-- UNSAFE_TO_BREAK and UNSAFE_TO_CONCAT set on such indices as `Break` sets them, where that is requested
abbrev pub strictly_marked : Bool → ℕ → ℕ → List Origin → List Origin
strictly_marked true from to os = origins_marked 3 from to os
strictly_marked false from to os = os

-- some origins from an index on replaced by copies of the first; where it is requested, they hand on their flags at the
-- end of the copies
abbrev pub origins_replaced : Bool → ℕ → ℕ → ℕ → List Origin → List Origin
origins_replaced breaks at taken given os = origins_handed_if breaks (take taken (drop at os)) (at + given) (elements_replaced at taken given os)

-- clusters and flags after one event
abbrev pub origins_after_event : Asks → BufferClusterLevel → List Origin → Event → List Origin
origins_after_event asks level os (Merge how from to) = origins_merged_as (manner how level) from to os
origins_after_event asks level os (MergeGrapheme from to) = origins_merged_as (grapheme_manner level) from to os
origins_after_event asks level os (Replace at taken given) = origins_replaced asks.breaks at taken given (origins_merged_as (manner InList level) at (at + taken) os)
origins_after_event asks level os (Circle after beside like) = origins_circled after beside like os
origins_after_event asks level os (Delete at) = origins_handed_if asks.breaks (take 1 (drop at os)) at (origins_deleted level at os)
origins_after_event asks level os (Move how from order) = with_range_arranged from order (origins_merged_as (manner how level) from (from + length order) os)
origins_after_event asks level os (Arrange from order) = with_range_arranged from order os
origins_after_event asks level os (Sort from order) = with_range_arranged from order (spans_merged (manner InList level) from (spans order) os)
origins_after_event asks level os Reverse = reverse os
origins_after_event asks level os (Break from to) = origins_marked 3 from to os
origins_after_event asks level os (Concat from to) = concat_marked asks.concat from to os
origins_after_event asks level os (Tatweel from to) = tatweel_marked asks.tatweel from to os
origins_after_event asks level os (StrictBreak from to) = strictly_marked asks.breaks from to os
origins_after_event asks level os Spread = origins_spread asks os
origins_after_event asks level os Reset = without_marks os

-- clusters and flags after a list of events, at every level and for clusters in any order
abbrev pub origins_after : Asks → BufferClusterLevel → List Event → List Origin → List Origin
origins_after asks level es os = fold (origins_after_event asks level) os es

-- an order permutes within its spans only: no element that is at or after a seam was before it
pub record StaysInSpans (order : List ℕ) : Type 0 where
  pub whole : is_seam order (length order) ≡ true
  pub stays : (i j k : ℕ) → slice_get order i ≡ Some j → is_seam order k ≡ true → k ≤ i → k ≤ j

-- no event of the list permutes, except by a reversal of the whole list
abbrev pub IsPlain : List Event → Type 0
IsPlain [] = Unit {0}
IsPlain (Arrange from order ∷ es) = ⊥
IsPlain (Merge how from to ∷ es) = IsPlain es
IsPlain (MergeGrapheme from to ∷ es) = IsPlain es
IsPlain (Replace at taken given ∷ es) = IsPlain es
IsPlain (Circle after beside like ∷ es) = IsPlain es
IsPlain (Delete at ∷ es) = IsPlain es
IsPlain (Move how from order ∷ es) = IsPlain es
IsPlain (Sort from order ∷ es) = StaysInSpans order × IsPlain es
IsPlain (Reverse ∷ es) = IsPlain es
IsPlain (Break from to ∷ es) = IsPlain es
IsPlain (Concat from to ∷ es) = IsPlain es
IsPlain (Tatweel from to ∷ es) = IsPlain es
IsPlain (StrictBreak from to ∷ es) = IsPlain es
IsPlain (Spread ∷ es) = IsPlain es
IsPlain (Reset ∷ es) = IsPlain es
