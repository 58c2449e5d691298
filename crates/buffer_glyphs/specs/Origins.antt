-- Origins: the cluster and the three flags of a glyph, after merges, flags, copies and deletions.
use Rattle.std.specs.Prelude.{ℕ, zero, suc, ◌+◌, ◌-◌, ◌==◌, ◌&&◌, ◌||◌, not, max, Bool, true, false, nat_lt, if◌then◌else◌, List, [], ◌∷◌, ◌++◌, length, map, take, drop, Option, Some, None, slice_get, slice_range, unwrap_or}
use Rattle.std.specs.List.{list_all}
use Rattle.std.specs.Int.RustNames.{bit_and, bit_or}
use Rattle.buffer_glyphs.specs.declared.info.hb_glyph_info_t.{hb_glyph_info_t}
use Rattle.buffer_glyphs.specs.declared.level.BufferClusterLevel.{BufferClusterLevel}
use Rattle.buffer_glyphs.specs.Items.{glyph_flags}
pub use Rattle.buffer_glyphs.specs.Levels.{Merging, InList, InOutput, Manner, Unites, Marks, Keeps, manner}
use Rattle.buffer_glyphs.specs.Parts.{first_of, last_of, is_number, range_of}
use Rattle.buffer_glyphs.specs.Merges.{least_number, merged_number}

-- the fields of a glyph that no item has
pub record Origin : Type 0 where
  pub cluster : ℕ
  -- the three flags
  pub flags : ℕ

-- the origin of a glyph
abbrev pub origin_of : hb_glyph_info_t → Origin
origin_of g = record { cluster = g.cluster; flags = glyph_flags g }

-- the origins of a list of glyphs
abbrev pub origins : List hb_glyph_info_t → List Origin
origins gs = map origin_of gs

-- the cluster numbers of a list of origins
abbrev pub numbers : List Origin → List ℕ
numbers os = map (λ (o : Origin). o.cluster) os

-- ---- merges

-- an origin in a cluster: where it was in another, other flags replace its own
abbrev pub cast : ℕ → ℕ → Origin → Origin
cast c flags o = if o.cluster == c then o else record { cluster = c; flags = flags }

-- the clusters that occur in a range renumbered to the least of them, everywhere
abbrev pub origins_merged : List ℕ → List Origin → List Origin
origins_merged range os = map (λ (o : Origin). cast (merged_number range o.cluster) 0 o) os

-- flags set on an origin
abbrev pub flags_added : ℕ → Origin → Origin
flags_added bits o = record o { flags = bit_or o.flags bits }

-- flags set on an origin outside a cluster
abbrev pub added_outside : ℕ → ℕ → Origin → Origin
added_outside bits low o = if o.cluster == low then o else record o { flags = bit_or o.flags bits }

-- the elements from `from` up to before `to` changed, each by itself
abbrev pub with_range_changed : {X : Type 0} → (X → X) → ℕ → ℕ → List X → List X
with_range_changed f from to xs = take from xs ++ map f (slice_range xs from to) ++ drop (max from to) xs

-- the first element changed
abbrev pub with_first_changed : {X : Type 0} → (X → X) → List X → List X
with_first_changed f xs = map f (take 1 xs) ++ drop 1 xs

-- the last element changed
abbrev pub with_last_changed : {X : Type 0} → (X → X) → List X → List X
with_last_changed f xs = take (length xs - 1) xs ++ map f (drop (length xs - 1) xs)

-- flags set on the indices from `from` up to before `to` outside the least cluster among them
abbrev pub origins_marked : ℕ → ℕ → ℕ → List Origin → List Origin
origins_marked bits from to os = with_range_changed (added_outside bits (least_number (range_of from to (numbers os)))) from to os

-- flags set on the indices from `from` up to before `to`
abbrev pub origins_flagged : ℕ → ℕ → ℕ → List Origin → List Origin
origins_flagged bits from to os = with_range_changed (flags_added bits) from to os

-- the indices from `from` up to before `to` merged, flagged or left alone, by manner
abbrev pub origins_merged_as : Manner → ℕ → ℕ → List Origin → List Origin
origins_merged_as Unites from to os = origins_merged (range_of from to (numbers os)) os
origins_merged_as Marks from to os = origins_marked 3 from to os
origins_merged_as Keeps from to os = os

-- ---- deletion

-- the origins of cluster p at the end of a list moved to the cluster of o, with its flags
abbrev pub end_cast : ℕ → Origin → List Origin → List Origin
end_cast p o [] = []
end_cast p o (q ∷ qs) = if list_all (λ (k : Origin). k.cluster == p) (q ∷ qs) then map (cast o.cluster o.flags) (q ∷ qs) else q ∷ end_cast p o qs

-- an origin deleted whose cluster neither neighbour has: the run before it takes its cluster and flags if that cluster
-- is less; with none before it, it is merged with the next
abbrev pub alone_deleted : BufferClusterLevel → Option ℕ → List Origin → Origin → List Origin → List Origin
alone_deleted level (Some p) front o back = (if nat_lt o.cluster p then end_cast p o front else front) ++ back
alone_deleted level None front o back = front ++ drop 1 (origins_merged_as (manner InList level) 0 2 (o ∷ back))

-- an origin deleted from between others: nothing else changes where a neighbour has its cluster
abbrev pub one_deleted : BufferClusterLevel → List Origin → Origin → List Origin → List Origin
one_deleted level front o back = if is_number (last_of (numbers front)) o.cluster || is_number (first_of (numbers back)) o.cluster then front ++ back else alone_deleted level (last_of (numbers front)) front o back

-- the first of the second list deleted, after the first list
abbrev pub first_deleted : BufferClusterLevel → List Origin → List Origin → List Origin
first_deleted level front [] = front
first_deleted level front (o ∷ back) = one_deleted level front o back

-- the origin at an index deleted
abbrev pub origins_deleted : BufferClusterLevel → ℕ → List Origin → List Origin
origins_deleted level at os = first_deleted level (take at os) (drop at os)

-- ---- order

-- each element of a list replaced by the one at the index that the order gives for it in `all`, where there is one
abbrev pub picked_elements : {X : Type 0} → List X → List ℕ → List X → List X
picked_elements all [] xs = xs
picked_elements all (i ∷ order) [] = []
picked_elements all (i ∷ order) (x ∷ xs) = unwrap_or (slice_get all i) x ∷ picked_elements all order xs

-- the elements from an index on permuted to an order, whose indices count from there
abbrev pub with_range_arranged : {X : Type 0} → ℕ → List ℕ → List X → List X
with_range_arranged from order xs = take from xs ++ picked_elements (take (length order) (drop from xs)) order (drop from xs)

-- an index of an order is a seam where the elements before it are those that were before it
abbrev pub is_seam : List ℕ → ℕ → Bool
is_seam order i = list_all (λ j. nat_lt j i) (take i order)

-- the indices from `from` up to before `to`
pub record Span : Type 0 where
  pub from : ℕ
  pub to : ℕ

-- the spans of n indices from `index` on: each seam ends the span that began at `begin`
abbrev pub spans_from : List ℕ → ℕ → ℕ → ℕ → List Span
spans_from order begin index zero = []
spans_from order begin index (suc left) =
    if is_seam order (index + 1)
    then record { from = begin; to = index + 1 } ∷ spans_from order (index + 1) (index + 1) left
    else spans_from order begin (index + 1) left

-- the smallest spans that an order permutes, each by itself
abbrev pub spans : List ℕ → List Span
spans order = spans_from order 0 0 (length order)

-- spans merged, one after another; their indices count from an index of the list
abbrev pub spans_merged : Manner → ℕ → List Span → List Origin → List Origin
spans_merged m at [] os = os
spans_merged m at (s ∷ ss) os = spans_merged m at ss (origins_merged_as m (at + s.from) (at + s.to) os)

-- ---- new glyphs

-- the flags at an index
abbrev pub flags_at : ℕ → List Origin → ℕ
flags_at at os = unwrap_or (slice_get (map (λ (o : Origin). o.flags) os) at) 0

-- an origin inserted before or after the first, in its cluster, with other flags
abbrev pub first_circled : Bool → ℕ → List Origin → List Origin
first_circled after flags [] = []
first_circled true flags (o ∷ os) = o ∷ record { cluster = o.cluster; flags = flags } ∷ os
first_circled false flags (o ∷ os) = record { cluster = o.cluster; flags = flags } ∷ o ∷ os

-- an origin inserted beside that at an index, in its cluster, with the flags of another
abbrev pub origins_circled : Bool → ℕ → ℕ → List Origin → List Origin
origins_circled after beside like os = take beside os ++ first_circled after (flags_at like os) (drop beside os)

-- ---- flags of glyphs that leave

-- whether flags have UNSAFE_TO_BREAK, or SAFE_TO_INSERT_TATWEEL, which brings it in the end
abbrev pub is_unsafe : ℕ → Bool
is_unsafe flags = not (bit_and flags 5 == 0)

-- the flags of those origins of a cluster that are unsafe to break
abbrev pub unsafe_flags : ℕ → List Origin → ℕ
unsafe_flags c [] = 0
unsafe_flags c (o ∷ os) = if o.cluster == c && is_unsafe o.flags then bit_or o.flags (unsafe_flags c os) else unsafe_flags c os

-- the flags that a neighbour of a cluster gets from origins that leave; none where there is no neighbour
abbrev pub flags_for : Option ℕ → List Origin → ℕ
flags_for None gone = 0
flags_for (Some c) gone = unsafe_flags c gone

-- the cluster of the neighbour after a seam, where the one before is of another
abbrev pub other_cluster : Option ℕ → Option ℕ → Option ℕ
other_cluster before None = None
other_cluster before (Some c) = if is_number before c then None else Some c

-- flags of origins that leave handed on to the last one before them
abbrev pub origins_handed_before : List Origin → List Origin → List Origin
origins_handed_before gone front = with_last_changed (flags_added (flags_for (last_of (numbers front)) gone)) front

-- flags of origins that leave handed on to the first one after them, where the one before them is of another cluster
abbrev pub origins_handed_after : List Origin → Option ℕ → List Origin → List Origin
origins_handed_after gone before back = with_first_changed (flags_added (flags_for (other_cluster before (first_of (numbers back))) gone)) back

-- where origins leave at a seam of those that are left, the neighbour before gets the flags of those of its cluster that
-- are unsafe to break; the neighbour after gets those of its cluster, unless the neighbour before is of that cluster
abbrev pub origins_handed_on : List Origin → ℕ → List Origin → List Origin
origins_handed_on gone seam os = origins_handed_before gone (take seam os) ++ origins_handed_after gone (last_of (numbers (take seam os))) (drop seam os)

-- `origins_handed_on` where it is requested (PRODUCE_SAFE_BREAKS)
abbrev pub origins_handed_if : Bool → List Origin → ℕ → List Origin → List Origin
origins_handed_if true gone seam os = origins_handed_on gone seam os
origins_handed_if false gone seam os = os

-- ---- flags at the end

-- the requests for glyph flags
pub record Asks : Type 0 where
  pub concat : Bool
  pub tatweel : Bool
  pub breaks : Bool

-- where tatweels are requested, UNSAFE_TO_BREAK clears SAFE_TO_INSERT_TATWEEL, and where that stays the two other flags
-- are added
abbrev pub tatweel_settled : Bool → ℕ → ℕ
tatweel_settled false m = m
tatweel_settled true m = if bit_and m 1 == 1 then bit_and m 3 else if bit_and m 4 == 4 then bit_or m 3 else m

-- UNSAFE_TO_CONCAT cleared, unless it is requested
abbrev pub concat_settled : Bool → ℕ → ℕ
concat_settled true m = m
concat_settled false m = bit_and m 5

-- the flags of a cluster as requests settle them
abbrev pub settled_flags : Asks → ℕ → ℕ
settled_flags asks m = concat_settled asks.concat (tatweel_settled asks.tatweel m)

-- the flags of all origins of the run of a cluster at the front of a list
abbrev pub run_flags : ℕ → List Origin → ℕ
run_flags c [] = 0
run_flags c (o ∷ os) = if o.cluster == c then bit_or o.flags (run_flags c os) else 0

-- the flags of the neighbour before where that is of the cluster, else those of the run that begins
abbrev pub spread_flags : Option Origin → ℕ → ℕ → ℕ
spread_flags None c flags = flags
spread_flags (Some p) c flags = if p.cluster == c then p.flags else flags

-- each run of a cluster with one set of flags, after a neighbour
abbrev pub origins_spread_after : Asks → Option Origin → List Origin → List Origin
origins_spread_after asks before [] = []
origins_spread_after asks before (o ∷ os) =
    let now : Origin = record { cluster = o.cluster; flags = spread_flags before o.cluster (settled_flags asks (run_flags o.cluster (o ∷ os))) } in
    now ∷ origins_spread_after asks (Some now) os

-- each run of a cluster with one set of flags (`propagate_flags`)
abbrev pub origins_spread : Asks → List Origin → List Origin
origins_spread asks os = origins_spread_after asks None os

-- all glyph flags cleared
abbrev pub without_marks : List Origin → List Origin
without_marks os = map (λ (o : Origin). record { cluster = o.cluster; flags = 0 }) os
