-- The glyphs before and after a deleted glyph.
use Rattle.std.specs.Prelude.{ℕ, ◌+◌, ◌≡◌, ◌≢◌, ◌==◌, ◌||◌, nat_lt, Bool, true, false, if◌then◌else◌, List, [], ◌∷◌, Option, Some, None, map, drop, slice_index_or as get_or}
use Rattle.std.specs.List.{list_all}
use Rattle.std.specs.Int.RustNames.{bit_and}
use Rattle.buffer_glyphs.specs.declared.info.hb_glyph_info_t.{hb_glyph_info_t}
use Rattle.buffer_glyphs.specs.declared.level.BufferClusterLevel.{BufferClusterLevel}
use Rattle.buffer_glyphs.specs.Items.{clusters, without_flags}
use Rattle.buffer_glyphs.specs.Parts.{first_of, last_of, is_number}
use Rattle.buffer_glyphs.specs.Glyphs.{glyph_flagged, glyphs_merged_at, is_marked_at}
use Rattle.buffer_glyphs.specs.Origins.{flags_for, origins, other_cluster, with_first_changed, with_last_changed}

-- a glyph in a cluster: where it was in another, the three flags of a mask replace its own
abbrev pub recast : ℕ → ℕ → hb_glyph_info_t → hb_glyph_info_t
recast c mask h = if h.cluster == c then h else record h { cluster = c; mask = without_flags h.mask + bit_and mask 7 }

-- the glyphs of cluster p at the end of a list moved to the cluster of g, with its flags
abbrev pub end_recast_from : ℕ → hb_glyph_info_t → List hb_glyph_info_t → List hb_glyph_info_t
end_recast_from p g [] = []
end_recast_from p g (h ∷ hs) = if list_all (λ (k : hb_glyph_info_t). k.cluster == p) (h ∷ hs) then map (recast g.cluster g.mask) (h ∷ hs) else h ∷ end_recast_from p g hs

-- from an index on all glyphs are of cluster p, and the one before it is not
pub record IsEndRun (p at : ℕ) (gs : List hb_glyph_info_t) : Type 0 where
  pub all : list_all (λ (k : hb_glyph_info_t). k.cluster == p) (drop at gs) ≡ true
  pub first : (i : ℕ) (d : hb_glyph_info_t) → i + 1 ≡ at → (get_or gs i d).cluster ≢ p

-- `end_recast_from` of the last glyph's cluster, where there is one
abbrev pub end_recast_if : Option ℕ → hb_glyph_info_t → List hb_glyph_info_t → List hb_glyph_info_t
end_recast_if None g hs = hs
end_recast_if (Some p) g hs = end_recast_from p g hs

-- the glyphs at the end of a list that are of the last one's cluster moved to the cluster of g, with its flags
abbrev pub end_recast : hb_glyph_info_t → List hb_glyph_info_t → List hb_glyph_info_t
end_recast g hs = end_recast_if (last_of (clusters hs)) g hs

-- the glyphs left before a deleted glyph, and after it
pub record DeletionSides : Type 0 where
  pub front : List hb_glyph_info_t
  pub back : List hb_glyph_info_t

-- a glyph deleted whose cluster neither neighbour has: the run before it takes its cluster and flags if that cluster is
-- less; with none before it, it is merged with the next
abbrev pub glyphs_deleted_alone : BufferClusterLevel → Option ℕ → List hb_glyph_info_t → hb_glyph_info_t → List hb_glyph_info_t → DeletionSides
glyphs_deleted_alone level (Some p) front g back = record { front = (if nat_lt g.cluster p then end_recast g front else front); back = back }
glyphs_deleted_alone level None front g back = record { front = front; back = drop 1 (glyphs_merged_at level 0 2 (g ∷ back)) }

-- a glyph deleted from between others: nothing else changes where a neighbour has its cluster
abbrev pub glyphs_deleted : BufferClusterLevel → List hb_glyph_info_t → hb_glyph_info_t → List hb_glyph_info_t → DeletionSides
glyphs_deleted level front g back =
    if is_number (last_of (clusters front)) g.cluster || is_number (first_of (clusters back)) g.cluster
    then record { front = front; back = back }
    else glyphs_deleted_alone level (last_of (clusters front)) front g back

-- ---- flags handed on

-- flags of glyphs that leave handed on to the last one before them
abbrev pub glyphs_handed_before : List hb_glyph_info_t → List hb_glyph_info_t → List hb_glyph_info_t
glyphs_handed_before gone front = with_last_changed (glyph_flagged (flags_for (last_of (clusters front)) (origins gone))) front

-- flags of glyphs that leave handed on to the first one after them, where the one before them is of another cluster
abbrev pub glyphs_handed_after : List hb_glyph_info_t → Option ℕ → List hb_glyph_info_t → List hb_glyph_info_t
glyphs_handed_after gone before back = with_first_changed (glyph_flagged (flags_for (other_cluster before (first_of (clusters back))) (origins gone))) back

-- flags of glyphs that leave handed on to their neighbours
abbrev pub sides_handed_on : List hb_glyph_info_t → DeletionSides → DeletionSides
sides_handed_on gone s = record { front = glyphs_handed_before gone s.front; back = glyphs_handed_after gone (last_of (clusters s.front)) s.back }

-- `sides_handed_on` where it is requested (PRODUCE_SAFE_BREAKS)
abbrev pub sides_handed_if : Bool → List hb_glyph_info_t → DeletionSides → DeletionSides
sides_handed_if true gone s = sides_handed_on gone s
sides_handed_if false gone s = s

-- a glyph deleted from between others, whose flags are handed on where that is requested
abbrev pub sides_after_deletion : Bool → BufferClusterLevel → List hb_glyph_info_t → hb_glyph_info_t → List hb_glyph_info_t → DeletionSides
sides_after_deletion breaks level front g back = sides_handed_if breaks (g ∷ []) (glyphs_deleted level front g back)

-- ---- flags by merges

-- whether the deletion of a glyph whose cluster neither neighbour has flags a glyph by a merge
abbrev pub marks_alone : BufferClusterLevel → Option ℕ → ℕ → List ℕ → Bool
marks_alone level (Some p) n back = false
marks_alone level None n back = is_marked_at level 0 2 (n ∷ back)

-- whether the deletion of a glyph of cluster n flags one by a merge
abbrev pub deletion_marks : BufferClusterLevel → List ℕ → ℕ → List ℕ → Bool
deletion_marks level front n back = if is_number (last_of front) n || is_number (first_of back) n then false else marks_alone level (last_of front) n back

-- the first of some glyphs deleted from after others: the glyphs left before it and after it, and whether one was
-- flagged
pub record Deletes (level : BufferClusterLevel) (front ahead new_front new_back : List hb_glyph_info_t) (marked : Bool) : Type 0 where
  pub front_is : (g : hb_glyph_info_t) (back : List hb_glyph_info_t) → ahead ≡ g ∷ back → new_front ≡ (glyphs_deleted level front g back).front
  pub back_is : (g : hb_glyph_info_t) (back : List hb_glyph_info_t) → ahead ≡ g ∷ back → new_back ≡ (glyphs_deleted level front g back).back
  pub marked_is : (g : hb_glyph_info_t) (back : List hb_glyph_info_t) → ahead ≡ g ∷ back → marked ≡ deletion_marks level (clusters front) g.cluster (clusters back)
