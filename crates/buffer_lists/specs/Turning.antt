-- The groups of a list in reversed order.
use Rattle.std.specs.Prelude.{ℕ, zero, suc, ◌||◌, Bool, true, false, if◌then◌else◌, List, [], ◌∷◌, ◌++◌, length, take, drop, reverse, slice_range}
use Rattle.std.specs.List.{flat_map}
use Rattle.buffer_glyphs.specs.declared.info.hb_glyph_info_t.{hb_glyph_info_t}
use Rattle.buffer_glyphs.specs.declared.level.BufferClusterLevel.{BufferClusterLevel}
use Rattle.buffer_glyphs.specs.Items.{Position, clusters}
use Rattle.buffer_glyphs.specs.Parts.{range_of}
use Rattle.buffer_glyphs.specs.Glyphs.{glyphs_merged_at, beside_merged, is_marked_at}
use Rattle.buffer_lists.specs.Groups.{group_length}

-- x before groups: in the first of them where it is joined to that one's first, else alone
abbrev pub in_front : {X : Type 0} → (X → X → Bool) → X → List (List X) → List (List X)
in_front p x [] = (x ∷ []) ∷ []
in_front p x ([] ∷ gs) = (x ∷ []) ∷ gs
in_front p x ((y ∷ ys) ∷ gs) = if p x y then (x ∷ y ∷ ys) ∷ gs else (x ∷ []) ∷ (y ∷ ys) ∷ gs

-- a list cut into its groups: neighbours are in one group where they are joined
abbrev pub groups : {X : Type 0} → (X → X → Bool) → List X → List (List X)
groups p [] = []
groups p (x ∷ xs) = in_front p x (groups p xs)

-- the groups in reversed order, each in its own order
abbrev pub groups_reversed_list : {X : Type 0} → (X → X → Bool) → List X → List X
groups_reversed_list p xs = flat_map (λ ys. ys) (reverse (groups p xs))

-- the elements from `start` up to before `end` in reversed order
abbrev pub range_reversed : {X : Type 0} → ℕ → ℕ → List X → List X
range_reversed start end xs = take start xs ++ reverse (slice_range xs start end) ++ drop end xs

-- a reversal of groups on its way: glyphs and positions of the groups found, the last first, and of those still to be found;
-- and whether a merge flagged one
pub record Turning : Type 0 where
  pub glyphs : List hb_glyph_info_t
  pub positions : List Position
  pub rest_glyphs : List hb_glyph_info_t
  pub rest_positions : List Position
  pub is_marked : Bool

-- a merge of some indices where it is requested
abbrev pub glyphs_merged_if : Bool → BufferClusterLevel → ℕ → ℕ → List hb_glyph_info_t → List hb_glyph_info_t
glyphs_merged_if true level from to gs = glyphs_merged_at level from to gs
glyphs_merged_if false level from to gs = gs

-- whether such a merge flags a glyph
abbrev pub is_marked_if : Bool → BufferClusterLevel → ℕ → ℕ → List ℕ → Bool
is_marked_if true level from to ns = is_marked_at level from to ns
is_marked_if false level from to ns = false

-- the glyphs of another list after such a merge
abbrev pub beside_if : Bool → BufferClusterLevel → List ℕ → List hb_glyph_info_t → List hb_glyph_info_t
beside_if true level range gs = beside_merged level range gs
beside_if false level range gs = gs

-- the first n of the other glyphs, merged where that is requested, moved before the groups that were found
abbrev pub first_turned : Bool → BufferClusterLevel → ℕ → Turning → Turning
first_turned merge level n t = record {
  glyphs = take n (glyphs_merged_if merge level 0 n t.rest_glyphs) ++ beside_if merge level (range_of 0 n (clusters t.rest_glyphs)) t.glyphs;
  positions = take n t.rest_positions ++ t.positions;
  rest_glyphs = drop n (glyphs_merged_if merge level 0 n t.rest_glyphs);
  rest_positions = drop n t.rest_positions;
  is_marked = t.is_marked || is_marked_if merge level 0 n (clusters t.rest_glyphs);
}

-- the next group, merged where that is requested, moved before the groups that were found
abbrev pub group_turned : Bool → BufferClusterLevel → (hb_glyph_info_t → hb_glyph_info_t → Bool) → Turning → Turning
group_turned merge level p t = first_turned merge level (group_length p t.rest_glyphs) t

-- n groups moved so, one after another
abbrev pub all_turned : Bool → BufferClusterLevel → (hb_glyph_info_t → hb_glyph_info_t → Bool) → ℕ → Turning → Turning
all_turned merge level p zero t = t
all_turned merge level p (suc n) t = all_turned merge level p n (group_turned merge level p t)

-- glyphs and positions of which those before an index were reversed
abbrev pub turning_at : ℕ → List hb_glyph_info_t → List Position → Bool → Turning
turning_at start gs ps marked = record { glyphs = reverse (take start gs); positions = reverse (take start ps); rest_glyphs = drop start gs; rest_positions = drop start ps; is_marked = marked }

-- all groups moved so; there are at most as many as glyphs
abbrev pub turning_of : Bool → BufferClusterLevel → (hb_glyph_info_t → hb_glyph_info_t → Bool) → List hb_glyph_info_t → List Position → Turning
turning_of merge level p gs ps = all_turned merge level p (length gs) (record { glyphs = []; positions = []; rest_glyphs = gs; rest_positions = ps; is_marked = false })
