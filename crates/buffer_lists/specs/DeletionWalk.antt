-- A walk that deletes the glyphs that a test picks.
use Rattle.std.specs.Prelude.{ℕ, zero, suc, ◌≡◌, ◌<◌, ◌≤◌, ◌||◌, Bool, true, false, if◌then◌else◌, List, [], ◌∷◌, ◌++◌, Option, Some, None, length, take, drop}
use Rattle.std.specs.Int.RustNames.{bit_or}
use Rattle.std.specs.Fn.{Shared, FnReturnsAt}
use denote.Ref.{Bor}
use Rattle.buffer_glyphs.specs.declared.info.hb_glyph_info_t.{hb_glyph_info_t}
use Rattle.buffer_glyphs.specs.declared.level.BufferClusterLevel.{BufferClusterLevel}
use Rattle.buffer_glyphs.specs.Items.{Position, clusters}
use Rattle.buffer_glyphs.specs.Order.{IsOrdered}
use Rattle.buffer_glyphs.specs.Lemmas.Numbers.{Has}
use Rattle.buffer_lists.specs.declared.deletion_within.walk.Walk.{Walk}
use Rattle.buffer_glyphs.specs.Deleting.{end_recast, sides_after_deletion, deletion_marks}

-- each answer of a test of a glyph is that of p
abbrev pub AnswersAs : {F : Type 0} → Shared F (Bor hb_glyph_info_t × Unit {0}) Bool → F → (hb_glyph_info_t → Bool) → Type 0
AnswersAs calls f p = (g : hb_glyph_info_t) (b : Bool) → FnReturnsAt calls f g b → b ≡ p g

-- a walk of deletions on its way: glyphs and positions that are left so far, those still to be walked, and whether a merge
-- flagged a glyph
pub record DeletionState : Type 0 where
  pub kept : List hb_glyph_info_t
  pub kept_positions : List Position
  pub rest_glyphs : List hb_glyph_info_t
  pub rest_positions : List Position
  pub is_marked : Bool

-- the walk after it deleted a glyph; `breaks`: PRODUCE_SAFE_BREAKS is requested
abbrev pub without_glyph : Bool → BufferClusterLevel → DeletionState → hb_glyph_info_t → List hb_glyph_info_t → DeletionState
without_glyph breaks level w g back = record {
  kept = (sides_after_deletion breaks level w.kept g back).front;
  kept_positions = w.kept_positions;
  rest_glyphs = (sides_after_deletion breaks level w.kept g back).back;
  rest_positions = drop 1 w.rest_positions;
  is_marked = w.is_marked || deletion_marks level (clusters w.kept) g.cluster (clusters back);
}

-- the walk after it left a glyph
abbrev pub with_glyph : DeletionState → hb_glyph_info_t → List hb_glyph_info_t → DeletionState
with_glyph w g back = record w { kept = w.kept ++ g ∷ []; kept_positions = w.kept_positions ++ take 1 w.rest_positions; rest_glyphs = back; rest_positions = drop 1 w.rest_positions }

-- the walk over one glyph: deleted where the test picks it, else left
abbrev pub walk_step : Bool → BufferClusterLevel → (hb_glyph_info_t → Bool) → DeletionState → List hb_glyph_info_t → DeletionState
walk_step breaks level p w [] = w
walk_step breaks level p w (g ∷ back) = if p g then without_glyph breaks level w g back else with_glyph w g back

-- the walk over the first glyph that is still to be walked: deleted where the test picks it, else left
abbrev pub first_step : Bool → BufferClusterLevel → (hb_glyph_info_t → Bool) → DeletionState → DeletionState
first_step breaks level p w = walk_step breaks level p w w.rest_glyphs

-- the walk over n glyphs, one after another
abbrev pub many_steps : Bool → BufferClusterLevel → (hb_glyph_info_t → Bool) → ℕ → DeletionState → DeletionState
many_steps breaks level p zero w = w
many_steps breaks level p (suc n) w = many_steps breaks level p n (first_step breaks level p w)

-- the walk over all glyphs
abbrev pub whole_walk : Bool → BufferClusterLevel → (hb_glyph_info_t → Bool) → List hb_glyph_info_t → List Position → DeletionState
whole_walk breaks level p gs ps = many_steps breaks level p (length gs) (record { kept = []; kept_positions = []; rest_glyphs = gs; rest_positions = ps; is_marked = false })

-- glyphs whose last run takes the cluster and flags that it is still to take
abbrev pub settled_glyphs : Option hb_glyph_info_t → List hb_glyph_info_t → List hb_glyph_info_t
settled_glyphs None gs = gs
settled_glyphs (Some d) gs = end_recast d gs

-- the walk as it is at an index
abbrev pub walk_at : ℕ → Walk → List hb_glyph_info_t → List Position → DeletionState
walk_at at w gs ps = record { kept = settled_glyphs w.due (take w.kept gs); kept_positions = take w.kept ps; rest_glyphs = drop at gs; rest_positions = drop at ps; is_marked = w.marked }

-- the cluster still to be taken is less than all that are left, and there is one only where these are in order
abbrev pub IsDue : Bool → Option hb_glyph_info_t → List hb_glyph_info_t → Type 0
IsDue in_order None gs = Unit {0}
IsDue in_order (Some d) gs = (in_order ≡ true) × (0 < length gs) × ((n : ℕ) → Has (clusters gs) n → d.cluster < n)

-- the glyph that is due has flags
abbrev pub HasFlags : Option hb_glyph_info_t → ℕ → Type 0
HasFlags None flags = ⊥
HasFlags (Some d) flags = bit_or d.mask flags ≡ d.mask

-- the invariant of a walk's state
pub record IsWalk (in_order : Bool) (at : ℕ) (w : Walk) (gs : List hb_glyph_info_t) : Type 0 where
  pub few : w.kept ≤ at
  pub due : IsDue in_order w.due (take w.kept gs)
  pub known : in_order ≡ true → IsOrdered (clusters (settled_glyphs w.due (take w.kept gs)) ++ clusters (drop at gs))
