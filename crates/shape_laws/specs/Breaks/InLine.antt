-- Where a shaped text may be cut, and what its two pieces show.
use Rattle.std.specs.Prelude.{ℕ, ◌≡◌, Bool, false, IsTrue, List, map}
use Rattle.buffer_glyphs.specs.Items.{Item}
use Rattle.buffer_glyphs.specs.Order.{has_number}
use Rattle.buffer_glyphs.specs.Origins.{numbers}
use Rattle.buffer_core.specs.Readings.{BufferState, Read, state_after}
use Rattle.buffer_parts.specs.Breaks.Concat.{SameButConcat}
use Rattle.buffer_parts.specs.Breaks.Fragments.{as_they_stand}
use Rattle.buffer_parts.specs.Breaks.Unsafe.{has_flagged_of}
use Rattle.shape_pipeline.specs.Limits.{final_view}
use Rattle.shape_pipeline.specs.Shaping.{Shaping}

-- a shaped text may be cut before cluster c: it has glyphs of the cluster, and none of these has UNSAFE_TO_BREAK
pub record MayBeCutAt (c : ℕ) (s : BufferState) : Type 0 where
  pub there : IsTrue (has_number (numbers s.origins) c)
  pub safe : has_flagged_of c s.origins ≡ false

-- the glyph numbers of items
abbrev pub glyph_numbers : List Item → List ℕ
glyph_numbers xs = map (λ (x : Item). x.number) xs

-- a shaped text shows two others one after the other, where clusters fall the later one first: the glyphs, the positions,
-- the clusters, and the flags but for UNSAFE_TO_CONCAT
pub record ShowsBoth (falls : Bool) (whole earlier later : BufferState) : Type 0 where
  pub glyphs : glyph_numbers whole.view.items ≡ as_they_stand falls (glyph_numbers earlier.view.items) (glyph_numbers later.view.items)
  pub positions : whole.view.positions ≡ as_they_stand falls earlier.view.positions later.view.positions
  pub clusters : numbers whole.origins ≡ as_they_stand falls (numbers earlier.origins) (numbers later.origins)
  pub flags : SameButConcat whole.origins (as_they_stand falls earlier.origins later.origins)

-- a text at the end of shaping, of which something was read up to the reset of its limits
abbrev pub final_state : Shaping → Read → BufferState → BufferState
final_state p r s = state_after (final_view p.direction r.view) (state_after r s)
