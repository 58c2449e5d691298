-- A syllable that was walked up to an index.
use Rattle.std.specs.Prelude.{ℕ, ◌≡◌, ◌-◌, Bool, false, length, slice_range}
use Rattle.buffer_glyphs.specs.Items.{Item}
use Rattle.buffer_core.specs.Sides.{Sides, all_glyphs, items_of}
use Rattle.buffer_stages.specs.Ready.{IsReady}
use Rattle.buffer_stages.specs.Fronts.{StandApart}
use Rattle.buffer_stages.specs.SyllableBuffers.{IsRewritten}
use Rattle.script_universal.specs.Reordering.{left_walk}

-- two items that move to the front together: none do
abbrev pub together : Item → Item → Bool
together x y = false

pub never_together : StandApart together
never_together x y z e = λ i. false

-- the ranges between two indices were walked: whatever the rest of the walk yields then is what the walk from the first
-- index yields
pub record IsWalked (start end i j : ℕ) (old now : Sides) : Type 0 where
  pub ready : IsReady now
  pub size : length (all_glyphs now) ≡ length (all_glyphs old)
  pub does : (new : Sides) → IsRewritten (left_walk (end - start - j) j j (slice_range (items_of now) start end)) start end now new
      → IsRewritten (left_walk (end - start - i) i i (slice_range (items_of old) start end)) start end old new
