-- Links between the glyphs of one text.
use Rattle.std.specs.Prelude.{ℕ, pos, ◌≡◌, ◌⊎◌, false, List, Some}
use Rattle.buffer_glyphs.specs.Items.{Position}
use Rattle.buffer_core.specs.Readings.{View}
use Rattle.layout_offsets.specs.Finishing.{has_attachments}
use Rattle.layout_offsets.specs.Links.{parent, position_at}

-- the link of a position leads to another of the list, or is none
abbrev pub LeadsInside : ℕ → List Position → Type 0
LeadsInside i ps = ((position_at i ps).attach_chain ≡ pos 0) ⊎ ((j : ℕ) × (parent i ps ≡ Some j))

-- each link does
abbrev pub AllLeadInside : List Position → Type 0
AllLeadInside ps = (i : ℕ) → LeadsInside i ps

-- there is no link
abbrev pub AreUnlinked : List Position → Type 0
AreUnlinked ps = (i : ℕ) → (position_at i ps).attach_chain ≡ pos 0

-- each link of a text leads to a glyph of it, and there is none where no glyph is said to be attached
pub record IsLinked (v : View) : Type 0 where
  pub inside : AllLeadInside v.positions
  pub flagged : has_attachments v.scratch_flags ≡ false → AreUnlinked v.positions
