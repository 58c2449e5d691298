-- Positions of a fragment, in a text and alone.
use Rattle.std.specs.Prelude.{ℕ, ℤ, pos, ◌≡◌, ◌<◌, ◌==◌, ◌&&◌, ◌⊎◌, Bool, true, false, List, ◌++◌, length, reverse, Option, Some, None}
use Rattle.buffer_glyphs.specs.Items.{Item, Position}
use Rattle.buffer_glyphs.specs.LigatureWords.{lig_id}
use Rattle.buffer_glyphs.specs.Parts.{first_of}
use Rattle.buffer_stages.specs.Actions.{Cut, whole}
use Rattle.layout_offsets.specs.Links.{position_at, is_near, link_to}
use Rattle.layout_offsets.specs.Finishing.{has_attachments}
use Rattle.layout_gpos.specs.Marks.{is_later_component}
use Rattle.layout_laws.specs.Breaks.Frames.{Outside}

-- ---- links

-- the link of position i among n leads to one of them that is near enough, or there is none
abbrev pub LeadsInside : ℕ → ℕ → ℤ → Type 0
LeadsInside n i link = (link ≡ pos 0) ⊎ ((j : ℕ) × (j < n) × (is_near i j ≡ true) × (link ≡ link_to i j))

-- each link of positions does
abbrev pub LeadInside : List Position → Type 0
LeadInside ps = (i : ℕ) → i < length ps → LeadsInside (length ps) i (position_at i ps).attach_chain

-- no position has a link
abbrev pub AreLinkless : List Position → Type 0
AreLinkless ps = (i : ℕ) → (position_at i ps).attach_chain ≡ pos 0

-- where no glyph was attached, by the scratch flags, no position has a link
abbrev pub AreFlagged : ℕ → List Position → Type 0
AreFlagged scratch_flags ps = has_attachments scratch_flags ≡ false → AreLinkless ps

-- ---- components of multiple substitutions

-- whether an item is a later component of the one directly before it, where no ligature has both
abbrev pub continues : Item → Item → Bool
continues y x = lig_id x == 0 && is_later_component (Some y) x

-- of two items, one directly after the other, the second is no such component, if there are both
abbrev pub AreApart : Option Item → Option Item → Type 0
AreApart None x = Unit {0}
AreApart (Some y) None = Unit {0}
AreApart (Some y) (Some x) = continues y x ≡ false

-- ---- a fragment with its positions

-- each item of a fragment has a position, and so has each before it; links lead inside the fragment; and its first item is no later
-- component of the item before the fragment
pub record ArePlaced (o : Outside) (c : Cut) : Type 0 where
  pub left : length o.left ≡ length o.before
  pub positions : length c.positions ≡ length (whole c)
  pub links : LeadInside c.positions
  pub apart : AreApart (first_of (reverse o.before)) (first_of (whole c))

-- positions of a fragment, in the text
abbrev pub around : Outside → List Position → List Position
around o ps = o.left ++ ps ++ o.right
