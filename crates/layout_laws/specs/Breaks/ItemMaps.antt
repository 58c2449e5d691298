-- Stages that change each item by itself.
use Rattle.std.specs.Prelude.{ℕ, ◌≡◌, Bool}
use Rattle.buffer_glyphs.specs.Items.{Item}
use Rattle.buffer_glyphs.specs.LigatureWords.{lig_id}
use Rattle.buffer_core.specs.Readings.{always}
use Rattle.buffer_stages.specs.Stages.{with_items_mapped}
use Rattle.buffer_parts.specs.Breaks.Divisible.{IsDivisible}
use Rattle.buffer_parts.specs.Breaks.Fragments.{with_ligature_renamed}

-- a change of an item spares ligature numbers: it depends on none, and keeps the item's
pub record SparesNumbers (f : Item → Item) : Type 0 where
  pub renamed : (name : ℕ → ℕ) (x : Item) → f (with_ligature_renamed name x) ≡ with_ligature_renamed name (f x)
  pub kept : (x : Item) → lig_id (f x) ≡ lig_id x

-- law: a stage that changes each item by itself, and spares ligature numbers, is divisible; it may read which component an item belongs to
abbrev pub ItemMapsAreDivisible : Type 0
ItemMapsAreDivisible = (falls : Bool) (f : Item → Item) → SparesNumbers f → IsDivisible falls falls (always (with_items_mapped f)) (always (with_items_mapped f)) (always (with_items_mapped f))
