-- Changes of items and positions that depend on no ligature number.
use Rattle.std.specs.Prelude.{ℕ, ◌≡◌, ◌≤◌}
use Rattle.buffer_glyphs.specs.Items.{Item, Position}
use Rattle.buffer_glyphs.specs.LigatureWords.{lig_id}
use Rattle.buffer_parts.specs.Breaks.Fragments.{with_ligature_renamed}

-- a change of a position by its item doesn't read the item's ligature word
abbrev pub IgnoresLigatures : (Item → Position → Position) → Type 0
IgnoresLigatures k = (n : ℕ) (x : Item) (p : Position) → k (record x { lig_props = n }) p ≡ k x p

-- a change of an item is the same under every name of its ligature, and brings no new number
pub record RenamesAlike (f : Item → Item) : Type 0 where
  pub renamed : (name : ℕ → ℕ) (x : Item) → name 0 ≡ 0 → f (with_ligature_renamed name x) ≡ with_ligature_renamed name (f x)
  pub given : (last : ℕ) (x : Item) → lig_id x ≤ last → lig_id (f x) ≤ last
