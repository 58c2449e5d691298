-- What is known of the order of clusters.
use Rattle.std.specs.Prelude.{ℕ, ◌≡◌, ◌∷◌, Bool, true, false, List, Option, Some, None, slice_set}
use Rattle.buffer_glyphs.specs.Parts.{last_from}
use Rattle.buffer_glyphs.specs.Order.{IsInOrder, IsFalling, IsRising}
use Rattle.buffer_lists.specs.declared.order.KnownOrder.{KnownOrder}
use Rattle.buffer_lists.specs.declared.order.KnownOrder.TheVariants.{Unknown, Rising, Falling}
use Rattle.buffer_lists.specs.declared.order.Lent.{Lent}

-- the clusters are in the order that is known of them
abbrev pub HasOrder : KnownOrder → List ℕ → Type 0
HasOrder Unknown ns = Unit {0}
HasOrder Rising ns = IsInOrder false ns
HasOrder Falling ns = IsInOrder true ns

-- whether an order is known
abbrev pub is_known : KnownOrder → Bool
is_known Unknown = false
is_known Rising = true
is_known Falling = true

-- the clusters of a list, with that of a lent glyph as it was
abbrev pub known_clusters : Option Lent → List ℕ → List ℕ
known_clusters None ns = ns
known_clusters (Some l) ns = slice_set ns l.at l.cluster

-- a number and those after it never decrease, and n is the last of them
pub record IsRisingTo (start : ℕ) (ns : List ℕ) (n : ℕ) : Type 0 where
  pub rises : IsRising (start ∷ ns)
  pub last : last_from start ns ≡ n

-- a number and those after it never increase, and n is the last of them
pub record IsFallingTo (start : ℕ) (ns : List ℕ) (n : ℕ) : Type 0 where
  pub falls : IsFalling (start ∷ ns)
  pub last : last_from start ns ≡ n
