-- What the calls that make a ligature leave of a buffer.
use Rattle.std.specs.Prelude.{ℕ, ◌≡◌, ◌≤◌, ◌+◌, List, [], ◌∷◌, ◌++◌, length, map, take, drop}
use Rattle.buffer_glyphs.specs.Items.{Item, strip}
use Rattle.buffer_glyphs.specs.Levels.{InList}
use Rattle.buffer_glyphs.specs.Origins.{origins}
use Rattle.buffer_glyphs.specs.Events.{Merge}
use Rattle.buffer_core.specs.Sides.{Sides, origins_of, origins_by}
use Rattle.buffer_stages.specs.Buffers.{cut_of, HasHappened, IsStill}
use Rattle.layout_gsub.specs.Ligating.{component_deletions}

-- indices that rise from one on
abbrev pub AreRising : ℕ → List ℕ → Type 0
AreRising from [] = Unit {0}
AreRising from (i ∷ places) = (from ≤ i) × AreRising (i + 1) places

-- the end of rising indices: the index after the last
abbrev pub end_of : ℕ → List ℕ → ℕ
end_of from [] = from
end_of from (i ∷ places) = end_of (i + 1) places

-- the glyph at the cursor was output as an item, from its origin
pub record IsPassedAs (x : Item) (old new : Sides) : Type 0 where
  pub items : strip new.behind ≡ strip old.behind ++ x ∷ []
  pub origin : origins new.behind ≡ origins old.behind ++ take 1 (origins old.ahead)
  pub others : new ≡ record old { behind = new.behind; ahead = drop 1 old.ahead; read = old.read + 1 }
  pub within : length new.behind ≤ new.max_len

-- n glyphs were output, each as an item that is made of its own
pub record ArePassedAs (f : Item → Item) (n : ℕ) (old new : Sides) : Type 0 where
  pub items : strip new.behind ≡ strip old.behind ++ map f (take n (strip old.ahead))
  pub origin : origins new.behind ≡ origins old.behind ++ take n (origins old.ahead)
  pub others : new ≡ record old { behind = new.behind; ahead = drop n old.ahead; read = old.read + n }
  pub within : length old.behind ≤ old.max_len → length new.behind ≤ new.max_len

-- the glyph at the cursor was output as an item, then the glyphs between it and the other components, which were
-- deleted
pub record AreUnited (first : Item) (passed : List Item) (places : List ℕ) (old new : Sides) : Type 0 where
  pub items : strip new.behind ≡ strip old.behind ++ first ∷ passed
  pub ahead : strip new.ahead ≡ drop (end_of 1 places) (strip old.ahead)
  pub origin : origins_of new ≡ origins_by (component_deletions (length old.behind) 0 places) old
  pub others : new ≡ record old { behind = new.behind; ahead = new.ahead; read = old.read + end_of 1 places }
  pub within : length new.behind ≤ new.max_len

-- the first `end` glyphs from the cursor on were merged, and a ligature number was given out
pub record IsMerged (end lig_id : ℕ) (old new : Sides) : Type 0 where
  pub cut_is : cut_of new ≡ record (cut_of old) { lig_id = lig_id }
  pub happened : HasHappened (Merge InList (length old.behind) (length old.behind + end) ∷ []) old new
  pub still : IsStill old new
  pub read : new.read ≡ old.read

-- other items ahead of the cursor, with the origins of those there
pub record IsRenumbered (ahead : List Item) (old new : Sides) : Type 0 where
  pub items : strip new.ahead ≡ ahead
  pub origin : origins new.ahead ≡ origins old.ahead
  pub others : new ≡ record old { ahead = new.ahead }
