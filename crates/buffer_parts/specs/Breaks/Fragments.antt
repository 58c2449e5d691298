-- A text, and the two fragments that it is broken into.
use Rattle.std.specs.Prelude.{ℕ, ◌≡◌, ◌≤◌, ◌<◌, ◌+◌, ◌*◌, ◌%◌, Bool, true, false, List, [], ◌∷◌, ◌++◌, length, map, take, drop, IsTrue}
use Rattle.buffer_glyphs.specs.Items.{Item}
use Rattle.buffer_glyphs.specs.LigatureWords.{lig_id}
use Rattle.buffer_glyphs.specs.Order.{has_number}
use Rattle.buffer_glyphs.specs.Origins.{numbers}
use Rattle.buffer_core.specs.Readings.{View, BufferState}
use Rattle.buffer_parts.specs.Breaks.Concat.{SameButConcat}

-- ---- ligature numbers

-- the ligature numbers given in a fragment, up to `last`, are numbers given in the whole, up to `given`, under other
-- names: 0 stays none, and no two become one
pub record IsNaming (name : ℕ → ℕ) (last given : ℕ) : Type 0 where
  pub none : name 0 ≡ 0
  pub apart : (m n : ℕ) → m ≤ last → n ≤ last → name m ≡ name n → m ≡ n
  pub within : (n : ℕ) → n ≤ last → name n ≤ given

-- each item's ligature number was given: it is at most the last one
abbrev pub AreGiven : ℕ → List Item → Type 0
AreGiven last [] = Unit {0}
AreGiven last (x ∷ xs) = (lig_id x ≤ last) × AreGiven last xs

-- the ligature numbers given in two fragments have names in the whole, and no two the same
pub record AreNamed (early_name late_name : ℕ → ℕ) (whole earlier later : View) : Type 0 where
  pub early : IsNaming early_name earlier.lig_id whole.lig_id
  pub late : IsNaming late_name later.lig_id whole.lig_id
  pub apart : (m n : ℕ) → m ≤ earlier.lig_id → n ≤ later.lig_id → early_name m ≡ late_name n → (m ≡ 0) × (n ≡ 0)
  pub early_given : AreGiven earlier.lig_id earlier.items
  pub late_given : AreGiven later.lig_id later.items

-- an item with the number of its ligature renamed
abbrev pub with_ligature_renamed : (ℕ → ℕ) → Item → Item
with_ligature_renamed f x = record x { lig_props = f (lig_id x) * 0x2000_0000 + x.lig_props % 0x2000_0000 }

-- ---- fragments

-- the elements of the earlier fragment and those of the later one in the order of the line: where clusters fall, the
-- later ones stand first
abbrev pub as_they_stand : {X : Type 0} → Bool → List X → List X → List X
as_they_stand false earlier later = earlier ++ later
as_they_stand true earlier later = later ++ earlier

-- what stands first on the line, of what belongs to the earlier fragment and what to the later one
abbrev pub standing_first : {X : Type 0} → Bool → X → X → X
standing_first false earlier later = earlier
standing_first true earlier later = later

-- what stands last on the line
abbrev pub standing_last : {X : Type 0} → Bool → X → X → X
standing_last false earlier later = later
standing_last true earlier later = earlier

-- each glyph of a state has an item, a position and an origin
pub record IsWhole (s : BufferState) : Type 0 where
  pub positions : length s.view.positions ≡ length s.view.items
  pub origins : length s.origins ≡ length s.view.items

-- a fragment has the direction, the level and the requests of the whole text
pub record IsFragmentOf (whole fragment : BufferState) : Type 0 where
  pub direction : fragment.view.direction ≡ whole.view.direction
  pub level : fragment.level ≡ whole.level
  pub requests : fragment.asks ≡ whole.asks

-- two states are the fragments of a whole at the start of cluster c, one of clusters below c, the other of c and those
-- above: the items, but for ligature numbers, the positions, and the origins, but for UNSAFE_TO_CONCAT. Each has a glyph.
-- The budget, the limit of length, random state and scratch flags are free
pub record AreFragments (falls : Bool) (c : ℕ) (whole earlier later : BufferState) : Type 0 where
  pub early_name : ℕ → ℕ
  pub late_name : ℕ → ℕ
  pub names : AreNamed early_name late_name whole.view earlier.view later.view
  pub items : whole.view.items ≡ as_they_stand falls (map (with_ligature_renamed early_name) earlier.view.items) (map (with_ligature_renamed late_name) later.view.items)
  pub positions : whole.view.positions ≡ as_they_stand falls earlier.view.positions later.view.positions
  pub origins : SameButConcat whole.origins (as_they_stand falls earlier.origins later.origins)
  pub below : (n : ℕ) → IsTrue (has_number (numbers earlier.origins) n) → n < c
  pub above : (n : ℕ) → IsTrue (has_number (numbers later.origins) n) → c ≤ n
  pub early_some : 0 < length earlier.origins
  pub late_some : 0 < length later.origins
  pub early_whole : IsWhole earlier
  pub late_whole : IsWhole later
  pub early_of : IsFragmentOf whole earlier
  pub late_of : IsFragmentOf whole later

-- the first n glyphs of a state
abbrev pub first_glyphs : ℕ → BufferState → BufferState
first_glyphs n s = record s { view = record s.view { items = take n s.view.items; positions = take n s.view.positions }; origins = take n s.origins }

-- the glyphs of a state from the index n on
abbrev pub glyphs_from : ℕ → BufferState → BufferState
glyphs_from n s = record s { view = record s.view { items = drop n s.view.items; positions = drop n s.view.positions }; origins = drop n s.origins }

-- the clusters of the first n glyphs are below c, and those of the others are not; there are both, and no ligature has a
-- number
pub record IsDividedAt (n c : ℕ) (s : BufferState) : Type 0 where
  pub some : 0 < n
  pub more : n < length s.origins
  pub none_given : s.view.lig_id ≡ 0
  pub unnumbered : AreGiven 0 s.view.items
  pub below : (m : ℕ) → IsTrue (has_number (numbers (take n s.origins)) m) → m < c
  pub above : (m : ℕ) → IsTrue (has_number (numbers (drop n s.origins)) m) → c ≤ m
