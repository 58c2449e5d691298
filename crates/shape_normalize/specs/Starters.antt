-- The walk from starter to starter in an open output.
use Rattle.std.specs.Prelude.{ℕ, ◌≡◌, ◌<◌, ◌+◌, ◌==◌, ◌++◌, if◌then◌else◌, List, ◌∷◌, length, Option, Some, None, option_map}
use Rattle.buffer_glyphs.specs.Items.{Item, strip}
use Rattle.buffer_core.specs.Sides.{Sides, all_glyphs, after_next_glyphs}
use Rattle.buffer_properties.specs.Characters.{mark_class, standing_for, with_glyph}
use Rattle.buffer_glyphs.specs.Rewriting.{eventless_arrangement}
use Rattle.buffer_properties.specs.Composing.{composite, composed_list, composition_from}
use Rattle.buffer_properties.specs.Normalizer.{Normalizer}
use Rattle.shape_normalize.specs.Composed.{IsComposed}

-- an item with another character and the font's glyph of it
abbrev pub become : Normalizer → Item → Option (ℕ × ℕ) → Option Item
become c x found = option_map (λ p. with_glyph p.1 (standing_for c.tables p.0 x)) found

-- the state of the walk: the length of the output up to the last starter, the starter, the items between it and the
-- cursor, the current item, and the input after it
pub record IsAt (n : ℕ) (done : List Item) (x : Item) (between : List Item) (y : Item) (ys : List Item) (s : Sides) : Type 0 where
  pub behind : strip s.behind ≡ done ++ x ∷ between
  pub starts : length done ≡ n
  pub ahead : strip s.ahead ≡ y ∷ ys

-- the composite of the current item and the last starter, where there is one
abbrev pub Composites : Normalizer → ℕ → Option (ℕ × ℕ) → Sides → Type 0
Composites c n found s = (done : List Item) (x : Item) (between : List Item) (y : Item) (ys : List Item) → IsAt n done x between y ys s → become c x found ≡ composite c x between y

-- the current item was output, and is the last starter where its class is 0
pub record IsPassed (n m : ℕ) (y : Item) (old new : Sides) : Type 0 where
  pub starter : m ≡ (if mark_class y == 0 then length old.behind else n)
  pub moved : new ≡ after_next_glyphs 1 old
  pub kept : all_glyphs new ≡ all_glyphs old

-- the current item was output, and a call returns the index of the last starter
abbrev pub Passes : ℕ → ℕ → Sides → Sides → Type 0
Passes n m old new = (y : Item) (ys : List Item) → strip old.ahead ≡ y ∷ ys → IsPassed n m y old new

-- the current item was composed with the last starter, or was output
abbrev pub Joins : Option Item → ℕ → ℕ → Item → Sides → Sides → Type 0
Joins (Some z) n m y old new = (m ≡ n) × IsComposed n z old new
Joins None n m y old new = IsPassed n m y old new

-- one step of the walk: the current item is composed with the last starter, or output
abbrev pub Composes : Normalizer → ℕ → ℕ → Sides → Sides → Type 0
Composes c n m old new = (done : List Item) (x : Item) (between : List Item) (y : Item) (ys : List Item) → IsAt n done x between y ys old → Joins (composite c x between y) n m y old new

-- ---- the marks before the first one that is composed

-- the mark at one index is not composed with the starter at another
abbrev pub StaysApart : Normalizer → ℕ → ℕ → List Item → Type 0
StaysApart c n at xs = (done : List Item) (x : Item) (between : List Item) (y : Item) (ys : List Item) → xs ≡ done ++ x ∷ (between ++ y ∷ ys) → length done ≡ n → length done + 1 + length between ≡ at
    → composite c x between y ≡ None

-- no mark before an index is composed; the last starter before it is at another one
pub record IsUncomposed (c : Normalizer) (at n : ℕ) (xs : List Item) : Type 0 where
  pub done : List Item
  pub x : Item
  pub between : List Item
  pub ys : List Item
  pub pieces : xs ≡ done ++ x ∷ (between ++ ys)
  pub starts : length done ≡ n
  pub ends : length done + 1 + length between ≡ at
  pub whole : composed_list c xs ≡ composition_from c done x between ys

-- what a search for the first mark that is composed answers: None where none is; else no mark before the index that it
-- found is composed, and the last starter before that is at the other one
abbrev pub FindsComposition : Normalizer → Option (ℕ × ℕ) → List Item → Type 0
FindsComposition c None xs = composed_list c xs ≡ eventless_arrangement xs
FindsComposition c (Some p) xs = IsUncomposed c p.0 p.1 xs × (p.0 < length xs)
