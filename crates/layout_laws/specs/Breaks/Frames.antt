-- A list cut in two, and the same cut in a longer list, with other items before and after it.
use Rattle.std.specs.Prelude.{ℕ, ℤ, ◌≡◌, ◌≤◌, ◌<◌, ◌+◌, ◌⊎◌, List, [], ◌∷◌, ◌++◌, length, map}
use Rattle.buffer_glyphs.specs.Items.{Item, Position}
use Rattle.buffer_glyphs.specs.LigatureWords.{lig_id}
use Rattle.buffer_stages.specs.Actions.{Cut}
use Rattle.buffer_parts.specs.Breaks.Fragments.{with_ligature_renamed, IsNaming, AreGiven}

-- what stands around a fragment of a text
pub record Outside : Type 0 where
  pub before : List Item
  pub after : List Item
  pub left : List Position
  pub right : List Position

-- what a text has in other words than its fragment: the names of ligature numbers, the last of them, and the rest of the state that
-- rules keep
pub record Inside : Type 0 where
  pub name : ℕ → ℕ
  pub lig_id : ℕ
  pub max_ops : ℤ
  pub random : ℕ
  pub max_len : ℕ
  pub scratch_flags : ℕ

-- items of a fragment, under the names that its ligature numbers have in the text
abbrev pub named_items : Inside → List Item → List Item
named_items s xs = map (with_ligature_renamed s.name) xs

-- a cut of a fragment, in the text
abbrev pub framed_cut : Outside → Inside → Cut → Cut
framed_cut o s c = record {
  front = o.before ++ named_items s c.front;
  rest = named_items s c.rest ++ o.after;
  positions = o.left ++ c.positions ++ o.right;
  lig_id = s.lig_id;
  max_ops = s.max_ops;
  random = s.random;
  max_len = s.max_len;
  scratch_flags = s.scratch_flags;
}

-- no item has the name of a ligature number of the fragment, but for 0, which is none
abbrev pub AreForeign : (ℕ → ℕ) → ℕ → List Item → Type 0
AreForeign name last [] = Unit {0}
AreForeign name last (y ∷ ys) = ((n : ℕ) → n ≤ last → name n ≡ lig_id y → n ≡ 0) × AreForeign name last ys

-- more ligature numbers were given: those of a fragment before have the names that they had, and new ones have new names
pub record IsExtended (s : Inside) (c : Cut) (t : Inside) (d : Cut) : Type 0 where
  pub up : s.lig_id ≤ t.lig_id
  pub names : (n : ℕ) → n ≤ d.lig_id → ((n ≤ c.lig_id) × (t.name n ≡ s.name n)) ⊎ (s.lig_id < t.name n)

-- a cut of a fragment is framed by a text: ligature numbers are known in both, and no number of the fragment is outside, where there
-- is some item
pub record IsFramed (o : Outside) (s : Inside) (c : Cut) : Type 0 where
  pub names : IsNaming s.name c.lig_id s.lig_id
  pub front : AreGiven c.lig_id c.front
  pub rest : AreGiven c.lig_id c.rest
  pub before : AreGiven s.lig_id o.before
  pub after : AreGiven s.lig_id o.after
  pub foreign_before : AreForeign s.name c.lig_id o.before
  pub foreign_after : AreForeign s.name c.lig_id o.after
  pub some : 0 < length o.before + length o.after
