-- Texts over the tables: full expansion and equivalence (UAX 15, canonical decomposition and canonical equivalence).
use Rattle.std.specs.Prelude.{ℕ, ◌≡◌, ◌≢◌, List, [], ◌∷◌, ◌++◌, Some}
use Rattle.std.specs.List.{flat_map}
use Rattle.buffer_unicode_tables.specs.ClassOrder.{class_order}
use Rattle.buffer_unicode_tables.specs.Expansion.{with_second_piece, expansion_by_splits}
use Rattle.buffer_unicode_tables.specs.Tables.{Tables, split_of, class_of}

-- the full expansion of the first half, then the second half as it is; the character itself where it doesn't decompose
abbrev pub full_expansion : Tables → ℕ → List ℕ
full_expansion t u = expansion_by_splits (split_of t) 8 u

-- the full expansion of a text
abbrev pub full_text : Tables → List ℕ → List ℕ
full_text t xs = flat_map (full_expansion t) xs

-- the class order of a text by the tables
abbrev pub text_order : Tables → List ℕ → List ℕ
text_order t xs = class_order (class_of t) xs

-- a character is replaced by its decomposition
pub record IsSplit (t : Tables) (xs ys : List ℕ) : Type 0 where
  pub front : List ℕ
  pub whole : ℕ
  pub first : ℕ
  pub second : ℕ
  pub back : List ℕ
  pub splits : split_of t whole ≡ Some (first, second)
  pub is_before : xs ≡ front ++ whole ∷ back
  pub is_after : ys ≡ front ++ (with_second_piece second (first ∷ []) ++ back)

-- neighbours of distinct nonzero class are exchanged (UAX 15, D108, reorderable pair)
pub record IsSwap (t : Tables) (xs ys : List ℕ) : Type 0 where
  pub front : List ℕ
  pub first : ℕ
  pub second : ℕ
  pub back : List ℕ
  pub first_nonzero : class_of t first ≢ 0
  pub second_nonzero : class_of t second ≢ 0
  pub apart : class_of t first ≢ class_of t second
  pub is_before : xs ≡ front ++ first ∷ second ∷ back
  pub is_after : ys ≡ front ++ second ∷ first ∷ back

-- one step between equivalent texts
pub data IsStep (t : Tables) (xs ys : List ℕ) : Type 0 where
  splits : IsSplit t xs ys → IsStep t xs ys
  joins : IsSplit t ys xs → IsStep t xs ys
  swaps : IsSwap t xs ys → IsStep t xs ys

-- finitely many steps lead from one text to the other
pub data AreEquivalent (t : Tables) (xs : List ℕ) : List ℕ → Type 0 where
  same : AreEquivalent t xs xs
  then_step : (ys zs : List ℕ) → AreEquivalent t xs ys → IsStep t ys zs → AreEquivalent t xs zs
