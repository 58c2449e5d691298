-- Laws over tables and texts.
use Rattle.std.specs.Prelude.{ℕ, ◌≡◌, ◌∷◌, ◌++◌, List, Some}
use Rattle.buffer_unicode_tables.specs.Expansion.{EndWithin}
use Rattle.buffer_unicode_tables.specs.Lawful.{IsLawful}
use Rattle.buffer_unicode_tables.specs.Tables.{Tables, split_of, pair_of}
use Rattle.buffer_unicode_tables.specs.Texts.{full_text, text_order, IsSplit, IsStep, AreEquivalent}

-- where the second halves of decompositions don't decompose, a decomposition changes no full expansion
abbrev pub SplitsKeepExpansion : Type 0
SplitsKeepExpansion = (t : Tables) → EndWithin (split_of t) 8 → IsLawful t → (xs ys : List ℕ) → IsSplit t xs ys → full_text t xs ≡ full_text t ys

-- under lawful tables a step keeps the class order of the full expansion
abbrev pub StepsKeepOrder : Type 0
StepsKeepOrder = (t : Tables) → EndWithin (split_of t) 8 → IsLawful t → (xs ys : List ℕ) → IsStep t xs ys → text_order t (full_text t xs) ≡ text_order t (full_text t ys)

-- equivalent texts have the same class order when fully expanded
abbrev pub EquivalentsHaveOneOrder : Type 0
EquivalentsHaveOneOrder = (t : Tables) → EndWithin (split_of t) 8 → IsLawful t → (xs ys : List ℕ) → AreEquivalent t xs ys → text_order t (full_text t xs) ≡ text_order t (full_text t ys)

-- a composition keeps the class order of the full expansion
abbrev pub PairsKeepOrder : Type 0
PairsKeepOrder = (t : Tables) → IsLawful t → (front back : List ℕ) (a b u : ℕ) → pair_of t a b ≡ Some u
    → text_order t (full_text t (front ++ u ∷ back)) ≡ text_order t (full_text t (front ++ a ∷ b ∷ back))
