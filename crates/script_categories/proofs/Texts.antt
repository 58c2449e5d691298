-- Rows of texts after references, and of the texts.
use Rattle.std.proofs.Common.{◌≡◌, ℕ, Bool, true, false, List, [], ◌∷◌, Option, map, find, refl, Bor}
use Rattle.std.specs.Option.{option_map}
use Rattle.std.specs.Str.{bytes_eq}
use Rattle.script_categories.specs.Names.{number_of}

abbrev text_of : Bor (List ℕ) × ℕ → List ℕ × ℕ
text_of row = (row.0.now, row.1)

abbrev number_in : List (Bor (List ℕ) × ℕ) → List ℕ → Option ℕ
number_in rows name = option_map (λ row. row.1) (find (λ row. bytes_eq row.0.now name) rows)

pub numbers_of_texts : (rows : List (Bor (List ℕ) × ℕ)) (name : List ℕ)
    → option_map (λ row. row.1) (find (λ row. bytes_eq row.0.now name) rows) ≡ number_of (map (λ row. (row.0.now, row.1)) rows) name
numbers_of_texts [] name = refl
numbers_of_texts (row ∷ rows) name = by_test (numbers_of_texts rows name) (bytes_eq row.0.now name) refl
  where
    by_test : number_in rows name ≡ number_of (map text_of rows) name → (t : Bool) → bytes_eq row.0.now name ≡ t
        → number_in (row ∷ rows) name ≡ number_of (map text_of (row ∷ rows)) name
    by_test rest true e = rw e refl
    by_test rest false e = rw e rest
