-- Whether a search finds something, and what is made of it.
use Rattle.std.proofs.Common.{◌≡◌, Bool, true, false, cond, ◌||◌, List, [], ◌∷◌, Option, Some, None, is_some, find, option_map, refl}
use Rattle.std.specs.List.{list_any}

-- a search finds something exactly where one passes the test
pub found_any : {X : Type 0} (test : X → Bool) (xs : List X) → is_some (find test xs) ≡ list_any test xs
found_any test [] = refl
found_any test (x ∷ xs) = by_test (test x) (found_any test xs)
  where
    by_test : (t : Bool) → is_some (find test xs) ≡ list_any test xs → is_some (cond t (Some x) (find test xs)) ≡ (t || list_any test xs)
    by_test true e = refl
    by_test false e = e

-- what is made of it is there where it is
pub mapped_some : {X Y : Type 0} (f : X → Y) (o : Option X) → is_some (option_map f o) ≡ is_some o
mapped_some f None = refl
mapped_some f (Some x) = refl
