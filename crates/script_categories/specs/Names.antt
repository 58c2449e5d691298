-- Numbers by their names, and lists of numbers.
use Rattle.std.specs.Prelude.{◌≡◌, ℕ, List, map, find, Option, All, Some}
use Rattle.std.specs.List.{enumerate_from}
use Rattle.std.specs.Option.{option_map}
use Rattle.std.specs.Str.{bytes_eq}

-- the number of a name, if it is in the list
abbrev pub number_of : List (List ℕ × ℕ) → List ℕ → Option ℕ
number_of rows name = option_map (λ row. row.1) (find (λ row. bytes_eq row.0 name) rows)

-- the numbers of a list are 0, 1, 2 and so on
abbrev pub AreInOrder : List ℕ → Type 0
AreInOrder numbers = numbers ≡ map (λ place. place.0) (enumerate_from 0 numbers)

-- the number of each row's name is that row's number
abbrev pub NamesLeadBack : List (List ℕ × ℕ) → Type 0
NamesLeadBack rows = All (λ row. number_of rows row.0 ≡ Some row.1) rows

-- the numbers of a list are 0, 1, 2 and so on, each with a name of its own
pub record AreNumbered (rows : List (List ℕ × ℕ)) : Type 0 where
  pub numbers : AreInOrder (map (λ row. row.1) rows)
  pub names : NamesLeadBack rows
