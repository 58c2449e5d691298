-- The values within a JSON text.
use Rattle.std.specs.Prelude.{◌≡◌, ℕ, List, Option, Some, None}
use Rattle.json.specs.Token.{Token}
use Rattle.json.specs.Json.{value}
use Rattle.serde_json.specs.Data.{Data, Members}
use Rattle.serde_json.specs.Find.{get_member}
use Rattle.serde_json.specs.Read.{of_json, converted}

-- the tokens begin with the value d, nested at most that deep, and are followed by `rest`
abbrev pub BeginsWith : ℕ → List Token → Data → List Token → Type 0
BeginsWith depth tokens d rest = converted of_json (value depth tokens) ≡ Some (d, rest)

-- what was found of a value, if there is one
abbrev pub IsFound : {A : Type 0} → (Data → A → Type 0) → Option Data → Option A → Type 0
IsFound Means None found = found ≡ None
IsFound Means (Some d) None = ⊥
IsFound Means (Some d) (Some a) = Means d a

-- what was found of the member of a name, the last one where it occurs twice
abbrev pub HasMember : {A : Type 0} → (Data → A → Type 0) → List ℕ → Members → Option A → Type 0
HasMember Means name ms found = IsFound Means (get_member name ms) found
